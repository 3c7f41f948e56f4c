-- Laws of exports: the one given is there, the others stay, and a region passed on has none.
use Prim.Native.Nat.{ℕ, ◌<◌}
use mathlib.Core.Path.{◌≡◌, ap}
use mathlib.Core.Bool.{true, ◌&&◌}
use borrow.Author.Tests.{lt-ltb, eq-eqb}
use lib.Dec.{eqb, ltb}
use Rattle.std.specs.Int.{bit_at}
use Rattle.owners.specs.declared.Owned.{Owned}
use Rattle.owners.specs.Rules.{export_domains, exports, export_of}
use Rattle.owners.specs.Calls.{with_bit, with_export}
use Rattle.owners.proofs.BitLaws.{with_bit_set, with_bit_other, with_right_here, with_right_other}

module _ (r : Owned) (d q : ℕ) where
  pub export_given : d < export_domains → exports (with_export r d q) d ≡ true
  export_given h = rw (lt-ltb d export_domains h) (eq-eqb (bit_at (with_bit r.given d) d) 1 (with_bit_set r.given d))

  pub export_right : q < 4 → export_of (with_export r d q) d ≡ q
  export_right h = with_right_here r.rights d q h

  pub export_kept : (k : ℕ) → (k ≡ d → ⊥) → exports (with_export r d q) k ≡ exports r k
  export_kept k n = ap (λ b. ltb k export_domains && eqb b 1) (with_bit_other r.given d k n)

  pub export_right_kept : (k : ℕ) → (k ≡ d → ⊥) → q < 4 → export_of (with_export r d q) k ≡ export_of r k
  export_right_kept k n h = with_right_other r.rights d k q n h
