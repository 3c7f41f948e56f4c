-- A fill serves: a check made again at once is answered by the buffer, with no load. Assumes nothing.
use Prim.Native.Nat.{ℕ, zero, suc, ◌-◌, ◌*◌, ◌/◌, ◌≤◌, ◌<◌}
use mathlib.Core.Path.{◌≡◌, refl, ap, ◌∙◌}
use mathlib.Core.Logic.{⊎_elim}
use mathlib.Core.Bool.{Bool, true, false, cond}
use mathlib.Core.List.{List, [], ◌∷◌}
use native.Mathlib.Omega.{arith}
use native.Mathlib.Nat.{not-suc-le-zero, le_of_suc-le-suc}
use lib.ListN.{length, set}
use borrow.Author.Tests.{eq-eqb}
use Rattle.theory.specs.Pool.{words, entry}
use Rattle.theory.proofs.WalkLaws.{decides_low, decides_says}
use Rattle.refusals.specs.declared.Refusal.TheVariants.{NotSound}
use Rattle.table.specs.declared.Shape.{Shape}
use Rattle.table.specs.declared.Deciding.{Deciding}
use Rattle.table.specs.Map.{form_of}
use Rattle.table.specs.Lookup.{lookup_of}
use Rattle.table.proofs.LookupLaws.{right_found, right_loads}
use Rattle.lookaside.specs.declared.Slot.{Slot}
use Rattle.std.specs.Prelude.{Option, Some, None, Ok, Err}
use Rattle.lookaside.specs.Slots.{Buffer, block_bytes, good_entry, matches, first_match, slot_for}
use Rattle.lookaside.specs.Check.{refusal_of, walked, answered, check_of}
use Rattle.lookaside.proofs.SlotLaws.{range_level, match_test}
use Rattle.lookaside.proofs.CheckLaws.{Allowed, allowed, check_answered}
use Rattle.lookaside.proofs.VerdictLaws.{lookup_cases}

-- A good entry that does not lead is good rights for its level.
good_entry_lem : (s : Shape) (h w : ℕ) → h ≤ 2 → (form_of s).good h w ≡ true → (form_of s).leads h w ≡ false
    → good_entry (3 - h) w ≡ true
good_entry_lem s zero w l g n = refl
good_entry_lem s (suc zero) w l g n = rw n at g
good_entry_lem s (suc (suc zero)) w l g n = rw n at g
good_entry_lem s (suc (suc (suc h))) w l g n = absurd (omega arith)

filling_matches : (p : List ℕ) (s : Shape) (d a : ℕ) (x : Deciding) → lookup_of p s d a ≡ Ok x
    → matches (slot_for d a x.entry x.loads) d a ≡ true
filling_matches p s d a x e =
    let w = x.entry in
    let n = x.loads in
    let (h, k, z, _, q, o) = right_found p s d a x e in
    let hi = decides_low (form_of s) (words p) a (λ v. refl) 2 (entry (form_of s) d a) z in
    let y = decides_says (form_of s) (λ v. refl) (words p) d a z in
    let (lo, up) = right_loads p s d a x e in
    let g : good_entry n w ≡ true =
    ap (λ m. good_entry m w) o ∙ ap (λ v. good_entry (3 - h) v) q ∙ good_entry_lem s h (words p k) hi y.good y.rights in
    rw (match_test (slot_for d a w n) d a, eq-eqb d d refl, range_level n lo up, eq-eqb (a / block_bytes n * block_bytes n) (a / block_bytes n * block_bytes n) refl, g)

first_set : (l : List Slot) (i d a : ℕ) (s : Slot) → i < length l → matches s d a ≡ true → (t : Slot)
    × (first_match (set l i s) d a ≡ Some t)
unfolding first_match
first_set [] i d a s h m = absurd (not-suc-le-zero h)
first_set (x ∷ xs) zero d a s h m = (s, rw m)
first_set (x ∷ xs) (suc i) d a s h m = go (matches x d a) (first_set xs i d a s (le_of_suc-le-suc h) m)
  where
    go : (b : Bool) → (t : Slot) × (first_match (set xs i s) d a ≡ Some t) → (t : Slot)
        × (cond b (Some x) (first_match (set xs i s) d a) ≡ Some t)
    go true t = (x, refl)
    go false t = t

pub check_again : (p : List ℕ) (s : Shape) (b : Buffer) (d kind size a : ℕ) → b.next < length b.slots
    → refusal_of s (length p) b.next d kind size a ≡ Ok tt → (lookup_of p s d a ≡ Err NotSound → ⊥)
    → (t : Slot) × (first_match (check_of p s b d kind size a).buffer.slots d a ≡ Some t)
check_again p s b d kind size a l e sound = rw (check_answered p s b d kind size a e)
    (go (first_match b.slots d a) refl)
  where
    ok : Allowed s (length p) b.next d kind size a
    ok = allowed s (length p) b.next d kind size a e

    go : (h : Option Slot) → first_match b.slots d a ≡ h → (t : Slot)
        × (first_match (answered h p s b d kind a).buffer.slots d a ≡ Some t)
    go (Some t) h = (t, h)
    go None h = ⊎_elim (λ k. absurd (sound k))
        (λ k. let (x, q) = k in
        let (t, u) = first_set b.slots b.next d a (slot_for d a x.entry x.loads) l
        (filling_matches p s d a x q) in
        (t, ap (λ f. first_match (walked f b d kind a).buffer.slots d a) q ∙ u))
        (lookup_cases p s d a ok.fits ok.domain)
