-- Laws of slots: what a match says, as facts and as the program tests it. Assumes nothing.
use Prim.Native.Nat.{ℕ, zero, suc, ◌+◌, ◌*◌, ◌/◌, ◌%◌, ◌≤◌, ◌<◌}
use mathlib.Core.Path.{◌≡◌, refl, sym, ap, ◌∙◌}
use mathlib.Core.Bool.{Bool, true, false, ◌&&◌, ◌||◌, false≢true}
use mathlib.Core.List.{List}
use native.Mathlib.Omega.{arith}
use Rattle.std.specs.List.{find}
use lib.Dec.{eqb, leb, ltb}
use borrow.Author.Tests.{eqb-true, leb-true, ltb-true, eq-eqb, le-leb}
use Rattle.table.specs.Map.{block}
use Rattle.lookaside.specs.declared.Slot.{Slot}
use Rattle.lookaside.specs.Slots.{is_level, height_of, block_bytes, holds, holds_for, in_block, good_entry, matches, first_match}
use Rattle.lookaside.proofs.TestLaws.{both_true, round_self, round_block}

pub block_some : (h : ℕ) → 0 < block h
block_some zero = omega arith
block_some (suc zero) = omega arith
block_some (suc (suc h)) = omega arith

pub level_range : (n : ℕ) → is_level n ≡ true → (1 ≤ n) × (n ≤ 3)
level_range n e =
    let (lo, hi) = both_true _ _ e in
    (leb-true _ _ lo, leb-true _ _ hi)

pub range_level : (n : ℕ) → 1 ≤ n → n ≤ 3 → is_level n ≡ true
range_level n lo hi = rw (le-leb 1 n lo, le-leb n 3 hi)

-- A slot that holds something for a domain, and a match, as the program tests them.

pub holds_test : (s : Slot) (d : ℕ) → holds_for s d
    ≡ (eqb s.domain d && (is_level s.level && eqb (s.block.0 / block_bytes s.level * block_bytes s.level) s.block.0))
unfolding holds_for holds
holds_test s d = rw (round_self (block_bytes s.level) (block_some (height_of s.level)) s.block.0)

pub match_test : (s : Slot) (d a : ℕ) → matches s d a
    ≡ (eqb s.domain d && (is_level s.level && (eqb (a / block_bytes s.level * block_bytes s.level) s.block.0
    && good_entry s.level s.entry)))
unfolding matches holds_for holds in_block
match_test s d a =
    rw (← round_block (block_bytes s.level) (block_some (height_of s.level)) s.block.0 a)
    (regroup (eqb s.domain d) (is_level s.level) (eqb (s.block.0 % block_bytes s.level) 0)
    (leb s.block.0 a && ltb a (s.block.0 + block_bytes s.level)) (good_entry s.level s.entry))
  where
    regroup : (x y z u v : Bool) → ((x && (y && z)) && u && v) ≡ (x && (y && ((z && u) && v)))
    regroup true true z u v = refl
    regroup true false z u v = refl
    regroup false y z u v = refl

-- What a match says.
pub record Match (s : Slot) (d a : ℕ) : Type 0 where
  pub domain : s.domain ≡ d
  pub level : is_level s.level ≡ true
  pub aligned : s.block.0 % block_bytes s.level ≡ 0
  pub from : s.block.0 ≤ a
  pub to : a < s.block.0 + block_bytes s.level
  pub good : good_entry s.level s.entry ≡ true

pub match_is : (s : Slot) (d a : ℕ) → matches s d a ≡ true → Match s d a
unfolding matches holds_for holds in_block
match_is s d a e =
    let (e1, g) = both_true _ _ e in
    let (e2, e3) = both_true _ _ e1 in
    let (m, e4) = both_true _ _ e2 in
    let (l, x) = both_true _ _ e4 in
    let (lo, hi) = both_true _ _ e3 in
    record {
      domain = eqb-true _ _ m;
      level = l;
      aligned = eqb-true _ _ x;
      from = leb-true _ _ lo;
      to = ltb-true _ _ hi;
      good = g;
    }

-- The first two tests of a match.
pub match_place : (s : Slot) (d a : ℕ) → matches s d a ≡ true → (holds_for s d ≡ true) × (in_block s a ≡ true)
unfolding matches
match_place s d a e =
    let (e1, _) = both_true _ _ e in
    both_true _ _ e1

-- The block's first byte is that of a block of one of the three levels around the address.
abbrev pub near : ℕ → ℕ → Bool
near a x = eqb (a / block_bytes 1 * block_bytes 1) x || eqb (a / block_bytes 2 * block_bytes 2) x
    || eqb (a / block_bytes 3 * block_bytes 3) x

none_of_three : (x y z : Bool) → (x || y || z) ≡ false → (x ≡ false) × (y ≡ false) × (z ≡ false)
none_of_three true y z e = absurd (false≢true (sym e))
none_of_three false true z e = absurd (false≢true (sym e))
none_of_three false false z e = (refl, refl, e)

module _ (a x : ℕ) (e : near a x ≡ false) where
  abbrev start : ℕ → Bool
  start n = eqb (a / block_bytes n * block_bytes n) x

  far_level : (n : ℕ) → 1 ≤ n → n ≤ 3 → start n ≡ false
  far_level zero lo hi = absurd (omega arith)
  far_level (suc zero) lo hi = (none_of_three (start 1) (start 2) (start 3) e).0
  far_level (suc (suc zero)) lo hi = (none_of_three (start 1) (start 2) (start 3) e).1
  far_level (suc (suc (suc zero))) lo hi = (none_of_three (start 1) (start 2) (start 3) e).2
  far_level (suc (suc (suc (suc n)))) lo hi = absurd (omega arith)

-- A slot whose block is none of the three does not match.
far_slot : (s : Slot) (d a : ℕ) → near a s.block.0 ≡ false → matches s d a ≡ false
far_slot s d a e = go (matches s d a) refl
  where
    go : (t : Bool) → matches s d a ≡ t → t ≡ false
    go true m =
        let g = match_is s d a m in
        let (lo, hi) = level_range s.level g.level in
        sym m ∙ match_test s d a ∙ rw (eq-eqb s.domain d g.domain, g.level, far_level a s.block.0 e s.level lo hi)
    go false m = refl

-- So a slot matches where its block is one of the three and it matches.
near_match : (s : Slot) (d a : ℕ) → (near a s.block.0 && matches s d a) ≡ matches s d a
near_match s d a = go (near a s.block.0) refl
  where
    go : (t : Bool) → near a s.block.0 ≡ t → (t && matches s d a) ≡ matches s d a
    go true e = refl
    go false e = sym (far_slot s d a e)

-- The search may ask first whether the block is one of the three.
pub near_first : (l : List Slot) (d a root middle leaf : ℕ) → root ≡ a / block_bytes 1 * block_bytes 1
    → middle ≡ a / block_bytes 2 * block_bytes 2
    → leaf ≡ a / block_bytes 3 * block_bytes 3
    → find (λ s. (eqb root s.block.0 || eqb middle s.block.0 || eqb leaf s.block.0) && matches s d a) l ≡ first_match l d a
unfolding first_match
near_first l d a root middle leaf one two three =
    rw (one, two, three) (ap (λ (p : Slot → Bool). find p l) (λ i s. near_match s d a i))
