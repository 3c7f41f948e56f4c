-- What a decoded entry tells of the word, in terms of the form.
use Prim.Native.Nat.{ℕ, zero, suc, ◌+◌, ◌*◌, ◌-◌, ◌/◌, ◌%◌, ◌≤◌, ◌<◌}
use mathlib.Core.Path.{◌≡◌, refl, sym, ap}
use mathlib.Core.Logic.{◌≢◌}
use mathlib.Core.Bool.{Bool, true, false, cond}
use native.Mathlib.Omega.{arith}
use lib.Dec.{ltb}
use borrow.Author.Tests.{lt-ltb, le-ltb, eq-eqb, ne_eqb, leb-true, ltb-true, eqb-true}
use Rattle.words.specs.Rights.{good_rights}
use Rattle.words.specs.declared.PoolWord.{PoolWord}
use Rattle.table.specs.declared.Shape.{Shape}
use Rattle.table.specs.declared.Entry.{Entry}
use Rattle.table.specs.declared.Entry.TheVariants.{Rights, Leads, Bad}
use Rattle.table.specs.Shape.{first_middle, first_leaf, pool_length, size}
use Rattle.table.specs.Map.{is_place, part, parts, index, form_of}
use Rattle.table.specs.Entries.{leads_to, decode_of}
use Rattle.theory.proofs.Logic.{and_both}

-- The test of a place, by its three halves.
module _ (from long n w : ℕ) where
  pub is_place_lem : is_place from long n w ≡ true → (from ≤ w) × (w < from + long * n) × ((w - from) % long ≡ 0)
  is_place_lem e =
      let (e1, c) = and_both _ _ e in
      let (a, b) = and_both _ _ e1 in
      (leb-true _ _ a, ltb-true _ _ b, eqb-true _ _ c)

-- The numbers by which an address goes are those of an entry, and of one of its rights.
pub index_below : (h a : ℕ) → index h a < size h
index_below zero a = omega arith
index_below (suc h) a = omega arith

pub part_below : (h a : ℕ) → a / part h % parts h < 16
part_below zero a = omega arith
part_below (suc h) a = omega arith

-- A decoded entry, case by case.
module _ (s : Shape) (h w : ℕ) where
  pub decode_leaf : h ≡ 0 → decode_of s h w ≡ Rights w
  decode_leaf e = rw (eq-eqb h 0 e)

  pub decode_middle : h ≡ 1 → w < 2147483648 → decode_of s h w ≡ leads_to (first_leaf s) 64
      s.leaves 8 w
  decode_middle e l = rw (e, lt-ltb w 2147483648 l)

  pub decode_root : h ≢ 0 → h ≢ 1 → w < 2147483648 → decode_of s h w ≡ leads_to (first_middle s) 1024
      s.middles 0 w
  decode_root a b l = rw (ne_eqb h 0 a, lt-ltb w 2147483648 l, ne_eqb h 1 b)

  pub decode_rights : h ≢ 0 → 2147483648 ≤ w → decode_of s h w ≡ cond (good_rights w) (Rights w) Bad
  decode_rights a l = rw (ne_eqb h 0 a, le-ltb w 2147483648 l)

-- An entry that may lead, by the tests that decide it: it leads (`l`) to a place (`p`), or else is good rights (`g`).
module _ (l p g : Bool) (w : ℕ) (t : PoolWord) (n : ℕ) where
  abbrev shown : Entry
  shown = cond l (cond p (Leads t n) Bad) (cond g (Rights w) Bad)

pub bad_rights : {w : ℕ} → Bad ≡ Rights w → ⊥
bad_rights e = cc

pub bad_leads : {t : PoolWord} {n : ℕ} → Bad ≡ Leads t n → ⊥
bad_leads e = cc

pub rights_leads : {w n : ℕ} {t : PoolWord} → Rights w ≡ Leads t n → ⊥
rights_leads e = cc

shown_bad : (l p g : Bool) (w : ℕ) (t : PoolWord) (n : ℕ) → shown l p g w t n ≡ Bad → cond l p g ≡ false
shown_bad true true g w t n e = absurd (bad_leads (sym e))
shown_bad true false g w t n e = refl
shown_bad false p true w t n e = absurd (bad_rights (sym e))
shown_bad false p false w t n e = refl

shown_rights : (l p g : Bool) (w : ℕ) (t : PoolWord) (n r : ℕ) → shown l p g w t n ≡ Rights r → (r ≡ w)
    × (cond l p g ≡ true) × (l ≡ false)
shown_rights true true g w t n r e = absurd (rights_leads (sym e))
shown_rights true false g w t n r e = absurd (bad_rights e)
shown_rights false p true w t n r e = (cc, refl, refl)
shown_rights false p false w t n r e = absurd (bad_rights e)

shown_leads : (l p g : Bool) (w : ℕ) (t : PoolWord) (n : ℕ) (u : PoolWord) (m : ℕ) → shown l p g w t n ≡ Leads u m
    → (u ≡ t) × (m ≡ n) × (cond l p g ≡ true) × (l ≡ true) × (p ≡ true)
shown_leads true true g w t n u m e = (cc, cc, refl, refl, refl)
shown_leads true false g w t n u m e = absurd (bad_leads e)
shown_leads false p true w t n u m e = absurd (rights_leads e)
shown_leads false p false w t n u m e = absurd (bad_leads e)

-- The same for an entry of a height whose places, `n` of `long` words, begin at `from` and are numbered from `nth` on.
module _ (from long n nth w : ℕ) where
  abbrev upper : Entry
  upper = cond (ltb w 2147483648) (leads_to from long n nth w) (cond (good_rights w) (Rights w) Bad)

  abbrev upper_good : Bool
  upper_good = cond (ltb w 2147483648) (is_place from long n w) (good_rights w)

  upper_bad : upper ≡ Bad → upper_good ≡ false
  upper_bad = shown_bad (ltb w 2147483648) (is_place from long n w) (good_rights w) w (record { 0 = w })
      (nth + (w - from) / long)

  upper_rights : (r : ℕ) → upper ≡ Rights r → (r ≡ w) × (upper_good ≡ true) × (ltb w 2147483648 ≡ false)
  upper_rights = shown_rights (ltb w 2147483648) (is_place from long n w) (good_rights w) w (record { 0 = w })
      (nth + (w - from) / long)

  upper_leads : (t : PoolWord) (m : ℕ) → upper ≡ Leads t m
      → (t.0 ≡ w) × (m ≡ nth + (w - from) / long) × (upper_good ≡ true) × (ltb w 2147483648 ≡ true)
      × (from ≤ w) × (w < from + long * n) × ((w - from) % long ≡ 0)
  upper_leads t m e =
      let (u, q, g, l, p) = shown_leads (ltb w 2147483648) (is_place from long n w) (good_rights w) w (record { 0 = w })
      (nth + (w - from) / long) t m e in
      let (x, y, z) = is_place_lem from long n w p in
      (ap (λ v. v.0) u, q, g, l, x, y, z)

module _ (s : Shape) where
  pub decoded_bad : (h w : ℕ) → 0 < h → h ≤ 2 → decode_of s h w ≡ Bad → (form_of s).good h w ≡ false
  decoded_bad zero w lo hi e = absurd (omega arith)
  decoded_bad (suc zero) w lo hi e = upper_bad (first_leaf s) 64 s.leaves 8 w e
  decoded_bad (suc (suc zero)) w lo hi e = upper_bad (first_middle s) 1024 s.middles 0 w e
  decoded_bad (suc (suc (suc h))) w lo hi e = absurd (omega arith)

  pub decoded_rights : (h w r : ℕ) → 0 < h → h ≤ 2 → decode_of s h w ≡ Rights r
      → (r ≡ w) × ((form_of s).good h w ≡ true) × ((form_of s).leads h w ≡ false)
  decoded_rights zero w r lo hi e = absurd (omega arith)
  decoded_rights (suc zero) w r lo hi e = upper_rights (first_leaf s) 64 s.leaves 8 w r e
  decoded_rights (suc (suc zero)) w r lo hi e = upper_rights (first_middle s) 1024 s.middles 0 w r e
  decoded_rights (suc (suc (suc h))) w r lo hi e = absurd (omega arith)

  -- Every word below 2^32 is good rights in a leaf, so that this holds of every height.
  pub decoded_any_rights : (h w r : ℕ) → w < 4294967296 → h ≤ 2 → decode_of s h w ≡ Rights r
      → (r ≡ w) × ((form_of s).good h w ≡ true) × ((form_of s).leads h w ≡ false)
  decoded_any_rights zero w r b hi e = (cc, lt-ltb w 4294967296 b, refl)
  decoded_any_rights (suc h) w r b hi e = decoded_rights (suc h) w r (omega arith) hi e

  -- A leaf entry is never bad and never leads.
  pub bad_above : (h w : ℕ) → decode_of s h w ≡ Bad → 0 < h
  bad_above zero w e = absurd (bad_rights (sym e))
  bad_above (suc h) w e = omega arith

  pub leads_above : (h w : ℕ) (t : PoolWord) (n : ℕ) → decode_of s h w ≡ Leads t n → 0 < h
  leads_above zero w t n e = absurd (rights_leads e)
  leads_above (suc h) w t n e = omega arith

  -- An entry that leads is a good one, and the table to which it leads lies in the pool.
  pub decoded_leads : (h w : ℕ) (t : PoolWord) (n : ℕ) → 0 < h → h ≤ 2 → decode_of s h w ≡ Leads t n
      → (t.0 ≡ w) × ((form_of s).good h w ≡ true) × ((form_of s).leads h w ≡ true)
      × (w + size (h - 1) ≤ pool_length s)
  decoded_leads zero w t n lo hi e = absurd (omega arith)
  decoded_leads (suc zero) w t n lo hi e =
      let (u, m, g, l, x, y, z) = upper_leads (first_leaf s) 64 s.leaves 8 w t n e in
      (u, g, l, omega arith)
  decoded_leads (suc (suc zero)) w t n lo hi e =
      let (u, m, g, l, x, y, z) = upper_leads (first_middle s) 1024 s.middles 0 w t n e in
      (u, g, l, omega arith)
  decoded_leads (suc (suc (suc h))) w t n lo hi e = absurd (omega arith)
