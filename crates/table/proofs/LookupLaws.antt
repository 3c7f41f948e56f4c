-- What a lookup answers, case by case; that the answer is the table's right, on the whole block of the deciding
-- entry; and that there is one answer.
use Prim.Native.Nat.{ℕ, zero, suc, ◌+◌, ◌-◌, ◌≤◌, ◌<◌}
use mathlib.Core.Path.{◌≡◌, refl, sym, ap, subst, ◌∙◌}
use mathlib.Core.Bool.{true, false}
use mathlib.Core.List.{List}
use native.Mathlib.Omega.{arith}
use lib.ListN.{length}
use lib.Dec.{ltb}
use borrow.Author.Tests.{lt-ltb, le-ltb, ltb-true, ltb-false}
use Rattle.std.specs.Prelude.{Result, Ok, Err}
use Rattle.refusals.specs.declared.Refusal.{Refusal}
use Rattle.refusals.specs.declared.Refusal.TheVariants.{NoShape, NoDomain}
use Rattle.theory.specs.Form.{Form}
use Rattle.theory.specs.Pool.{SoundPool, words, entry, right_of}
use Rattle.theory.specs.Walk.{End, bad, decides, walk}
use Rattle.theory.specs.Settled.{Together}
use Rattle.theory.proofs.Logic.{by_cases}
use Rattle.theory.proofs.ReachLaws.{entry_reach}
use Rattle.theory.proofs.WalkLaws.{walk_down, decides_low, decides_right, decides_says, sound_decides}
use Rattle.words.specs.declared.PoolWord.{PoolWord}
use Rattle.words.proofs.StretchLaws.{longest_alike}
use Rattle.table.specs.declared.Shape.{Shape}
use Rattle.table.specs.declared.Entry.TheVariants.{Leads}
use Rattle.table.specs.declared.Decided.{Decided}
use Rattle.table.specs.declared.Deciding.{Deciding}
use Rattle.table.specs.Shape.{Fits, fits_of}
use Rattle.table.specs.Map.{addresses, block, block_at, entry_rights, index, form_of}
use Rattle.table.specs.Entries.{decode_of}
use Rattle.table.specs.Lookup.{decided_by, found_at, lookup_of, without_reach, Reaches, LooksUp}
use Rattle.table.proofs.ShapeLaws.{fits_test}
use Rattle.table.proofs.BlockLaws.{block_together, block_is, block_low}
use Rattle.table.proofs.StretchLaws.{stretch_longest, entry_whole}
use Rattle.table.proofs.FormLaws.{lawful}
use Rattle.table.proofs.EntryLaws.{index_below, leads_above, decoded_leads}

-- One step of a walk, by a height that is not 0.
pub walk_leads : (F : Form) (P : ℕ → ℕ) (a h k : ℕ) → 0 < h → F.good h (P k) ≡ true → F.leads h (P k) ≡ true
    → walk F P a h k ≡ walk F P a (h - 1) (F.target h (P k) + F.index (h - 1) a)
walk_leads F P a zero k lo g l = absurd (omega arith)
walk_leads F P a (suc h) k lo g l = let e : suc h - 1 ≡ h = omega arith in walk_down F P a h k g l ∙ rw e refl

-- A walk that stands at word `k`, which leads, goes on in the table below; that lies in the pool.
pub record GoesOn (s : Shape) (p : List ℕ) (a h k t : ℕ) : Type 0 where
  pub above : 0 < h
  pub inside : t + index (h - 1) a < length p
  pub rest : walk (form_of s) (words p) a (h - 1) (t + index (h - 1) a) ≡ walk (form_of s) (words p) a h k

pub goes_on : (s : Shape) (p : List ℕ) (a h k : ℕ) (t : PoolWord) (n : ℕ) → Fits s (length p) → h ≤ 2
    → decode_of s h (words p k) ≡ Leads t n → GoesOn s p a h k t.0
goes_on s p a h k t n f hi e =
    let lo = leads_above s h (words p k) t n e in
    let (q, g, l, b) = decoded_leads s h (words p k) t n lo hi e in
    let i = index_below (h - 1) a in
    let long = f.long in
    record {
      above = lo;
      inside = omega arith;
      rest = rw q (sym (walk_leads (form_of s) (words p) a h k lo g l));
    }

-- The three cases of a lookup.
module _ (p : List ℕ) (s : Shape) (d a : ℕ) where
  abbrev end : End
  end = walk (form_of s) (words p) a 2 (entry (form_of s) d a)

  pub lookup_misfit : fits_of s (length p) ≡ false → lookup_of p s d a ≡ Err NoShape
  lookup_misfit e = rw e

  pub lookup_no_domain : fits_of s (length p) ≡ true → s.domains ≤ d → lookup_of p s d a ≡ Err NoDomain
  lookup_no_domain e h = rw (e, le-ltb d s.domains h)

  pub lookup_walks : fits_of s (length p) ≡ true → d < s.domains → lookup_of p s d a ≡ found_at (form_of s) (words p) a end
  lookup_walks e h = rw (e, lt-ltb d s.domains h)

err_not_ok : {r : Refusal} {x : Deciding} → Err r ≡ Ok x → ⊥
err_not_ok e = cc

-- What the end of a walk must be for an answer that is a right.
found_decides : (F : Form) (P : ℕ → ℕ) (a : ℕ) (e : End) (x : Deciding) → found_at F P a e ≡ Ok x
    → (h : ℕ) × (k : ℕ) × (e ≡ decides h k) × (x ≡ decided_by (F.says h (P k)) h (P k) a)
found_decides F P a bad x e = absurd (err_not_ok e)
found_decides F P a (decides h k) x e = (h, k, refl, cc)

module _ (p : List ℕ) (s : Shape) (d a : ℕ) (x : Deciding) (e : lookup_of p s d a ≡ Ok x) where
  -- An answer that is a right was not refused, ..
  pub answered : (fits_of s (length p) ≡ true) × (d < s.domains)
  answered = by_cases (fits_of s (length p))
      (λ f. by_cases (ltb d s.domains)
      (λ l. (f, ltb-true d s.domains l))
      (λ l. absurd (err_not_ok (sym (lookup_no_domain p s d a f (ltb-false d s.domains l)) ∙ e))))
      (λ f. absurd (err_not_ok (sym (lookup_misfit p s d a f) ∙ e)))

  -- .. and comes from the end of a walk.
  pub whole_found : (h : ℕ) × (k : ℕ) × (end p s d a ≡ decides h k)
      × (x ≡ decided_by (entry_rights h (words p k)) h (words p k) a)
  whole_found =
      let (f, l) = answered in
      found_decides (form_of s) (words p) a (end p s d a) x (sym (lookup_walks p s d a f l) ∙ e)

  pub right_found : (h : ℕ) × (k : ℕ) × (end p s d a ≡ decides h k) × (x.right ≡ (form_of s).says h (words p k) a)
      × (x.entry ≡ words p k) × (x.loads ≡ 3 - h)
  right_found =
      let (h, k, z, q) = whole_found in
      (h, k, z, ap (λ (y : Deciding). y.right) q, ap (λ (y : Deciding). y.entry) q, ap (λ (y : Deciding). y.loads) q)

  -- It takes one load for each level down to the deciding one.
  pub right_loads : (1 ≤ x.loads) × (x.loads ≤ 3)
  right_loads =
      let (h, k, z, _, _, o) = right_found in
      let b = decides_low (form_of s) (words p) a (λ v. refl) 2 (entry (form_of s) d a) z in
      (omega arith, omega arith)

  -- It is the table's right.
  pub right_is : x.right ≡ right_of (form_of s) (words p) d a
  right_is =
      let (h, k, z, q, _, _) = right_found in
      q ∙ sym (decides_right (form_of s) (words p) a (λ v. refl) 2 (entry (form_of s) d a) z)

  -- The deciding entry gives the table's right on every word of its whole block.
  pub right_block : (b : ℕ) → b < addresses → Together (form_of s) (3 - x.loads) a b
      → right_of (form_of s) (words p) d b ≡ (form_of s).says (3 - x.loads) x.entry b
  right_block b lo t =
      let (h, k, z, _, q, o) = right_found in
      let hi = decides_low (form_of s) (words p) a (λ v. refl) 2 (entry (form_of s) d a) z in
      let y : 3 - x.loads ≡ h = omega arith in
      let g : Together (form_of s) h a b = rw y at t in
      sym ((decides_says (form_of s) (λ v. refl) (words p) d a z).each b lo g)
      ∙ ap (λ v. (form_of s).says h v b) (sym q) ∙ ap (λ m. (form_of s).says m x.entry b) (sym y)

  -- It reaches as far as it says: the longest stretch of the deciding entry's rights is that of the table's.
  pub right_reaches : a < addresses → Reaches p s d a (3 - x.loads) x.first.0 x.last.0
  right_reaches ba =
      let (h, k, z, q) = whole_found in
      let hi = decides_low (form_of s) (words p) a (λ v. refl) 2 (entry (form_of s) d a) z in
      let y : 3 - (3 - h) ≡ h = omega arith in
      let R = entry_rights h (words p k) in
      rw (q, y) (longest_alike R (right_of (form_of s) (words p) d) (block_at h a) (block_at h a + block h) a
      (λ b lo up.
      (decides_says (form_of s) (λ v. refl) (words p) d a z).each b (omega (arith, block_low h a ba))
      (block_together s h a b (block_is h a b lo up)))
      (stretch_longest R h a (entry_whole h (words p k))))

  -- What it is, told by its own entry and loads.
  whole_again : x ≡ decided_by (entry_rights (3 - x.loads) x.entry) (3 - x.loads) x.entry a
  whole_again =
      let (h, k, z, q) = whole_found in
      let hi = decides_low (form_of s) (words p) a (λ v. refl) 2 (entry (form_of s) d a) z in
      let y : 3 - (3 - h) ≡ h = omega arith in
      let again : decided_by (entry_rights h (words p k)) h (words p k) a
      ≡ decided_by (entry_rights (3 - (3 - h)) (words p k)) (3 - (3 - h)) (words p k) a =
      ap (λ m. decided_by (entry_rights m (words p k)) m (words p k) a) (sym y) in
      subst (λ (v : Deciding). v ≡ decided_by (entry_rights (3 - v.loads) v.entry) (3 - v.loads) v.entry a)
      (sym q) again

pub looks_up : (p : List ℕ) (s : Shape) (d a : ℕ) (r : Result Deciding Refusal) → r ≡ lookup_of p s d a → LooksUp p s d a r
looks_up p s d a r e = record {
  answer = e;
  block = λ x q. right_block p s d a x (sym e ∙ q);
  reach = λ x q. right_reaches p s d a x (sym e ∙ q);
}

-- What a walk decides tells the whole answer: a refusal is the same, ..
pub walks_refused : (f : Result Deciding Refusal) (r : Refusal) → Err r ≡ without_reach f → f ≡ Err r
walks_refused (Ok x) r e = cc
walks_refused (Err k) r e = cc

-- .. and else its right, its entry and its loads are those of the answer.
pub walks_by : (f : Result Deciding Refusal) (y : Decided) → Ok y ≡ without_reach f
    → (x : Deciding) × (f ≡ Ok x) × (x.right ≡ y.right) × (x.entry ≡ y.entry) × (x.loads ≡ y.loads)
walks_by (Ok x) y e = (x, refl, cc, cc, cc)
walks_by (Err k) y e = absurd cc

module _ (p : List ℕ) (s : Shape) (d a : ℕ) where
  module _ (y : Decided) (e : Ok y ≡ without_reach (lookup_of p s d a)) where
    pub walked_loads : (1 ≤ y.loads) × (y.loads ≤ 3)
    walked_loads =
        let (x, f, _, _, l) = walks_by (lookup_of p s d a) y e in
        let (lo, hi) = right_loads p s d a x f in
        (omega arith, omega arith)

    pub walked_by : (r : Deciding) → r ≡ decided_by (entry_rights (3 - y.loads) y.entry) (3 - y.loads) y.entry a
        → LooksUp p s d a (Ok r)
    walked_by r q =
        let (x, f, _, w, l) = walks_by (lookup_of p s d a) y e in
        looks_up p s d a (Ok r) (ap (λ (v : Deciding). Ok v)
        (q ∙ ap (λ m. decided_by (entry_rights (3 - m) y.entry) (3 - m) y.entry a) (sym l)
        ∙ ap (λ m. decided_by (entry_rights (3 - x.loads) m) (3 - x.loads) m a) (sym w)
        ∙ sym (whole_again p s d a x f)) ∙ sym f)

-- There is one answer.
pub one_lookup : {p : List ℕ} {s : Shape} {d a : ℕ} {q r : Result Deciding Refusal} → LooksUp p s d a q → LooksUp p s d a r → q ≡ r
one_lookup x y = x.answer ∙ sym y.answer

-- In a sound pool a lookup for a domain below D finds the table's right.
pub sound_lookup : (p : List ℕ) (s : Shape) (d a : ℕ) → SoundPool (form_of s) (words p) → Fits s (length p)
    → d < s.domains
    → (x : Deciding) × (lookup_of p s d a ≡ Ok x) × (x.right ≡ right_of (form_of s) (words p) d a)
sound_lookup p s d a q f h =
    let (m, k, z) = sound_decides (form_of s) (words p) a (lawful _) q 2 (entry (form_of s) d a)
    (entry_reach (form_of s) (lawful _) d a h) in
    let e = lookup_walks p s d a (fits_test s (length p) f) h ∙ ap (found_at (form_of s) (words p) a) z in
    (_, e, right_is p s d a _ e)
