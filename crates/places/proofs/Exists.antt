-- There is a finished pool exactly where the rights need no more tables than there are places; and there is one.
use Prim.Native.Nat.{ℕ, suc, ◌*◌, ◌≤◌, ◌<◌}
use mathlib.Core.Path.{◌≡◌, refl, sym, ap, ◌∙◌}
use mathlib.Core.Bool.{Bool, true, true≢false}
use native.Mathlib.Omega.{arith}
use native.Mathlib.Decide.{dec_le}
use Rattle.theory.specs.Form.{Form}
use Rattle.theory.specs.Pool.{SoundPool, right_of}
use Rattle.theory.specs.Settled.{Settled}
use Rattle.theory.specs.Finished.{Finished}
use Rattle.theory.proofs.Logic.{by_cases}
use Rattle.theory.proofs.SettledLaws.{wants_table}
use Rattle.theory.proofs.FinishedLaws.{one_finished}
use Rattle.words.specs.declared.Region.{Region}
use Rattle.table.specs.declared.Shape.{Shape}
use Rattle.table.specs.Shape.{InRange, places}
use Rattle.table.specs.Map.{addresses, form_of}
use Rattle.table.specs.Wants.{WordRights}
use Rattle.table.proofs.FormLaws.{lawful, exact}
use Rattle.table.proofs.WantLaws.{wants_divided, divided_wants, wanting, pool_rights}
use Rattle.places.specs.Count.{count, heights, blocks, domain_of, address_of, want, Room}
use Rattle.places.specs.Final.{number, old, was, AllOwned, final, changed}
use Rattle.places.proofs.CountLaws.{count_into, count_all}
use Rattle.places.proofs.KeepLaws.{owners}
use Rattle.places.proofs.HeightLaws.{choose, dec_heights}
use Rattle.places.specs.Owners.{Owned}
use Rattle.places.proofs.NumberLaws.{number_below, number_first, want_number}
use Rattle.places.proofs.OldLaws.{led_old, old_led, old_below, old_one}
use Rattle.places.proofs.FinalLaws.{final_finished}
use Rattle.places.proofs.ChangedLaws.{changed_rights}

-- The pool `Q` has the rights `R`.
module _ (s : Shape) {R : ℕ → ℕ → ℕ} {Q : ℕ → ℕ}
    (same : (d a : ℕ) → d < s.domains → a < addresses → right_of (form_of s) Q d a ≡ R d a) where
  -- A sound pool has every table that its rights want ..
  has_table : SoundPool (form_of s) Q → (h i : ℕ) → h < 2 → i < blocks h * s.domains → want R h i ≡ true
      → old Q h i ≡ true
  has_table q h i hi bi w =
      let (bd, ba, e) = number_first h s.domains i hi bi in
      let x = (wanting s).same (suc h) (address_of h i) (R (domain_of h i)) (right_of (form_of s) Q (domain_of h i))
      (λ b bb. sym (same (domain_of h i) b bd bb)) (wants_divided (R (domain_of h i)) (suc h) (address_of h i) ba w) in
      let (t, y) = wants_table (form_of s) (wanting s) (lawful s) q (domain_of h i) (address_of h i) bd ba h hi
      x in
      ap (old Q h) (sym e) ∙ (led_old s Q (domain_of h i) (address_of h i) ba h t y).0

  -- .. so they are no more than the places.
  tables_fit : SoundPool (form_of s) Q → (h : ℕ) → h < 2 → count (want R h) (blocks h * s.domains) ≤ places s h
  tables_fit q h hi =
      let x : count (want R h) (blocks h * s.domains) ≤ count (λ p. true) (places s h) =
      count_into (want R h) (blocks h * s.domains) (λ p. true) (places s h) (was s Q h)
      (λ i bi w. (old_below s q h hi i bi (has_table q h i hi bi w), refl))
      (λ i j bi bj w v e. old_one s q h hi i j bi bj (has_table q h i hi bi w) (has_table q h j hi bj v) e) in
      let y = count_all (places s h) in
      omega arith

  pub sound_fits : SoundPool (form_of s) Q → Room s R
  sound_fits q = record { tables = tables_fit q }

  -- A settled pool has exactly those tables.
  module _ (S : (d : ℕ) → d < s.domains → WordRights (R d)) (q : Settled (form_of s) Q) where
    pub settled_table : (h i : ℕ) → h < 2 → i < blocks h * s.domains → old Q h i ≡ want R h i
    settled_table h i hi bi = by_cases (want R h i)
        (λ w. has_table q.sound h i hi bi w ∙ sym w)
        (λ w. by_cases (old Q h i)
        (λ o. absurd (true≢false (sym (wanted o) ∙ w)))
        (λ o. o ∙ sym w))
      where
        wanted : old Q h i ≡ true → want R h i ≡ true
        wanted o =
            let d = domain_of h i in
            let a = address_of h i in
            let (bd, ba, e) = number_first h s.domains i hi bi in
            divided_wants (R d) (suc h) a (S d bd)
            ((wanting s).same (suc h) a (right_of (form_of s) Q d) (R d) (λ b bb. same d b bd bb)
            (q.wanted bd ba hi (_, old_led s Q d a ba h hi (ap (old Q h) e ∙ o))))

-- Whether tables fit is decided.
pub fits_dec : (s : Shape) (R : ℕ → ℕ → ℕ) → Dec (Room s R)
fits_dec s R = elim (dec_heights (λ h. count (want R h) (blocks h * s.domains) ≤ places s h) (λ h. dec_le _ _)) [
  | yes f ↦ yes (record { tables = f })
  | no f ↦ no (λ r. f r.tables)
]

-- A finished pool shows that the tables fit ..
pub finished_fits : (s : Shape) {R : ℕ → ℕ → ℕ} {P Q : ℕ → ℕ} → Finished (form_of s) P R Q → Room s R
finished_fits s f = sound_fits s f.rights f.settled.sound

-- .. and where they fit, all tables find their places ..
pub all_owners : (s : Shape) {R : ℕ → ℕ → ℕ} {P : ℕ → ℕ} → SoundPool (form_of s) P → Room s R
    → (free : ℕ → ℕ → Bool) × (owner : ℕ → ℕ → ℕ) × AllOwned s R P free owner
all_owners s {R} {P} sP fits =
    let (f, O) = choose {A = (ℕ → Bool) × (ℕ → ℕ)}
    (λ h x. Owned (blocks h * s.domains) (places s h) (want R h) (old P h) x.0 (was s P h) x.1)
    ((λ p. true), (λ p. p))
    (λ h hi.
    let (free, owner, o) = owners (blocks h * s.domains) (places s h) (want R h) (old P h) (was s P h)
    (old_one s sP h hi) (old_below s sP h hi) (fits.tables h hi) in
    ((free, owner), o)) in
    ((λ h. (f h).0), (λ h. (f h).1), O)

-- .. so there is one.
pub exists_finished : (s : Shape) → InRange s → {R : ℕ → ℕ → ℕ} → ((d : ℕ) → d < s.domains → WordRights (R d))
    → {P : ℕ → ℕ}
    → SoundPool (form_of s) P → Room s R → (Q : ℕ → ℕ) × Finished (form_of s) P R Q
exists_finished s range {R} S {P} sP fits =
    let (free, owner, O) = all_owners s sP fits in
    (final s owner R P, final_finished s range S sP owner free O (λ j. refl))

-- A sound pool each of whose tables is wanted is settled.
module _ (s : Shape) {Q : ℕ → ℕ} (sQ : SoundPool (form_of s) Q)
    (old-wanted : (h : ℕ) → h < heights → (i : ℕ) → i < blocks h * s.domains → old Q h i ≡ true
    → want (right_of (form_of s) Q) h i ≡ true) where
  pub wanted_settled : Settled (form_of s) Q
  wanted_settled = record {
    sound = sQ;
    wanted = λ {d} {a} {h} bd ba hi (t, x).
        wants_divided (right_of (form_of s) Q d) (suc h) a ba
        (sym (want_number (right_of (form_of s) Q) h d a hi ba)
        ∙ old-wanted h hi (number h d a) (number_below h s.domains d a hi bd ba) (led_old s Q d a ba h t x).0);
    there = λ {d} {a} {h} bd ba hi x. wants_table (form_of s) (wanting s) (lawful s) sQ d a bd ba h hi x;
  }

-- There is a finished pool, and no other.
abbrev pub Only : Form → (ℕ → ℕ) → (ℕ → ℕ → ℕ) → Type 0
Only F P R = (Q : ℕ → ℕ) × Finished F P R Q × ((T : ℕ → ℕ) → Finished F P R T → (j : ℕ) → Q j ≡ T j)

module _ (s : Shape) (range : InRange s) {P : ℕ → ℕ} (sP : SoundPool (form_of s) P) where
  one_only : {R : ℕ → ℕ → ℕ} → ((d : ℕ) → d < s.domains → WordRights (R d)) → Room s R → Only (form_of s) P R
  one_only {R} S fits =
      let (Q, f) = exists_finished s range S sP fits in
      (Q, f, λ T g. one_finished (form_of s) (lawful s) (wanting s) P R (exact s) f g)

  -- A change has one finished pool where its tables fit, and none where they do not.
  pub change_one : (e : ℕ) (region : Region) (r : ℕ) → r < 4 → Room s (changed (right_of (form_of s) P) e region r)
      → Only (form_of s) P (changed (right_of (form_of s) P) e region r)
  change_one e region r b fits =
      one_only (λ d bd. changed_rights (right_of (form_of s) P) e region r d b (pool_rights s P d)) fits

  pub change_none : (e : ℕ) (region : Region) (r : ℕ) → (Room s (changed (right_of (form_of s) P) e region r) → ⊥)
      → (Q : ℕ → ℕ) → Finished (form_of s) P (changed (right_of (form_of s) P) e region r) Q → ⊥
  change_none e region r full Q f = full (finished_fits s f)

  -- A tidying always fits, and so has one.
  pub tidy_fits : Room s (right_of (form_of s) P)
  tidy_fits = sound_fits s (λ d a bd ba. refl) sP

  pub tidy_one : Only (form_of s) P (right_of (form_of s) P)
  tidy_one = one_only (λ d bd. pool_rights s P d) tidy_fits
