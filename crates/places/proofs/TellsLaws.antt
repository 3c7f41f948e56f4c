-- On the way to the finished pool that `final` gives: which words are kept, and that each word is safe to store at
-- its turn.
use Prim.Native.Nat.{ℕ, ◌+◌, ◌*◌, ◌/◌, ◌%◌, ◌<◌}
use mathlib.Core.Path.{◌≡◌, refl, sym, ap, ◌∙◌}
use mathlib.Core.Logic.{⊎_elim}
use mathlib.Core.Bool.{Bool, true, false, not, true≢false}
use native.Mathlib.Omega.{arith}
use native.Mathlib.Decide.{dec_lt}
use borrow.Author.Tests.{not-true}
use Rattle.theory.specs.Form.{Form}
use Rattle.theory.specs.Pool.{SoundPool, Visits, here, next, entry, Led}
use Rattle.theory.specs.Finished.{Finished}
use Rattle.theory.specs.Stores.{Kept, top, down, Cut, Ready}
use Rattle.theory.proofs.KeptLaws.{kept_low, kept_zone}
use Rattle.theory.proofs.EncodesLaws.{visits_gets, gets_visits}
use Rattle.theory.proofs.ReadyLaws.{kept_met}
use Rattle.theory.specs.Phase.{phase, midway, Tells}
use Rattle.theory.proofs.PhaseLaws.{phase_ready, midway_cut}
use Rattle.table.specs.declared.Shape.{Shape}
use Rattle.table.specs.Shape.{InRange, first_middle, places}
use Rattle.table.specs.Map.{index, form_of}
use Rattle.table.specs.Wants.{wants_of, WordRights}
use Rattle.table.proofs.EntryLaws.{index_below}
use Rattle.table.proofs.FormLaws.{lawful, exact}
use Rattle.table.proofs.WantLaws.{tells_wants}
use Rattle.places.specs.Count.{blocks, want}
use Rattle.places.specs.Final.{number, old, was, place_at, AllOwned, place, final, kept_word}
use Rattle.places.specs.Owners.{seek}
use Rattle.places.proofs.OwnedLaws.{held_taken, seek_keeps}
use Rattle.places.proofs.NumberLaws.{number_below}
use Rattle.places.proofs.OldLaws.{led_old, old_led}
use Rattle.places.proofs.FinalWordLaws.{InPlace, which_word, place_table, kept_root, kept_place, kept_past}
use Rattle.places.proofs.FinalLaws.{want_got, own, place_owner, final_encodes, final_placing}
use Rattle.places.proofs.FinalLaws.{final_finished}
use Rattle.places.proofs.SameLaws.{both_kept}

module _ (s : Shape) (range : InRange s) {R : ℕ → ℕ → ℕ} (S : (d : ℕ) → d < s.domains → WordRights (R d)) {P : ℕ → ℕ}
    (sP : SoundPool (form_of s) P) (owner : ℕ → ℕ → ℕ) (free : ℕ → ℕ → Bool) (O : AllOwned s R P free owner)
    {Q : ℕ → ℕ} (is : (j : ℕ) → Q j ≡ final s owner R P j) where
  abbrev F : Form
  F = form_of s

  abbrev stand : ℕ → ℕ → ℕ → ℕ
  stand = place s owner

  done : Finished F P R Q
  done = final_finished s range S sP owner free O is

  -- A walk that visits a word below the roots was led to its table.
  led_visited : (d a : ℕ) {m j : ℕ} → Visits F P a 2 (entry F d a) m j → m < 2 → (t : ℕ) × Led F P d a m t
      × (j ≡ t + index m a)
  led_visited d a here lt = absurd (omega arith)
  led_visited d a (next {m} {j} v l) lt = (P j, (j, v, l, refl), refl)

  -- A word at a place that is not free is visited in both pools.
  taken_kept : (k h p e : ℕ) → InPlace s k h p e → free h p ≡ false → Kept F P Q h k
  taken_kept k h p e (hi, b, c, q) f =
      let (bi, w, o, _) = held_taken (blocks h * s.domains) (places s h) (want R h) (old P h) (free h) (was s P h)
      (O h hi).held p b f in
      let (d, a, bd, ba, n, g, w', i) = place_owner s range S sP owner free O is h p e hi b bi c in
      let (j, v, l, t) = old_led s P d a ba h hi (rw n o) in
      let (x, y) = both_kept F (lawful s) (exact s) sP done d a bd ba (next v l)
      (gets_visits F (lawful s) (exact s) (λ h d a. wants_of (R d) h a) stand (tells_wants s R S)
      (final_placing s range S sP owner free O is)
      (final_encodes s range S sP owner free O is)
      h d a bd ba (omega arith) g) in
      let z : P j + index h a ≡ k = x ∙ ap (λ u. u + index h a) w' ∙ ap (λ u. place_at s h p + u) i ∙ sym q in
      rw z at y

  -- A kept word below the roots stands at a place that is not free.
  kept_taken : (h k : ℕ) → h < 2 → Kept F P Q h k → (p : ℕ) × (e : ℕ) × InPlace s k h p e × (free h p ≡ false)
  kept_taken h k hi x =
      let (d, a, bd, ba, v, w) = kept_met F (exact s) x in
      let (g, q) = visits_gets F (lawful s) (exact s) (λ h d a. wants_of (R d) h a) stand (tells_wants s R S)
      (final_placing s range S sP owner free O is)
      (final_encodes s range S sP owner free O is)
      d a bd ba w in
      let (t, led, _) = led_visited d a v hi in
      let (o, _) = led_old s P d a ba h t led in
      let (f, _) = seek_keeps (blocks h * s.domains) (places s h) (want R h) (old P h) (free h) (was s P h) (O h hi)
      (number h d a) (number_below h s.domains d a hi bd ba)
      (want_got s range S sP owner free O is h d a hi ba g) o in
      let b = (own s range S sP owner free O is h d a hi bd ba g).0 in (
        seek (owner h) (number h d a) (places s h),
        index h a,
        (hi, b, index_below h a, q ∙ ap (λ u. u + index h a) (place_table s owner h d a hi)),
        f,
      )

  root_kept : (k : ℕ) → k < first_middle s → Kept F P Q 2 k
  root_kept k b = top {m = 2} {j = k} (k / 1024, k % 1024, refl, omega arith, omega arith, omega arith)

  kept_two : {m k : ℕ} → Kept F P Q m k → m ≡ 2 → k < first_middle s
  kept_two (top (d, i, u, v, w, z)) e = omega arith
  kept_two (down i q u l b) e = let z = kept_low F q in absurd (omega arith)

  tells_is : (m k : ℕ) → Kept F P Q m k → kept_word s free k ≡ true
  tells_is m k x = elim (dec_lt m 2) [
    | yes hi ↦ (let (p, e, y, f) = kept_taken m k hi x in kept_place s free k m p e y ∙ ap not f)
    | no hi ↦ (let z = kept_low F x in kept_root s free k (kept_two x (omega arith)))
  ]

  in_zone : {h k : ℕ} → Kept F P Q h k → Kept F P Q (F.zone k) k
  in_zone x = rw (kept_zone F (lawful s) sP x) x

  tells_are : (k : ℕ) → kept_word s free k ≡ true → Kept F P Q (F.zone k) k
  tells_are k w = ⊎_elim
      (λ b. in_zone (root_kept k b))
      (⊎_elim
      (λ (h, p, e, x). in_zone (taken_kept k h p e x
      (not-true (free h p) (sym (kept_place s free k h p e x) ∙ w))))
      (λ b. absurd (true≢false (sym w ∙ kept_past s free k b))))
      (which_word s k)

  -- The test tells the kept words ..
  pub final_tells : Tells F P Q (kept_word s free)
  final_tells = record { is = tells_is; are = tells_are }

  -- .. so each word is safe to store at its turn, and at any time the pool is one that a cut leaves.
  pub final_ready : (k : ℕ)
      → Ready F P Q (midway P Q (phase F P (kept_word s free)) (phase F P (kept_word s free) k) k) k
  final_ready k = phase_ready F (lawful s) sP (kept_word s free) final_tells (exact s) done k

  pub final_cut : (c k : ℕ) → Cut F P Q (midway P Q (phase F P (kept_word s free)) c k)
  final_cut c k = midway_cut F (lawful s) sP (kept_word s free) final_tells (exact s) done c k
