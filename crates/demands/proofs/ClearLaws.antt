-- Where a walk is refused 6 no slot answers: that holds of an emptied buffer, and checks, flushes, changes and
-- tidyings keep it.
use Prim.Native.Nat.{ℕ, zero, suc, ◌/◌, ◌<◌}
use mathlib.Core.Path.{◌≡◌, refl, sym, ap, ◌∙◌}
use mathlib.Core.Logic.{◌≢◌, ⊎_elim}
use mathlib.Core.Bool.{Bool, true, false, cond, false≢true}
use mathlib.Core.List.{List, [], ◌∷◌, map}
use native.Mathlib.Omega.{arith}
use native.Mathlib.Decide.{ℕ_discrete, dec_lt}
use lib.ListN.{length, set, get_or, replicate, get_or-map}
use Rattle.std.specs.Prelude.{Result, Ok, Err, Option, Some, None}
use Rattle.refusals.specs.declared.Refusal.{Refusal}
use Rattle.refusals.specs.declared.Refusal.TheVariants.{NotSound}
use lib.Seq.{set_out, get_or-set_same, get_or-set_other}
use Rattle.theory.specs.Pool.{words, SoundPool, entry}
use Rattle.theory.specs.Settled.{Together}
use Rattle.theory.proofs.WalkLaws.{decides_low, together_decides}
use Rattle.table.specs.declared.Shape.{Shape}
use Rattle.table.specs.declared.Deciding.{Deciding}
use Rattle.table.specs.Shape.{Fits, fits_of}
use Rattle.table.specs.Map.{addresses, form_of}
use Rattle.table.specs.Lookup.{found_at, lookup_of}
use Rattle.table.proofs.LookupLaws.{right_found, lookup_walks, sound_lookup}
use Rattle.plan.specs.Aims.{Aim}
use Rattle.change.specs.declared.Ending.{Ending}
use Rattle.change.specs.Answers.{ChangesRegion, Changes, Tidies, no_shape, no_domain, no_right, no_region, in_order}
use Rattle.change.specs.Answers.{unsound, unsettled, no_room, done, cut}
use Rattle.lookaside.specs.declared.Slot.{Slot}
use Rattle.lookaside.specs.Slots.{Buffer, height_of, block_bytes, matches, first_match, slot_for, empty_slot, empty_buffer}
use Rattle.lookaside.specs.Check.{refusal_of, walked, answered, check_of}
use Rattle.lookaside.specs.Flushes.{Flushing, flushes, flushed_slot, flushed_buffer}
use Rattle.lookaside.proofs.TestLaws.{round_count}
use Rattle.lookaside.proofs.SlotLaws.{match_is}
use Rattle.lookaside.proofs.BufferLaws.{first_matches}
use Rattle.lookaside.proofs.CheckLaws.{allowed, check_refused, check_answered, check_cases}
use Rattle.lookaside.proofs.AgreeLaws.{block_together}
use Rattle.owners.specs.Changes.{ChangesBy}
use Rattle.owners.proofs.ByLaws.{by_changes}

-- Wherever the slot matches, the walk is not refused 6.
abbrev pub Clear : List ℕ → Shape → Slot → Type 0
Clear p s t = (d a : ℕ) → d < s.domains → a < addresses → matches t d a ≡ true → lookup_of p s d a ≢ Err NotSound

-- Every slot of the buffer is clear; past its end there are only empty ones.
abbrev pub AllClear : List ℕ → Shape → Buffer → Type 0
AllClear p s b = (i : ℕ) → Clear p s (get_or b.slots i empty_slot)

pub not_six : {x : Deciding} → Ok x ≡ Err NotSound → ⊥
not_six e = cc

empty_clear : (p : List ℕ) (s : Shape) → Clear p s empty_slot
empty_clear p s d a hd ha m = absurd (false≢true (match_is empty_slot d a m).level)

empty_at : (n i : ℕ) → get_or (replicate n empty_slot) i empty_slot ≡ empty_slot
empty_at zero i = refl
empty_at (suc n) zero = refl
empty_at (suc n) (suc i) = empty_at n i

pub emptied_clear : (p : List ℕ) (s : Shape) → AllClear p s empty_buffer
unfolding empty_buffer
emptied_clear p s i = rw (empty_at 64 i) (empty_clear p s)

-- In a sound pool every slot is clear.
pub sound_clear : (p : List ℕ) (s : Shape) → SoundPool (form_of s) (words p) → Fits s (length p) → (b : Buffer)
    → AllClear p s b
sound_clear p s q f b i d a hd ha m e = let (x, z, _) = sound_lookup p s d a q f hd in not_six (sym z ∙ e)

-- What a lookup keeps is clear: on its whole block the walk ends at the same entry.
kept_clear : (p : List ℕ) (s : Shape) (d a : ℕ) (x : Deciding) → fits_of s (length p) ≡ true → lookup_of p s d a ≡ Ok x
    → Clear p s (slot_for d a x.entry x.loads)
kept_clear p s d a x ok e f c hf hc m six =
    let n = x.loads in
    let g = match_is (slot_for d a x.entry n) f c m in
    let q = sym (round_count (block_bytes n) (a / block_bytes n) c g.from g.to) in
    let (h, k, z, _, _, o) = right_found p s d a x e in
    let lo = decides_low (form_of s) (words p) a (λ v. refl) 2 (entry (form_of s) d a) z in
    let y : height_of n ≡ h = omega arith in
    let t : Together (form_of s) h a c = rw y at (block_together s (height_of n) a c q) in
    let u = together_decides (form_of s) (words p) a c (λ v. refl) d z t in
    let i : d ≡ f = g.domain in
    let b : d < s.domains = rw (← i) at hf in
    let found = lookup_walks p s d c ok b ∙ ap (found_at (form_of s) (words p) c) u in
    not_six (sym found ∙ ap (λ v. lookup_of p s v c) i ∙ six)

-- The slot that answers is one of the buffer's.
answers_at : (l : List Slot) (d a : ℕ) (t : Slot) → first_match l d a ≡ Some t → (i : ℕ) × (get_or l i empty_slot ≡ t)
unfolding first_match
answers_at [] d a t h = cc
answers_at (x ∷ xs) d a t h = go (matches x d a) (answers_at xs d a t) h
  where
    go : (c : Bool) → (first_match xs d a ≡ Some t → (i : ℕ) × (get_or xs i empty_slot ≡ t))
        → cond c (Some x) (first_match xs d a) ≡ Some t
        → (i : ℕ) × (get_or (x ∷ xs) i empty_slot ≡ t)
    go true later h = (0, cc)
    go false later h = let (i, e) = later h in (suc i, e)

-- The refusal before the walk, or else that of the walk.
abbrev pub or_six : Result (Unit {0}) Refusal → Refusal
or_six (Ok _) = NotSound
or_six (Err r) = r

module _ (p : List ℕ) (s : Shape) (b : Buffer) (g : AllClear p s b) where
  -- A flush leaves of each slot what it was, or an empty one.
  pub flushed_clear : (f : Flushing) → AllClear p s (flushed_buffer f b)
  unfolding flushed_buffer flushed_slot
  flushed_clear f i =
      let z = ap (get_or (map (flushed_slot f) b.slots) i) (sym (empty (flushes f empty_slot))) in
      rw (z ∙ get_or-map (flushed_slot f) b.slots i empty_slot) (go (flushes f (get_or b.slots i empty_slot)))
    where
      empty : (x : Bool) → cond x empty_slot empty_slot ≡ empty_slot
      empty true = refl
      empty false = refl

      go : (x : Bool) → Clear p s (cond x empty_slot (get_or b.slots i empty_slot))
      go true = empty_clear p s
      go false = g i

  -- A fill puts a clear slot in the place of another.
  filled_clear : (n : ℕ) (t : Slot) → Clear p s t → (i : ℕ) → Clear p s (get_or (set b.slots n t) i empty_slot)
  filled_clear n t h i = elim (ℕ_discrete i n) [
    | yes e ↦ elim (dec_lt n (length b.slots)) [
      | yes k ↦ rw (e, get_or-set_same b.slots n t empty_slot k) h
      | no k ↦ rw (set_out b.slots n t (omega arith)) (g i)
    ]
    | no e ↦ rw (get_or-set_other b.slots n i t empty_slot e) (g i)
  ]

  walked_clear : (d kind a : ℕ) → fits_of s (length p) ≡ true → (f : Result Deciding Refusal) → lookup_of p s d a ≡ f
      → AllClear p s (walked f b d kind a).buffer
  walked_clear d kind a ok (Ok x) e = filled_clear b.next (slot_for d a x.entry x.loads)
      (kept_clear p s d a x ok e)
  walked_clear d kind a ok (Err r) e = g

  answered_clear : (d kind a : ℕ) → fits_of s (length p) ≡ true → (h : Option Slot)
      → AllClear p s (answered h p s b d kind a).buffer
  answered_clear d kind a ok (Some t) = g
  answered_clear d kind a ok None = walked_clear d kind a ok (lookup_of p s d a) refl

  pub check_clear : (d kind size a : ℕ) → AllClear p s (check_of p s b d kind size a).buffer
  check_clear d kind size a = check_cases p s b d kind size a (λ c. AllClear p s c.buffer) (λ _ _. g)
      (λ e. answered_clear d kind a (allowed s (length p) b.next d kind size a e).fits (first_match b.slots d a))

  -- What a change or a tidying leaves is the pool that came in, or sound.
  region_clear : {q : List ℕ} {A : Aim} {n : ℕ} {c : Result Ending Refusal} → Fits s (length p)
      → ChangesRegion p s A n c q → AllClear q s b
  region_clear f (unsound x) = g
  region_clear f (unsettled x y) = g
  region_clear f (no_room x y) = g
  region_clear f (done t q y) = sound_clear q s y.finished.settled.sound (rw y.long f) b
  region_clear f (cut t q y) = sound_clear q s y.cut.sound (rw y.cut.long f) b

  pub change_clear : {q : List ℕ} {d start len r n : ℕ} {c : Result Ending Refusal}
      → Changes p s d start len r n c q → AllClear q s b
  change_clear (no_shape x) = g
  change_clear (no_domain x y) = g
  change_clear (no_right x y w) = g
  change_clear (no_region x y w k v) = g
  change_clear (in_order k asked x) = region_clear asked.fits x

  -- So does a change by a caller, which is a change or leaves the pool.
  pub change_by_clear : {q list : List ℕ} {caller d start len r n : ℕ} {c : Result Ending Refusal}
      → ChangesBy p s list caller d start len r n c q → AllClear q s b
  change_by_clear x = ⊎_elim change_clear (λ (k, e, f). rw f g) (by_changes x)

  pub tidy_clear : {q : List ℕ} {n : ℕ} {c : Result Ending Refusal} → Tidies p s n c q → AllClear q s b
  tidy_clear (no_shape x) = g
  tidy_clear (unsound x y) = g
  tidy_clear (done f y q z) = sound_clear q s z.finished.settled.sound (rw z.long f) b
  tidy_clear (cut f y q z) = sound_clear q s z.cut.sound (rw z.cut.long f) b

  answered_six : (d kind a : ℕ) → d < s.domains → a < addresses → lookup_of p s d a ≡ Err NotSound → (h : Option Slot)
      → first_match b.slots d a ≡ h → (answered h p s b d kind a).verdict ≡ Err NotSound
  answered_six d kind a hd ha six (Some t) h =
      let (i, q) = answers_at b.slots d a t h in
      let m : matches (get_or b.slots i empty_slot) d a ≡ true = rw q (first_matches b.slots d a t h) in
      absurd (g i d a hd ha m six)
  answered_six d kind a hd ha six None h = ap (λ f. (walked f b d kind a).verdict) six

  -- Where the walk is refused 6, so is a check that is not refused before it.
  pub check_six : (d kind size a : ℕ) → a < addresses → lookup_of p s d a ≡ Err NotSound
      → (check_of p s b d kind size a).verdict ≡ Err (or_six (refusal_of s (length p) b.next d kind size a))
  check_six d kind size a ha six = go (refusal_of s (length p) b.next d kind size a) refl
    where
      go : (r : Result (Unit {0}) Refusal) → refusal_of s (length p) b.next d kind size a ≡ r
          → (check_of p s b d kind size a).verdict ≡ Err (or_six r)
      go (Ok _) e =
          let ok = allowed s (length p) b.next d kind size a e in
          ap (λ c. c.verdict) (check_answered p s b d kind size a e)
          ∙ answered_six d kind a ok.domain ha six (first_match b.slots d a) refl
      go (Err r) e = ap (λ c. c.verdict) (check_refused p s b d kind size a r e)
