-- Laws of verdicts: by a buffer that agrees with the table, a check says what the walk says, in at most 3 loads, as
-- with an emptied buffer. Assumes nothing.
use Prim.Native.Nat.{ℕ, ◌≤◌, ◌<◌}
use mathlib.Core.Path.{◌≡◌, refl, sym, ap, ◌∙◌}
use mathlib.Core.Logic.{◌⊎◌, inl, inr, ⊎_elim}
use mathlib.Core.Bool.{Bool, true, false, cond}
use mathlib.Core.List.{List}
use native.Mathlib.Omega.{arith}
use lib.ListN.{length}
use Rattle.theory.specs.Form.{Form}
use Rattle.theory.specs.Pool.{words, entry}
use Rattle.theory.specs.Walk.{End, bad, decides, walk}
use Rattle.refusals.specs.declared.Refusal.{Refusal}
use Rattle.refusals.specs.declared.Refusal.TheVariants.{NotSound}
use Rattle.table.specs.declared.Shape.{Shape}
use Rattle.table.specs.declared.Deciding.{Deciding}
use Rattle.table.specs.Shape.{fits_of}
use Rattle.table.specs.Map.{addresses, form_of}
use Rattle.table.specs.Lookup.{found_at, lookup_of}
use Rattle.table.specs.Access.{passes_of}
use Rattle.table.proofs.LookupLaws.{lookup_walks, right_loads, right_is}
use Rattle.std.specs.Prelude.{Option, Some, None, Result, Ok, Err}
use Rattle.lookaside.specs.declared.Slot.{Slot}
use Rattle.lookaside.specs.declared.Verdict.TheVariants.{Pass, Deny}
use Rattle.lookaside.specs.Slots.{Buffer, first_match, empty_buffer}
use Rattle.lookaside.specs.Check.{refusal_of, verdict_of, without_loads, walked, answered, check_of}
use Rattle.lookaside.specs.Agree.{Places, rights_of, AgreesBut}
use Rattle.lookaside.proofs.CheckLaws.{Allowed, allowed, check_refused, check_answered, refusal_pointer}
use Rattle.lookaside.proofs.AgreeLaws.{emptied_agrees, hit_right}

-- A lookup of a domain of the shape finds that the pool is not sound, or a right.
abbrev pub NotSoundOrFound : Result Deciding Refusal → Type 0
NotSoundOrFound f = (f ≡ Err NotSound) ⊎ ((x : Deciding) × (f ≡ Ok x))

found_cases : (F : Form) (P : ℕ → ℕ) (a : ℕ) (e : End) → NotSoundOrFound (found_at F P a e)
found_cases F P a bad = inl refl
found_cases F P a (decides h k) = inr (_, refl)

pub lookup_cases : (p : List ℕ) (s : Shape) (d a : ℕ) → fits_of s (length p) ≡ true → d < s.domains
    → NotSoundOrFound (lookup_of p s d a)
lookup_cases p s d a f h =
    rw (lookup_walks p s d a f h) (found_cases (form_of s) (words p) a
    (walk (form_of s) (words p) a 2 (entry (form_of s) d a)))

-- The verdict on a right, in numbers.
pub said_verdict : (kind r n : ℕ) → without_loads (Ok (verdict_of kind r n))
    ≡ record { refusal = 0; verdict = cond (passes_of kind r) 1 0; loads = 0 }
said_verdict kind r n = go (passes_of kind r)
  where
    go : (t : Bool) → without_loads (Ok (cond t (Pass n) (Deny n)))
        ≡ record { refusal = 0; verdict = cond t 1 0; loads = 0 }
    go true = refl
    go false = refl

-- A check that is not refused at once can only be refused because the pool is not sound.
pub only_not_sound : (p : List ℕ) (s : Shape) (b : Buffer) (d kind size a : ℕ) (r : Refusal) → refusal_of s (length p)
    b.next d kind size a ≡ Ok tt
    → (check_of p s b d kind size a).verdict ≡ Err r → r ≡ NotSound
only_not_sound p s b d kind size a r e v = go (first_match b.slots d a) (rw (check_answered p s b d kind size a e) at v)
  where
    ok : Allowed s (length p) b.next d kind size a
    ok = allowed s (length p) b.next d kind size a e

    walks : (f : Result Deciding Refusal) → NotSoundOrFound f → (walked f b d kind a).verdict ≡ Err r → r ≡ NotSound
    walks (Ok x) c q = cc
    walks (Err m) c q = ⊎_elim (λ h. cc) (λ t. let h = t.1 in cc) c

    go : (h : Option Slot) → (answered h p s b d kind a).verdict ≡ Err r → r ≡ NotSound
    go (Some t) q = cc
    go None q = walks (lookup_of p s d a) (lookup_cases p s d a ok.fits ok.domain) q

-- What a check says, at a place that is not stale, where the walk meets no bad entry.
module _ (p : List ℕ) (s : Shape) (x : Places) (d kind size a : ℕ) (z : x d a ≡ false) (ha : a < addresses)
    (sound : lookup_of p s d a ≡ Err NotSound → ⊥) where
  -- It passes exactly where the table's right lets it, in at most 3 loads.
  pub check_right : (b : Buffer) → AgreesBut s.domains (rights_of s p) x b → refusal_of s (length p) b.next d kind
      size a ≡ Ok tt
      → (n : ℕ) × (n ≤ 3) × ((check_of p s b d kind size a).verdict ≡ Ok (verdict_of kind (rights_of s p d a) n))
  check_right b g e = rw (check_answered p s b d kind size a e) (go (first_match b.slots d a) refl)
    where
      ok : Allowed s (length p) b.next d kind size a
      ok = allowed s (length p) b.next d kind size a e

      go : (h : Option Slot) → first_match b.slots d a ≡ h
          → (n : ℕ) × (n ≤ 3) × ((answered h p s b d kind a).verdict ≡ Ok (verdict_of kind (rights_of s p d a) n))
      go (Some t) h = (
        0,
        omega arith,
        ap (λ r. Ok (verdict_of kind r 0))
            (hit_right s.domains (rights_of s p) x b d a t g h ok.domain ha z),
      )
      go None h = ⊎_elim (λ k. absurd (sound k))
          (λ k. let (y, q) = k in (
            y.loads,
            (right_loads p s d a y q).1,
            ap (λ f. (walked f b d kind a).verdict) q ∙ ap (λ v. Ok (verdict_of kind v y.loads)) (right_is p s d a y q),
          ))
          (lookup_cases p s d a ok.fits ok.domain)

  pub check_verdict : (b : Buffer) → AgreesBut s.domains (rights_of s p) x b → refusal_of s (length p) b.next d kind
      size a ≡ Ok tt
      → without_loads (check_of p s b d kind size a).verdict
      ≡ record { refusal = 0; verdict = cond (passes_of kind (rights_of s p d a)) 1 0; loads = 0 }
  check_verdict b g e =
      let (n, _, q) = check_right b g e in
      ap without_loads q ∙ said_verdict kind (rights_of s p d a) n

  -- It says what the same check says with an emptied buffer, refusals included.
  pub check_as_emptied : (b : Buffer) → AgreesBut s.domains (rights_of s p) x b → b.next < 64
      → without_loads (check_of p s b d kind size a).verdict
      ≡ without_loads (check_of p s empty_buffer d kind size a).verdict
  unfolding empty_buffer
  check_as_emptied b g h = go r refl
    where
      r : Result (Unit {0}) Refusal
      r = refusal_of s (length p) empty_buffer.next d kind size a

      same : refusal_of s (length p) b.next d kind size a ≡ r
      same = refusal_pointer s (length p) d kind size a b.next empty_buffer.next h (omega arith)

      go : (t : Result (Unit {0}) Refusal) → r ≡ t → without_loads (check_of p s b d kind size a).verdict
          ≡ without_loads (check_of p s empty_buffer d kind size a).verdict
      go (Ok _) e = check_verdict b g (same ∙ e)
          ∙ sym (check_verdict empty_buffer (emptied_agrees s.domains (rights_of s p) x) e)
      go (Err n) e = ap (λ c. without_loads c.verdict) (check_refused p s b d kind size a n (same ∙ e))
          ∙ sym (ap (λ c. without_loads c.verdict) (check_refused p s empty_buffer d kind size a n e))
