-- Demand 3: the rights after any series, and that no outcome of a series is refused 6.
use Prim.Native.Nat.{ℕ}
use mathlib.Core.Path.{◌≡◌, refl, ap, ◌∙◌}
use mathlib.Core.Logic.{◌≢◌, ◌⊎◌, inl, inr, ⊎_elim}
use mathlib.Core.Bool.{cond}
use mathlib.Core.List.{List}
use native.Mathlib.Omega.{arith}
use Rattle.words.proofs.RegionLaws.{region_number}
use lib.ListN.{length, length-append, length-replicate}
use Rattle.std.specs.Prelude.{Result, Ok, Err}
use Rattle.refusals.specs.declared.Refusal.{Refusal}
use Rattle.refusals.specs.declared.Refusal.TheVariants.{NoShape, NotSound}
use Rattle.refusals.specs.Refusals.{number}
use Rattle.theory.proofs.Logic.{by_cases}
use Rattle.theory.specs.Pool.{words, SoundPool}
use Rattle.words.specs.Region.{region_of}
use Rattle.words.specs.declared.Region.{Region}
use Rattle.table.specs.declared.Shape.{Shape}
use Rattle.table.specs.Shape.{fits_of, pool_length}
use Rattle.table.specs.Fresh.{MakesFresh, fresh_pool}
use Rattle.table.specs.Map.{form_of}
use Rattle.table.proofs.ShapeLaws.{test_fits}
use Rattle.table.proofs.FreshWordLaws.{fresh_settled, fresh_right}
use Rattle.change.specs.declared.Ending.{Ending}
use Rattle.change.specs.declared.Ending.TheVariants.{Done, Cut}
use Rattle.plan.specs.Aims.{Aim}
use Rattle.change.specs.Answers.{ChangesRegion, Changes, Tidies, no_shape}
use Rattle.change.specs.Answers.{no_domain, no_right, no_region, in_order, unsound, unsettled, no_room, done, cut}
use Rattle.plan.proofs.AimLaws.{aimed_covered, aimed_other}
use Rattle.owners.specs.Changes.{ChangesBy, not_asked, not_allowed, allowed}
use Rattle.owners.proofs.CallLaws.{asked_number}
use Rattle.owners.proofs.ByLaws.{by_changes}
use Rattle.demands.specs.Series.{Deed, aimed, tidied, listed, History, made, after, aim_in, setting}
use Rattle.demands.specs.Series.{Call, change, change_by, tidy, make, pass, give, Series, fresh, call, Holds}

pub one_region : (start len : ℕ) {g h : Region} → region_of start len ≡ Ok g → region_of start len ≡ Ok h → g ≡ h
one_region start len e f = cc

-- The length of a fresh pool is that of its shape.
fresh_long : (s : Shape) → length (fresh_pool s) ≡ pool_length s
fresh_long s = simp (length-append, length-replicate) (omega arith)

fresh_holds : (s : Shape) (p q : List ℕ) → MakesFresh s p (Ok tt) q → Holds s q made
fresh_holds s p q m = by_cases (fits_of s (length p))
    (λ e.
    let z : q ≡ fresh_pool s = m.pool ∙ ap (λ b. cond b (fresh_pool s) p) e in
    let f = test_fits s (length p) e in
    record {
      fits = record { range = f.range; long = ap length z ∙ fresh_long s };
      sound = rw z (fresh_settled s).sound;
      rights = λ e a be ba. rw z (fresh_right s e a be);
    })
    (λ e. absurd (refuses (m.answer ∙ ap (λ b. cond b (Ok tt) (Err NoShape)) e)))
  where
    refuses : ◌≡◌ {A = Result (Unit {0}) Refusal} (Ok tt) (Err NoShape) → ⊥
    refuses e = cc

module _ {s : Shape} {p : List ℕ} {h : History} (o : Holds s p h) where
  region_holds : {A : Aim} {n : ℕ} {c : Result Ending Refusal} {q : List ℕ} → ChangesRegion p s A n c q
      → Holds s q (after h (aimed A c))
  region_holds (unsound x) = record { fits = o.fits; sound = o.sound; rights = o.rights }
  region_holds (unsettled x y) = record { fits = o.fits; sound = o.sound; rights = o.rights }
  region_holds (no_room x y) = record { fits = o.fits; sound = o.sound; rights = o.rights }
  region_holds {A} (done t q f) = record {
    fits = rw f.long o.fits;
    sound = f.finished.settled.sound;
    rights = λ e a be ba. by_cases (A.covers e a)
        (λ c. inl (c, f.finished.rights e a be ba ∙ aimed_covered s A (words p) e a c))
        (λ c.
        let same = f.finished.rights e a be ba ∙ aimed_other s A (words p) e a c in
        inr (c, rw same (o.rights e a be ba)));
  }
  region_holds {A} (cut t x f) = record {
    fits = rw f.cut.long o.fits;
    sound = f.cut.sound;
    rights = λ e a be ba. by_cases (A.covers e a)
        (λ c. ⊎_elim
        (λ y. inr (rw y (o.rights e a be ba)))
        (λ y. inl (c, y))
        (f.cut.covered e a be ba c))
        (λ c. inr (rw (f.cut.others e a be ba c) (o.rights e a be ba)));
  }

  change_holds : {d start len r n : ℕ} {c : Result Ending Refusal} {q : List ℕ} → Changes p s d start len r n c q
      → Holds s q (after h (setting d start len r c))
  change_holds (no_shape x) = record { fits = o.fits; sound = o.sound; rights = o.rights }
  change_holds (no_domain x y) = record { fits = o.fits; sound = o.sound; rights = o.rights }
  change_holds (no_right x y z) = record { fits = o.fits; sound = o.sound; rights = o.rights }
  change_holds (no_region x y z k w) = record { fits = o.fits; sound = o.sound; rights = o.rights }
  change_holds {d} {r = r} (in_order g asked x) = rw (ap (λ z. aim_in z d r) asked.region) (region_holds x)

  tidy_holds : {n : ℕ} {c : Result Ending Refusal} {q : List ℕ} → Tidies p s n c q → Holds s q (after h (tidied c))
  tidy_holds (no_shape x) = record { fits = o.fits; sound = o.sound; rights = o.rights }
  tidy_holds (unsound x y) = record { fits = o.fits; sound = o.sound; rights = o.rights }
  tidy_holds (done x y q f) = record {
    fits = rw f.long o.fits;
    sound = f.finished.settled.sound;
    rights = λ e a be ba. rw (f.finished.rights e a be ba) (o.rights e a be ba);
  }
  tidy_holds (cut x y q f) = record {
    fits = rw f.cut.long o.fits;
    sound = f.cut.sound;
    rights = λ e a be ba. rw (f.cut.others e a be ba refl) (o.rights e a be ba);
  }

  -- A change by a caller that is not allowed is refused, and does not count.
  refused_holds : {A : Aim} {k : Refusal} → Holds s p (after h (aimed A (Err k)))
  refused_holds = record { fits = o.fits; sound = o.sound; rights = o.rights }

  by_holds : {list : List ℕ} {caller d start len r n : ℕ} {c : Result Ending Refusal} {q : List ℕ}
      → ChangesBy p s list caller d start len r n c q → Holds s q (after h (setting d start len r c))
  by_holds x = ⊎_elim change_holds (λ (k, e, f). rw (e, f) refused_holds) (by_changes x)

  -- A call on the list of owned regions sets no right.
  listed_holds : Holds s p (after h listed)
  listed_holds = record { fits = o.fits; sound = o.sound; rights = o.rights }

  call_holds : {list m : List ℕ} {e : Deed} {q : List ℕ} → Call s p list e q m → Holds s q (after h e)
  call_holds (change x) = change_holds x
  call_holds (change_by x) = by_holds x
  call_holds (tidy x) = tidy_holds x
  call_holds (make D caller owner start len) = listed_holds
  call_holds (pass D caller owner start len) = listed_holds
  call_holds (give D caller receiver right start len) = listed_holds

-- Demand 3: after any series the pool is sound, and every word has the right of the last finished change that covers
-- it, or of a later one that was cut. Of the changes by callers only those that were allowed count.
pub series_holds : {s : Shape} {p list : List ℕ} {h : History} → Series s p list h → Holds s p h
series_holds {s} (fresh {p} {q} m list) = fresh_holds s p q m
series_holds (call x y) = call_holds (series_holds x) y

-- No change and no tidying of a series is refused for a pool that is not sound ..
never_unsound : {s : Shape} {p q : List ℕ} {A : Aim} {n : ℕ} {c : Result Ending Refusal}
    → SoundPool (form_of s) (words p) → ChangesRegion p s A n c q → c ≢ Err NotSound
never_unsound o (unsound x) e = x o
never_unsound o (unsettled x y) e = cc
never_unsound o (no_room x y) e = cc
never_unsound o (done x q y) e = cc
never_unsound o (cut x q y) e = cc

pub series_never_6 : {s : Shape} {p list q : List ℕ} {h : History} {d start len r n : ℕ} {c : Result Ending Refusal}
    → Series s p list h → Changes p s d start len r n c q → c ≢ Err NotSound
series_never_6 x (no_shape y) e = y (series_holds x).fits
series_never_6 x (no_domain y z) e = cc
series_never_6 x (no_right y z w) e = cc
series_never_6 {start = start} {len = len} x (no_region y z w k v) e =
    ⊎_elim (λ a. cc) (λ a. cc) (region_number start len k v)
series_never_6 x (in_order g asked y) e = never_unsound (series_holds x).sound y e

-- .. whoever asks for the change ..
pub series_by_never_6 : {s : Shape} {p list m q : List ℕ} {h : History} {caller d start len r n : ℕ}
    {c : Result Ending Refusal} → Series s p list h → ChangesBy p s m caller d start len r n c q → c ≢ Err NotSound
series_by_never_6 {s} {p} {m = m} {caller = caller} {d} {start} {len} {r} x (not_asked k e) z =
    let w : k ≡ NotSound = cc in
    let v = ap number w in
    ⊎_elim (λ a. omega arith) (λ b. ⊎_elim (λ a. omega arith) (λ a. omega arith) b)
    (asked_number (fits_of s (length p)) m s.domains caller d r start len k e)
series_by_never_6 x (not_allowed g e f) z = cc
series_by_never_6 x (allowed g e f y) z = series_never_6 x y z

-- .. and a tidying is done or cut.
pub series_tidy_ends : {s : Shape} {p list q : List ℕ} {h : History} {n : ℕ} {c : Result Ending Refusal}
    → Series s p list h
    → Tidies p s n c q → ((k : ℕ) × (c ≡ Ok (Done k))) ⊎ (c ≡ Ok Cut)
series_tidy_ends x (no_shape y) = absurd (y (series_holds x).fits)
series_tidy_ends x (unsound y z) = absurd (z (series_holds x).sound)
series_tidy_ends x (done y z q w) = inl (_, refl)
series_tidy_ends x (cut y z q w) = inr refl

pub series_tidy_never_6 : {s : Shape} {p list q : List ℕ} {h : History} {n : ℕ} {c : Result Ending Refusal}
    → Series s p list h
    → Tidies p s n c q → c ≢ Err NotSound
series_tidy_never_6 x y e = ⊎_elim (λ (k, z). cc) (λ z. cc) (series_tidy_ends x y)
