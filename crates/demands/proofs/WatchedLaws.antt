-- Demand 2: a lookup is exact, in at most three loads, and a check through the buffer gives the walk's verdict.
use Prim.Native.Nat.{ℕ, ◌≤◌, ◌<◌}
use mathlib.Core.Path.{◌≡◌, refl, sym, ap, ◌∙◌}
use mathlib.Core.Logic.{◌≢◌, ◌⊎◌, inl, inr, ⊎_elim}
use mathlib.Core.Bool.{Bool, true, false, cond, ◌&&◌}
use lib.Dec.{ltb}
use mathlib.Core.List.{List}
use native.Mathlib.Omega.{arith}
use lib.ListN.{length}
use Rattle.std.specs.Prelude.{Result, Ok, Err}
use Rattle.refusals.specs.declared.Refusal.{Refusal}
use Rattle.refusals.specs.declared.Refusal.TheVariants.{NoShape, NoDomain, NotSound}
use Rattle.theory.specs.Pool.{words, entry, SoundPool, right_of}
use Rattle.theory.specs.Walk.{End, bad, decides, walk}
use Rattle.words.specs.Region.{region_of}
use Rattle.words.specs.declared.Region.{Region}
use Rattle.table.specs.declared.Shape.{Shape}
use Rattle.table.specs.declared.Deciding.{Deciding}
use Rattle.table.specs.Shape.{Fits, fits_of}
use Rattle.table.specs.Map.{addresses, form_of}
use Rattle.table.specs.Lookup.{found_at, lookup_of}
use Rattle.table.proofs.LookupLaws.{right_loads, sound_lookup}
use Rattle.plan.specs.Aims.{Aim}
use Rattle.plan.proofs.AimLaws.{aimed_other}
use Rattle.change.specs.declared.Ending.{Ending}
use Rattle.change.specs.Answers.{ChangesRegion, Changes, Tidies, no_shape, no_domain, no_right}
use Rattle.change.specs.Answers.{no_region, in_order, unsound, unsettled, no_room, done, cut}
use Rattle.lookaside.specs.Slots.{Buffer, empty_buffer}
use Rattle.lookaside.specs.Check.{refusal_of, verdict_of, without_loads, check_of}
use Rattle.lookaside.specs.Flushes.{Flushing, Whole, OfDomain, OfRegion, Flushed, flushed_buffer, flushed_rounded, pointed}
use Rattle.lookaside.specs.Agree.{Places, nowhere, clears, both, less, rights_of, SameBut, AgreesBut}
use Rattle.lookaside.proofs.CheckLaws.{check_pointer, refusal_pointer}
use Rattle.lookaside.proofs.FlushLaws.{pointed_goes}
use Rattle.lookaside.proofs.AgreeLaws.{emptied_agrees, change_agrees, tidy_agrees, more_agrees, flush_agrees}
use Rattle.lookaside.proofs.AgreeLaws.{check_agrees}
use Rattle.lookaside.proofs.VerdictLaws.{check_right, check_as_emptied}
use Rattle.owners.specs.Changes.{ChangesBy}
use Rattle.owners.proofs.ByLaws.{by_changes}
use Rattle.demands.specs.Series.{Deed, History, after, aim_in, Call, change, change_by, tidy, make, pass, give}
use Rattle.demands.specs.Series.{Series, fresh, call}
use Rattle.demands.specs.Watched.{places_of, altered, Watched, emptied, checked, changed, changed_by, tidied}
use Rattle.demands.specs.Watched.{flushed_all, domain_flushed, region_flushed, unflushed}
use Rattle.demands.proofs.SeriesLaws.{series_holds}
use Rattle.demands.proofs.ClearLaws.{AllClear, not_six, or_six, emptied_clear, flushed_clear, check_clear}
use Rattle.demands.proofs.ClearLaws.{change_clear, change_by_clear, tidy_clear, check_six}

-- A lookup in a sound pool finds exactly the right that the table holds, in one to three loads.
pub lookup_exact : (p : List ℕ) (s : Shape) (d a : ℕ) → SoundPool (form_of s) (words p) → Fits s (length p)
    → d < s.domains
    → (x : Deciding) × (lookup_of p s d a ≡ Ok x) × (x.right ≡ right_of (form_of s) (words p) d a) × (1 ≤ x.loads)
    × (x.loads ≤ 3)
lookup_exact p s d a q f h =
    let (x, e, o) = sound_lookup p s d a q f h in
    let (lo, hi) = right_loads p s d a x e in
    (x, e, o, lo, hi)

-- What a change leaves as it was: all but the places that it may have altered.

region_same : {p q : List ℕ} {s : Shape} {A : Aim} {n : ℕ} {c : Result Ending Refusal} → ChangesRegion p s A n c q
    → SameBut s.domains (altered c A) (rights_of s p) (rights_of s q)
region_same (unsound x) e a be ba z = refl
region_same (unsettled x y) e a be ba z = refl
region_same (no_room x y) e a be ba z = refl
region_same {p} {s = s} {A} (done t q f) e a be ba z =
    sym (f.finished.rights e a be ba ∙ aimed_other s A (words p) e a z)
region_same (cut t x f) e a be ba z = sym (f.cut.others e a be ba z)

pub change_same : {p q : List ℕ} {s : Shape} {d start len r n : ℕ} {c : Result Ending Refusal}
    → Changes p s d start len r n c q
    → SameBut s.domains (altered c (aim_in (region_of start len) d r)) (rights_of s p) (rights_of s q)
change_same (no_shape x) e a be ba z = refl
change_same (no_domain x y) e a be ba z = refl
change_same (no_right x y w) e a be ba z = refl
change_same (no_region x y w k v) e a be ba z = refl
change_same {d = d} {r = r} {c = c} (in_order g asked x) e a be ba z =
    region_same x e a be ba (ap (λ t. altered c (aim_in t d r) e a) (sym asked.region) ∙ z)

-- The same of a change by a caller.
pub change_by_same : {p q list : List ℕ} {s : Shape} {caller d start len r n : ℕ} {c : Result Ending Refusal}
    → ChangesBy p s list caller d start len r n c q
    → SameBut s.domains (altered c (aim_in (region_of start len) d r)) (rights_of s p) (rights_of s q)
change_by_same x = ⊎_elim change_same (λ (k, e, f). rw (e, f) (λ e a be ba z. refl)) (by_changes x)

-- A tidying, finished or cut, leaves all rights: it needs no flush.
pub tidy_same : {p q : List ℕ} {s : Shape} {n : ℕ} {c : Result Ending Refusal} → Tidies p s n c q
    → SameBut s.domains nowhere (rights_of s p) (rights_of s q)
tidy_same (no_shape x) e a be ba z = refl
tidy_same (unsound x y) e a be ba z = refl
tidy_same (done x y q f) e a be ba z = sym (f.finished.rights e a be ba)
tidy_same (cut x y q f) e a be ba z = sym (f.cut.others e a be ba refl)

-- The buffer agrees with the table but where it is stale, no slot answers where the walk is refused 6, and its pointer
-- is in order.
pub record Sees (s : Shape) (p : List ℕ) (b : Buffer) (x : Places) : Type 0 where
  pub agrees : AgreesBut s.domains (rights_of s p) x b
  pub clear : AllClear p s b
  pub pointer : b.next < 64

first_pointer : empty_buffer.next < 64
unfolding empty_buffer
first_pointer = omega arith

emptied_sees : (s : Shape) (p : List ℕ) → Sees s p empty_buffer nowhere
emptied_sees s p = record {
  agrees = emptied_agrees s.domains (rights_of s p) nowhere;
  clear = emptied_clear p s;
  pointer = first_pointer;
}

-- Each use of a buffer and of the table beside it leaves the buffer so.
module _ {s : Shape} {p : List ℕ} {b : Buffer} {x : Places} (o : Sees s p b x) where
  check_sees : (d kind size a : ℕ) → Sees s p (check_of p s b d kind size a).buffer x
  check_sees d kind size a = record {
    agrees = check_agrees p s x b d kind size a o.agrees;
    clear = check_clear p s b o.clear d kind size a;
    pointer = check_pointer p s b d kind size a o.pointer;
  }

  change_sees : {q : List ℕ} {d start len r n : ℕ} {c : Result Ending Refusal} → Changes p s d start len r n c q
      → Sees s q b (both x (altered c (aim_in (region_of start len) d r)))
  change_sees {q} y = record {
    agrees = change_agrees s.domains (rights_of s p) (rights_of s q) b x _ (change_same y) o.agrees;
    clear = change_clear p s b o.clear y;
    pointer = o.pointer;
  }

  change_by_sees : {q list : List ℕ} {caller d start len r n : ℕ} {c : Result Ending Refusal}
      → ChangesBy p s list caller d start len r n c q
      → Sees s q b (both x (altered c (aim_in (region_of start len) d r)))
  change_by_sees {q} y = record {
    agrees = change_agrees s.domains (rights_of s p) (rights_of s q) b x _ (change_by_same y) o.agrees;
    clear = change_by_clear p s b o.clear y;
    pointer = o.pointer;
  }

  tidy_sees : {q : List ℕ} {n : ℕ} {c : Result Ending Refusal} → Tidies p s n c q → Sees s q b x
  tidy_sees {q} y = record {
    agrees = tidy_agrees s.domains (rights_of s p) (rights_of s q) b x (tidy_same y) o.agrees;
    clear = tidy_clear p s b o.clear y;
    pointer = o.pointer;
  }

  flush_sees : (f : Flushing) → Sees s p (flushed_buffer f b) (less x (clears f))
  unfolding flushed_buffer
  flush_sees f = record {
    agrees = flush_agrees s.domains (rights_of s p) x f b o.agrees;
    clear = flushed_clear p s b o.clear f;
    pointer = o.pointer;
  }

  rounded_sees : (g : Result Region Refusal) (d : ℕ) → Sees s p (flushed_rounded g b d).buffer (less x (places_of g d))
  rounded_sees (Ok g) d = flush_sees (OfRegion d g)
  rounded_sees (Err k) d = record {
    agrees = more_agrees s.domains (rights_of s p) b x (less x nowhere) (λ e a z. all (x e a) z) o.agrees;
    clear = o.clear;
    pointer = o.pointer;
  }
    where
      all : (t : Bool) → (t && true) ≡ false → t ≡ false
      all true z = z
      all false z = refl

  -- A flush is not refused 18.
  pointed_sees : (f : Flushed) {y : Places} → Sees s p f.buffer y → Sees s p (pointed b f).buffer y
  pointed_sees f z = rw (pointed_goes b f o.pointer) z

pub watched_sees : {s : Shape} {p : List ℕ} {b : Buffer} {x : Places} → Watched s p b x → Sees s p b x
watched_sees {s} (emptied p) = emptied_sees s p
watched_sees (checked w d kind size a) = check_sees (watched_sees w) d kind size a
watched_sees (changed w y) = change_sees (watched_sees w) y
watched_sees (changed_by w y) = change_by_sees (watched_sees w) y
watched_sees (tidied w y) = tidy_sees (watched_sees w) y
watched_sees (flushed_all w) = let o = watched_sees w in pointed_sees o _ (flush_sees o Whole)
watched_sees (domain_flushed w d) = let o = watched_sees w in pointed_sees o _ (flush_sees o (OfDomain d))
watched_sees (region_flushed w d start len) =
    let o = watched_sees w in pointed_sees o _ (rounded_sees o (region_of start len) d)

-- Whether a lookup is refused for a pool that is not sound can be told.
six_or_not : (p : List ℕ) (s : Shape) (d a : ℕ)
    → (lookup_of p s d a ≡ Err NotSound) ⊎ (lookup_of p s d a ≢ Err NotSound)
six_or_not p s d a = go (fits_of s (length p)) (ltb d s.domains)
    (walk (form_of s) (words p) a 2 (entry (form_of s) d a))
  where
    go : (f t : Bool) (e : End)
        → let r = cond f (cond t (found_at (form_of s) (words p) a e) (Err NoDomain)) (Err NoShape) in
        (r ≡ Err NotSound) ⊎ (r ≢ Err NotSound)
    go true true bad = inl refl
    go true true (decides h k) = inr (λ z. cc)
    go true false e = inr (λ z. cc)
    go false t e = inr (λ z. cc)

-- Demand 2. Where no change is left without its flush, a check says what it says with an emptied buffer, by a walk;
-- refusals are the same too. Of every pool, sound or not.
pub same_verdict : {s : Shape} {p : List ℕ} {b : Buffer} {x : Places} → Watched s p b x → (d kind size a : ℕ)
    → a < addresses → x d a ≡ false
    → without_loads (check_of p s b d kind size a).verdict
    ≡ without_loads (check_of p s empty_buffer d kind size a).verdict
same_verdict {s} {p} {b} {x} w d kind size a h z =
    let o = watched_sees w in
    let same = refusal_pointer s (length p) d kind size a b.next empty_buffer.next o.pointer first_pointer in
    ⊎_elim
    (λ six.
    let here = check_six p s b o.clear d kind size a h six in
    let there = check_six p s empty_buffer (emptied_clear p s) d kind size a h six in
    ap without_loads (here ∙ ap (λ r. Err (or_six r)) same ∙ sym there))
    (λ n. check_as_emptied p s x d kind size a z h n b o.agrees o.pointer)
    (six_or_not p s d a)

-- `Watched` leaves out no call of a series: beside every series there may be a buffer, emptied as the pool was made.
pub series_watched : {s : Shape} {p list : List ℕ} {h : History} → Series s p list h
    → Watched s p empty_buffer (unflushed h)
series_watched (fresh {p} {q} m list) = emptied q
series_watched (call {h = h} x y) = called h (series_watched x) y
  where
    called : {s : Shape} {p list q m : List ℕ} (h : History) {e : Deed} → Watched s p empty_buffer (unflushed h)
        → Call s p list e q m → Watched s q empty_buffer (unflushed (after h e))
    called h w (change y) = changed w y
    called h w (change_by y) = changed_by w y
    called h w (tidy y) = tidied w y
    called h w (make D caller owner start len) = w
    called h w (pass D caller owner start len) = w
    called h w (give D caller receiver right start len) = w

-- In a pool of any series it passes exactly where the table's right lets it, in at most three loads.
pub series_verdict : {s : Shape} {p list : List ℕ} {b : Buffer} {x : Places} {h : History} → Series s p list h
    → Watched s p b x
    → (d kind size a : ℕ) → d < s.domains → a < addresses → x d a ≡ false
    → refusal_of s (length p) b.next d kind size a ≡ Ok tt
    → (n : ℕ) × (n ≤ 3)
    × ((check_of p s b d kind size a).verdict ≡ Ok (verdict_of kind (right_of (form_of s) (words p) d a) n))
series_verdict {s} {p} {b} {x} y w d kind size a hd ha z e =
    let o = series_holds y in
    let (_, found, _) = sound_lookup p s d a o.sound o.fits hd in
    check_right p s x d kind size a z ha (λ six. not_six (sym found ∙ six)) b (watched_sees w).agrees e
