-- A change by a caller: it is as the supervisor's own, or it is refused and leaves the pool; one that is not refused
-- was allowed on every word that it covers; and each input has one outcome.
use Prim.Native.Nat.{ℕ}
use mathlib.Core.Path.{◌≡◌, refl, ap}
use mathlib.Core.Logic.{◌≢◌, ◌⊎◌, inl, inr, ⊎_elim}
use mathlib.Core.List.{List}
use lib.ListN.{length}
use Rattle.words.specs.Region.{region_of}
use Rattle.words.specs.declared.Region.{Region}
use Rattle.std.proofs.Common.{Result, Ok, Err}
use Rattle.refusals.specs.declared.Refusal.{Refusal}
use Rattle.refusals.specs.declared.Refusal.TheVariants.{NotAllowed}
use Rattle.table.specs.declared.Shape.{Shape}
use Rattle.table.specs.Shape.{fits_of}
use Rattle.table.proofs.ShapeLaws.{test_fits}
use Rattle.change.specs.declared.Ending.{Ending}
use Rattle.change.specs.Answers.{Asked, Changes}
use Rattle.change.proofs.ChangesLaws.{one_change, change_refused_kept}
use Rattle.change.proofs.TidiesLaws.{Agree}
use Rattle.owners.specs.Rules.{Allowed}
use Rattle.owners.specs.Changes.{asked_by, ChangesBy, not_asked, not_allowed, allowed}
use Rattle.owners.proofs.CallLaws.{asked_in_order}

-- The request of a change by a caller that comes to its region is in order up to 5, as the supervisor's own is ..
module _ (p : List ℕ) (s : Shape) (list : List ℕ) (caller d start len r : ℕ) {g : Region}
    (e : asked_by p s list caller d start len r ≡ Ok g) where
  pub by_asked : Asked p s d start len r g
  by_asked =
      let o = asked_in_order (fits_of s (length p)) list s.domains caller d r start len g e in
      record {
        fits = test_fits s (length p) o.fitting;
        domain = o.other_known;
        right = o.low;
        region = o.region;
      }

  -- .. and its region is that of its start and length.
  pub asked_region : region_of start len ≡ Ok g
  asked_region = by_asked.region

-- What comes of a change by a caller: it is allowed, and is as the supervisor's own; or it is refused, and the pool is
-- as it came.
pub by_either : {p list q : List ℕ} {s : Shape} {caller d start len r n : ℕ} {c : Result Ending Refusal}
    → ChangesBy p s list caller d start len r n c q
    → ((g : Region) × (asked_by p s list caller d start len r ≡ Ok g) × Allowed list caller d r g
    × Changes p s d start len r n c q) ⊎ ((k : Refusal) × (c ≡ Err k) × (q ≡ p))
by_either (not_asked k e) = inr (k, refl, refl)
by_either (not_allowed g e f) = inr (NotAllowed, refl, refl)
by_either (allowed g e f x) = inl (g, e, f, x)

-- The same in short.
pub by_changes : {p list q : List ℕ} {s : Shape} {caller d start len r n : ℕ} {c : Result Ending Refusal}
    → ChangesBy p s list caller d start len r n c q
    → Changes p s d start len r n c q ⊎ ((k : Refusal) × (c ≡ Err k) × (q ≡ p))
by_changes x = ⊎_elim (λ (_, _, _, y). inl y) inr (by_either x)

-- One that was done or cut was allowed: every word that it covers allows it.
pub by_allowed : {p list q : List ℕ} {s : Shape} {caller d start len r n : ℕ} {c : Result Ending Refusal}
    → ChangesBy p s list caller d start len r n c q → ((k : Refusal) → c ≢ Err k)
    → (g : Region) × (region_of start len ≡ Ok g) × Allowed list caller d r g
by_allowed (not_asked k e) f = absurd (f k refl)
by_allowed (not_allowed g e n) f = absurd (f NotAllowed refl)
by_allowed {p} {list} {s = s} {caller} {d} {start} {len} {r} (allowed g e o x) f =
    (g, asked_region p s list caller d start len r e, o)

-- Every refusal of a change by a caller leaves the pool as it came.
pub by_refused_kept : {p list q : List ℕ} {s : Shape} {caller d start len r n : ℕ} {k : Refusal}
    → ChangesBy p s list caller d start len r n (Err k) q → q ≡ p
by_refused_kept x = go x refl
  where
    go : {p list q : List ℕ} {s : Shape} {caller d start len r n : ℕ} {k : Refusal} {c : Result Ending Refusal}
        → ChangesBy p s list caller d start len r n c q → c ≡ Err k → q ≡ p
    go (not_asked k e) z = refl
    go (not_allowed g e f) z = refl
    go (allowed g e f y) z = change_refused_kept y z

-- A request comes to one region, or to one refusal.
one_asked : {a : Result Region Refusal} {g h : Region} → a ≡ Ok g → a ≡ Ok h → g ≡ h
one_asked e f = cc

one_unasked : {a : Result Region Refusal} {k m : Refusal} → a ≡ Err k → a ≡ Err m → k ≡ m
one_unasked e f = cc

not_both : {a : Result Region Refusal} {g : Region} {k : Refusal} → a ≡ Ok g → a ≡ Err k → ⊥
not_both e f = cc

-- One that is in order and allowed is as the supervisor's own.
pub allowed_changes : {p list q : List ℕ} {s : Shape} {caller d start len r n : ℕ} {g : Region} {c : Result Ending Refusal}
    → asked_by p s list caller d start len r ≡ Ok g → Allowed list caller d r g
    → ChangesBy p s list caller d start len r n c q → Changes p s d start len r n c q
allowed_changes e o (not_asked k f) = absurd (not_both e f)
allowed_changes e o (not_allowed g f n) = absurd (n (rw (one_asked e f) at o))
allowed_changes e o (allowed g f u x) = x

-- One outcome for each input.
pub one_change_by : {p list : List ℕ} {s : Shape} {caller d start len r n : ℕ} {a b : Result Ending Refusal} {x y : List ℕ}
    → ChangesBy p s list caller d start len r n a x → ChangesBy p s list caller d start len r n b y → Agree a x b y
one_change_by (not_asked k e) (not_asked m f) = (ap Err (one_unasked e f), refl)
one_change_by (not_asked k e) (not_allowed g f n) = absurd (not_both f e)
one_change_by (not_asked k e) (allowed g f o x) = absurd (not_both f e)
one_change_by (not_allowed g e n) (not_asked m f) = absurd (not_both e f)
one_change_by (not_allowed g e n) (not_allowed h f m) = (refl, refl)
one_change_by (not_allowed g e n) (allowed h f o x) = absurd (n (rw (one_asked f e) at o))
one_change_by (allowed g e o x) (not_asked m f) = absurd (not_both e f)
one_change_by (allowed g e o x) (not_allowed h f n) = absurd (n (rw (one_asked e f) at o))
one_change_by (allowed g e o x) (allowed h f u y) = one_change x y
