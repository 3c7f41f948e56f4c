-- Laws of the places of kept tables: their owners tell them, and so giving out can start.
use Prim.Native.Nat.{ℕ, ◌+◌, ◌*◌, ◌<◌}
use mathlib.Core.Path.{◌≡◌, sym, ap, ◌∙◌}
use mathlib.Core.Bool.{Bool, true, cond, not}
use mathlib.Core.List.{List}
use native.Mathlib.Omega.{arith}
use lib.Dec.{eqb, ltb}
use lib.ListN.{length, get_or}
use borrow.Author.Tests.{lt-ltb, le-ltb}
use Rattle.theory.specs.Pool.{words}
use Rattle.theory.specs.Settled.{Settled}
use Rattle.theory.proofs.Logic.{by_cases, and_both}
use Rattle.table.specs.declared.Shape.{Shape}
use Rattle.table.specs.Shape.{Fits, places}
use Rattle.table.specs.Map.{form_of}
use Rattle.places.specs.Owners.{Handing, vacant}
use Rattle.places.proofs.KeepLaws.{keep_done}
use Rattle.places.proofs.OldLaws.{old_below, old_one}
use Rattle.places.specs.Count.{blocks, want}
use Rattle.places.specs.Final.{old, was}
use Rattle.census.specs.Places.{first_number}
use Rattle.census.specs.Tally.{none}
use Rattle.census.specs.Census.{Owners}
use Rattle.census.proofs.OwnerLaws.{was_owner, was_taken, owner_stands}
use Rattle.targets.specs.declared.Paint.{Paint}
use Rattle.plan.specs.declared.Ends.{Ends}
use Rattle.plan.specs.Aims.{aim_of, aimed_at}
use Rattle.plan.specs.Edges.{kept_at}
use Rattle.plan.proofs.Giving.{EndsTold, KeptTold}
use Rattle.plan.proofs.FreshLaws.{stays_is}

module _ (s : Shape) (d : ℕ) (paint : Paint) {P : ℕ → ℕ} (q : Settled (form_of s) P) (h : ℕ) (hi : h < 2) where
  abbrev n : ℕ
  n = blocks h * s.domains

  abbrev m : ℕ
  m = places s h

  abbrev T : ℕ → ℕ → ℕ
  T = aimed_at s (aim_of d paint) P

  abbrev at : ℕ → ℕ
  at = was s P h

  -- Once the kept places are told, giving out can start: free are those that are not.
  pub kept_free : {f : ℕ → Bool} → KeptTold s d paint P h f
      → (free : ℕ → Bool) × (owner : ℕ → ℕ) × Handing n m (want T h) (old P h) free at 0 0 owner
      × ((p : ℕ) → p < m → free p ≡ not (f p))
  kept_free k = (
    vacant n k.owner,
    k.owner,
    keep_done n m (want T h) (old P h) at (old_one s q.sound h hi)
        (old_below s q.sound h hi) k.keeping,
    λ p b. ap not (sym (k.tells p b)),
  )

-- The owners of all places tell those of the kept tables, of every domain.
module _ (p : List ℕ) (s : Shape) (d : ℕ) (paint : Paint) (fits : Fits s (length p))
    (q : Settled (form_of s) (words p)) (o : List ℕ) (own : Owners p s o)
    (h : ℕ) (hi : h < 2) {ends : Ends} (told : EndsTold s d paint (words p) h ends) where
  abbrev P : ℕ → ℕ
  P = words p

  abbrev stood : ℕ → ℕ
  stood c = get_or o (first_number h + c) 0

  abbrev f : ℕ → Bool
  f = kept_at o h d ends

  -- The owner of a place whose table is kept, and else no block.
  abbrev stays : ℕ → ℕ
  stays c = cond (f c) (stood c) (n s d paint q h hi)

  -- A kept place is that of a block which has its table there, and wants it.
  told_kept : (c : ℕ) → c < m s d paint q h hi → f c ≡ true
      → (stood c < n s d paint q h hi) × (want (aimed_at s (aim_of d paint) P) h (stood c) ≡ true)
      × (old P h (stood c) ≡ true)
      × (c ≡ at s d paint q h hi (stood c))
  told_kept c b e =
      let (t, w) = and_both (not (eqb (stood c) none)) _ e in
      let (x, y, z) = owner_stands p s fits q.sound o own h hi c b t in
      (x, sym (stays_is s d paint q h (stood c) hi x told y) ∙ w, y, z)

  -- The place of a block that has a table and wants it is kept.
  kept_told : (i : ℕ) → i < n s d paint q h hi → want (aimed_at s (aim_of d paint) P) h i ≡ true → old P h i ≡ true
      → (f (at s d paint q h hi i) ≡ true) × (stood (at s d paint q h hi i) ≡ i)
  kept_told i b w x =
      let c = at s d paint q h hi i in
      let (_, _, t) = was_taken p s fits q.sound o own h hi i b x in
      let e = was_owner p s fits q.sound o own h hi i b x in
      (rw t (rw e (stays_is s d paint q h i hi b told x ∙ w)), e)

  stays_told : (c : ℕ) → c < m s d paint q h hi → f c ≡ ltb (stays c) (n s d paint q h hi)
  stays_told c b = by_cases (f c)
      (λ e. rw e (sym (lt-ltb (stood c) (n s d paint q h hi) (told_kept c b e).0)))
      (λ e. rw e (sym (le-ltb (n s d paint q h hi) (n s d paint q h hi) (omega arith))))

  pub kept_all : KeptTold s d paint P h f
  kept_all = record {
    owner = stays;
    keeping = record {
      only = λ c b l. by_cases (f c) (λ e. rw e (told_kept c b e))
          (λ e. absurd (let z = rw e at l in omega arith));
      have = λ i b _ w x. let (e, g) = kept_told i b w x in rw e g;
    };
    tells = stays_told;
  }
