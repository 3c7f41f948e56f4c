-- The allowance never steers: each request has one list of stores, and whatever the allowance is, the first of them
-- are made.
use Prim.Native.Nat.{ℕ, ◌-◌, ◌≤◌, ◌<◌}
use mathlib.Core.Path.{◌≡◌, refl, sym, ap, ◌∙◌, fun_ext}
use mathlib.Core.Bool.{Bool}
use mathlib.Core.List.{List, []}
use native.Mathlib.Omega.{arith}
use native.Mathlib.Decide.{dec_lt}
use lib.ListN.{length, take}
use lib.Seq.{take_all}
use Rattle.std.specs.Prelude.{Result, Ok}
use Rattle.refusals.specs.declared.Refusal.{Refusal}
use Rattle.theory.specs.Pool.{words, SoundPool}
use Rattle.theory.specs.Settled.{Settled}
use Rattle.theory.proofs.FinishedLaws.{one_finished}
use Rattle.words.specs.declared.Region.{Region}
use Rattle.table.specs.declared.Shape.{Shape}
use Rattle.table.specs.Shape.{Fits}
use Rattle.table.specs.Map.{form_of}
use Rattle.table.proofs.FormLaws.{lawful, exact}
use Rattle.table.proofs.WantLaws.{wanting}
use Rattle.places.specs.Count.{Room}
use Rattle.places.proofs.Exists.{finished_fits}
use Rattle.plan.specs.Aims.{Aim, change_aim, no_aim, aimed_at, Goal}
use Rattle.change.specs.declared.Ending.{Ending}
use Rattle.change.specs.declared.Ending.TheVariants.{Done, Cut}
use Rattle.change.specs.Cuts.{differing, CutAt}
use Rattle.change.specs.Runs.{At}
use Rattle.change.specs.Answers.{IsDone, IsCut, Asked, ChangesRegion, Changes, Tidies}
use Rattle.change.specs.Answers.{no_shape, no_domain, no_right, no_region, in_order, unsound, unsettled}
use Rattle.change.specs.Answers.{no_room, done, cut}
use Rattle.change.specs.StoreList.{OneStore, stores_of, stored, StoresAre, Makes}
use Rattle.change.proofs.StateLaws.{at_begin, at_end}
use Rattle.change.proofs.State.{at_long}
use Rattle.change.proofs.OutcomeLaws.{outcome_done}
use Rattle.change.proofs.EndLaws.{region_ends, tidy_ends, change_ends}
use Rattle.change.proofs.ChangesLaws.{same_region, not_both}
use Rattle.change.proofs.DoneLaws.{one_done, done_not_cut}
use Rattle.change.proofs.ReachedLaws.{one_cut, one_test}
use Rattle.change.proofs.GoalLaws.{SetsRights, change_sets, fits_goal, tidy_goal}
use Rattle.change.proofs.StoreListLaws.{cut_from, all_from}

-- The stores of a change are one list.
pub one_list : {s : Shape} {A : Aim} {old : List ℕ} {l m : List OneStore} → StoresAre s A old l
    → StoresAre s A old m → l ≡ m
one_list {s} {A} {old} a b =
    let e : a.finished_pool ≡ b.finished_pool = fun_ext
    (one_finished (form_of s) (lawful _) (wanting _) (words old)
    (aimed_at s A (words old)) (exact _) a.goal.finished b.goal.finished) in
    let g : Goal s A old b.finished_pool a.kept = rw e at a.goal in
    let k : a.kept ≡ b.kept = fun_ext (one_test (form_of s) g.tells b.goal.tells) in
    let z : stores_of s old a.finished_pool a.kept ≡ stores_of s old b.finished_pool b.kept = rw (e, k) in
    a.list ∙ z ∙ sym b.list

module _ (s : Shape) (A : Aim) (old : List ℕ) (Q : ℕ → ℕ) (kept : ℕ → Bool)
    (g : Goal s A old Q kept) where
  abbrev list : List OneStore
  list = stores_of s old Q kept

  -- With an allowance below their number the first of them are made, and more are wanted.
  list_cut : (n : ℕ) → n < length list → IsCut s A old n (stored old (take n list))
  list_cut n h = cut_from s A old Q kept n 3 1 old n (at_begin n g) h

  -- Else all of them are, and the run has come to its end.
  list_end : (n : ℕ) → length list ≤ n → At s A old Q kept n 4 0 (stored old list) (n - length list)
  list_end n h = all_from s A old Q kept n 3 1 4 refl old n (n - length list) (omega arith) (at_begin n g)

  list_made : (n : ℕ) → length list ≤ n → differing old (stored old list) ≡ length list
  list_made n h = let a = list_end n h in let z = a.sum in let y = a.cut.count in omega arith

  list_done : (n : ℕ) → length list ≤ n → IsDone s A old n (stored old list)
  list_done n h =
      let a = list_end n h in
      let z = list_made n h in
      outcome_done s A old Q kept (stored old list) n (n - length list) g (at_long a) (at_end (omega arith) a)
      (omega arith)

  -- The first `n` stores leave what is said of a cut after `n`.
  prefix_goal : (n : ℕ) → n ≤ length list → CutAt s A old n (stored old (take n list))
  prefix_goal n h = elim (dec_lt n (length list)) [
    | yes i ↦ (list_cut n i).cut
    | no i ↦
        (let a = list_end n (omega arith) in
        let z = a.sum in
        let e : a.done ≡ n = omega arith in
        rw (take_all n list (omega arith)) (rw e at a.cut))
  ]

  -- Whatever comes of the allowance, the first stores of the list were made.
  makes_done : {n : ℕ} {q : List ℕ} → IsDone s A old n q → Makes old list n (Ok (Done (differing old q))) q
  makes_done {n} {q} f = elim (dec_lt n (length list)) [
    | yes i ↦ absurd (done_not_cut f (list_cut n i))
    | no i ↦ (let e = one_done f (list_done n (omega arith)) in
        (omega arith, ap (differing old) e ∙ list_made n (omega arith), e))
  ]

  makes_cut : {n : ℕ} {x : List ℕ} → IsCut s A old n x → Makes old list n (Ok Cut) x
  makes_cut {n} f = elim (dec_lt n (length list)) [
    | yes i ↦ (i, one_cut f (list_cut n i))
    | no i ↦ absurd (done_not_cut (list_done n (omega arith)) f)
  ]

module _ {s : Shape} {A : Aim} {p : List ℕ} {l : List OneStore} (a : StoresAre s A p l) where
  -- Each prefix of the list leaves what the paper says of a cut.
  pub prefix_cut : (n : ℕ) → n ≤ length l → CutAt s A p n (stored p (take n l))
  prefix_cut = rw a.list (prefix_goal s A p a.finished_pool a.kept a.goal)

  -- Done or cut, its first stores were made.
  pub done_makes : {n : ℕ} {q : List ℕ} → IsDone s A p n q → Makes p l n (Ok (Done (differing p q))) q
  done_makes = rw a.list (makes_done s A p a.finished_pool a.kept a.goal)

  pub cut_makes : {n : ℕ} {x : List ℕ} → IsCut s A p n x → Makes p l n (Ok Cut) x
  cut_makes = rw a.list (makes_cut s A p a.finished_pool a.kept a.goal)

-- The stores of a change that has room.
room_stores : (s : Shape) (A : Aim) (p : List ℕ) → SetsRights s A p → Fits s (length p)
    → SoundPool (form_of s) (words p)
    → Room s (aimed_at s A (words p)) → (l : List OneStore)
    × StoresAre s A p l
room_stores s A p r f sP room =
    let (Q, kept, g) = fits_goal s A p r f sP room in
    (stores_of s p Q kept, record { finished_pool = Q; kept = kept; goal = g; list = refl })

-- From refusal 6 on, the list of stores is empty where the request is refused ..
module _ {p : List ℕ} {s : Shape} {A : Aim} {n : ℕ} where
  unsound_makes : {a : Result Ending Refusal} {q : List ℕ} → (SoundPool (form_of s) (words p) → ⊥) → ChangesRegion p s A n a q
      → Makes p [] n a q
  unsound_makes u (unsound g) = (refl, refl)
  unsound_makes u (unsettled g h) = absurd (u g)
  unsound_makes u (no_room g h) = absurd (u g.sound)
  unsound_makes u (done g q h) = absurd (u g.sound)
  unsound_makes u (cut g q h) = absurd (u g.sound)

  unsettled_makes : {a : Result Ending Refusal} {q : List ℕ} → (Settled (form_of s) (words p) → ⊥) → ChangesRegion p s A n a q
      → Makes p [] n a q
  unsettled_makes u (unsound g) = (refl, refl)
  unsettled_makes u (unsettled g h) = (refl, refl)
  unsettled_makes u (no_room g h) = absurd (u g)
  unsettled_makes u (done g q h) = absurd (u g)
  unsettled_makes u (cut g q h) = absurd (u g)

  full_makes : {a : Result Ending Refusal} {q : List ℕ} → (Room s (aimed_at s A (words p)) → ⊥)
      → ChangesRegion p s A n a q
      → Makes p [] n a q
  full_makes u (unsound g) = (refl, refl)
  full_makes u (unsettled g h) = (refl, refl)
  full_makes u (no_room g h) = (refl, refl)
  full_makes u (done g q h) = absurd (u (finished_fits s h.finished))
  full_makes u (cut g q h) = absurd (u (finished_fits s h.cut.finished))

  -- .. and else that of its change.
  room_makes : {l : List OneStore} {a : Result Ending Refusal} {q : List ℕ} → Settled (form_of s) (words p) → StoresAre s A p l
      → ChangesRegion p s A n a q
      → Makes p l n a q
  room_makes t x (unsound g) = absurd (g t.sound)
  room_makes t x (unsettled g h) = absurd (h t)
  room_makes t x (no_room g h) = absurd (h (finished_fits s x.goal.finished))
  room_makes t x (done g q h) = done_makes x h
  room_makes t x (cut g q h) = cut_makes x h

-- From refusal 6 on a request has one list of stores for every allowance.
abbrev RegionMakes : List ℕ → Shape → Aim → List OneStore → Type 0
RegionMakes p s A l = (n : ℕ) (a : Result Ending Refusal) (q : List ℕ) → ChangesRegion p s A n a q → Makes p l n a q

region_stores : (p : List ℕ) (s : Shape) (A : Aim) → Fits s (length p) → SetsRights s A p
    → (l : List OneStore) × RegionMakes p s A l
region_stores p s A f r = let (a, q, c) = region_ends p s A 0 f r in go c
  where
    with_room : Settled (form_of s) (words p) → Room s (aimed_at s A (words p))
        → (l : List OneStore) × RegionMakes p s A l
    with_room t room = let (l, x) = room_stores s A p r f t.sound room in (l, λ n a q c. room_makes t x c)

    go : {a : Result Ending Refusal} {q : List ℕ} → ChangesRegion p s A 0 a q → (l : List OneStore) × RegionMakes p s A l
    go (unsound u) = ([], λ n a q c. unsound_makes u c)
    go (unsettled g u) = ([], λ n a q c. unsettled_makes u c)
    go (no_room g u) = ([], λ n a q c. full_makes u c)
    go (done t q h) = with_room t (finished_fits s h.finished)
    go (cut t q h) = with_room t (finished_fits s h.cut.finished)

module _ {p : List ℕ} {s : Shape} {d start len r n : ℕ} where
  -- A request that is not in order up to refusal 5 makes no store ..
  early_makes : {a : Result Ending Refusal} {q : List ℕ} → ((g : Region) → Asked p s d start len r g → ⊥)
      → Changes p s d start len r n a q → Makes p [] n a q
  early_makes u (no_shape f) = (refl, refl)
  early_makes u (no_domain f h) = (refl, refl)
  early_makes u (no_right f h t) = (refl, refl)
  early_makes u (no_region f h t k e) = (refl, refl)
  early_makes u (in_order g x v) = absurd (u g x)

  -- .. and one that is makes those of its region.
  asked_makes : (l : List OneStore) (g : Region) → Asked p s d start len r g → RegionMakes p s (change_aim d g r) l
      → {a : Result Ending Refusal} {q : List ℕ} → Changes p s d start len r n a q → Makes p l n a q
  asked_makes l g x m (no_shape f) = absurd (f x.fits)
  asked_makes l g x m (no_domain f h) = let k = x.domain in absurd (omega arith)
  asked_makes l g x m (no_right f h t) = let k = x.right in absurd (omega arith)
  asked_makes l g x m (no_region f h t k e) = absurd (not_both start len x.region e)
  asked_makes l g x m (in_order k y v) = let e = same_region start len y.region x.region in m n _ _ (rw e at v)

-- The allowance never steers: a change has one list of stores, and with any allowance the first of them are made.
abbrev ChangeMakes : List ℕ → Shape → (d start len r : ℕ) → List OneStore → Type 0
ChangeMakes p s d start len r l = (n : ℕ) (a : Result Ending Refusal) (q : List ℕ) → Changes p s d start len r n a q → Makes p l n a q

pub change_stores : (p : List ℕ) (s : Shape) (d start len r : ℕ) → (l : List OneStore) × ChangeMakes p s d start len r l
change_stores p s d start len r = let (a, q, c) = change_ends p s d start len r 0 in go c
  where
    none : ((g : Region) → Asked p s d start len r g → ⊥) → (l : List OneStore) × ChangeMakes p s d start len r l
    none u = ([], λ n a q c. early_makes u c)

    go : {a : Result Ending Refusal} {q : List ℕ} → Changes p s d start len r 0 a q → (l : List OneStore)
        × ChangeMakes p s d start len r l
    go (no_shape f) = none (λ g x. f x.fits)
    go (no_domain f h) = none (λ g x. let k = x.domain in omega arith)
    go (no_right f h t) = none (λ g x. let k = x.right in omega arith)
    go (no_region f h t k e) = none (λ g x. not_both start len x.region e)
    go (in_order g x v) =
        let (l, m) = region_stores p s (change_aim d g r) x.fits
        (change_sets s d g r p (let k = x.right in omega arith)) in
        (l, λ n a q c. asked_makes l g x m c)

-- The same of a tidying.
abbrev TidyMakes : List ℕ → Shape → List OneStore → Type 0
TidyMakes p s l = (n : ℕ) (a : Result Ending Refusal) (q : List ℕ) → Tidies p s n a q → Makes p l n a q

module _ {p : List ℕ} {s : Shape} {n : ℕ} where
  refused_tidies : {a : Result Ending Refusal} {q : List ℕ} → (Fits s (length p) → SoundPool (form_of s) (words p) → ⊥)
      → Tidies p s n a q → Makes p [] n a q
  refused_tidies u (no_shape f) = (refl, refl)
  refused_tidies u (unsound f g) = (refl, refl)
  refused_tidies u (done f g q h) = absurd (u f g)
  refused_tidies u (cut f g q h) = absurd (u f g)

  tidies_makes : {l : List OneStore} {a : Result Ending Refusal} {q : List ℕ} → Fits s (length p) → SoundPool (form_of s) (words p)
      → StoresAre s no_aim p l → Tidies p s n a q
      → Makes p l n a q
  tidies_makes f t x (no_shape g) = absurd (g f)
  tidies_makes f t x (unsound g h) = absurd (h t)
  tidies_makes f t x (done g h q k) = done_makes x k
  tidies_makes f t x (cut g h q k) = cut_makes x k

pub tidy_stores : (p : List ℕ) (s : Shape) → (l : List OneStore) × TidyMakes p s l
tidy_stores p s = let (a, q, c) = tidy_ends p s 0 in go c
  where
    sound_stores : Fits s (length p) → SoundPool (form_of s) (words p) → (l : List OneStore) × TidyMakes p s l
    sound_stores f t =
        let (Q, kept, g) = tidy_goal s p f t in
        let x : StoresAre s no_aim p (stores_of s p Q kept) =
        record { finished_pool = Q; kept = kept; goal = g; list = refl } in
        (stores_of s p Q kept, λ n a q c. tidies_makes f t x c)

    go : {a : Result Ending Refusal} {q : List ℕ} → Tidies p s 0 a q → (l : List OneStore) × TidyMakes p s l
    go (no_shape f) = ([], λ n a q c. refused_tidies (λ g t. f g) c)
    go (unsound f u) = ([], λ n a q c. refused_tidies (λ g t. u t) c)
    go (done f t q h) = sound_stores f t
    go (cut f t q h) = sound_stores f t
