-- A change or a tidying that is running: where it stands, which store it makes next, and how it ends. For the inner
-- functions.
use Rattle.std.specs.Prelude.{ℕ, ◌+◌, ◌*◌, ◌≤◌, ◌<◌, ◌≡◌, ◌≢◌, Bool, List, Option, Some, None, length, get_or}
use Rattle.theory.specs.Pool.{words, SoundPool}
use Rattle.theory.specs.Phase.{phase, midway}
use Rattle.table.specs.declared.Shape.{Shape}
use Rattle.table.specs.Shape.{Fits, first_middle}
use Rattle.table.specs.Map.{form_of}
use Rattle.plan.specs.Plan.{Plan, PlanFits}
use Rattle.plan.specs.Aims.{Aim, no_aim, Goal}
use Rattle.plan.specs.Goals.{Planned}
use Rattle.change.specs.declared.Ending.{Ending}
use Rattle.change.specs.declared.Ending.TheVariants.{Done, Cut}
use Rattle.change.specs.declared.Cursor.{Cursor}
use Rattle.change.specs.declared.Store.{Store}
use Rattle.change.specs.Cuts.{differing, CutAt}
use Rattle.change.specs.Answers.{IsDone, IsCut}

-- What is made: a change, by its plan; or a tidying, which is the change of the empty region.
pub data Work : Type 0 where
  Change : Plan → Work
  Tidying : Work

-- The phase of a word: of the kept ones that lead first, then of those in no kept table, then of the others.
abbrev pub phases : Shape → List ℕ → (ℕ → Bool) → ℕ → ℕ
phases s old kept = phase (form_of s) (words old) kept

-- In the change of `old` with the allowance `n`, the phases before `c`, and of phase `c` the words below `k`, are
-- done; `left` stores are left.
pub record At (s : Shape) (A : Aim) (old : List ℕ) (Q : ℕ → ℕ) (kept : ℕ → Bool) (n c k : ℕ)
    (x : List ℕ) (left : ℕ) : Type 0 where
  pub goal : Goal s A old Q kept
  pub pool : (j : ℕ) → words x j ≡ midway (words old) Q (phases s old kept) c k j
  pub done : ℕ
  pub sum : left + done ≡ n
  pub cut : CutAt s A old done x

-- The work is that of the aim and the goal: a change by its plan, and a tidying aims at nothing.
abbrev pub Meant : Shape → Aim → Work → List ℕ → (ℕ → ℕ) → (ℕ → Bool) → Type 0
Meant s A (Change q) old goal kept = Planned s A q old goal kept
Meant s A Tidying old goal kept = A ≡ no_aim

-- A run of the work `w`.
pub record Run (s : Shape) (w : Work) : Type 0 where
  pub aim : Aim
  pub old : List ℕ
  pub goal : ℕ → ℕ
  pub kept : ℕ → Bool
  pub allowance : ℕ
  pub left : ℕ
  pub meant : Meant s aim w old goal kept

-- It stands at word `k` of phase `c`, in the pool `x`.
abbrev pub Stands : (s : Shape) (w : Work) → Run s w → ℕ → ℕ → List ℕ → Type 0
Stands s w r c k x = At s r.aim r.old r.goal r.kept r.allowance c k x r.left

-- A cursor that the work can go on from, in a pool of `n` words: the plan is in its ranges and the row within the
-- pool; a tidying has one phase.
abbrev pub Follows : Work → Cursor → ℕ → Type 0
Follows (Change q) c n = PlanFits q × (c.word.0 ≤ c.past.0) × (c.past.0 ≤ n)
Follows Tidying c n = c.phase ≡ 1

-- What the next store of a work is looked for in.
pub record Looks (s : Shape) (w : Work) (from : Cursor) (x : List ℕ) : Type 0 where
  pub fits : Fits s (length x)
  pub sound : SoundPool (form_of s) (words x)
  pub follows : Follows w from (length x)

-- No root word but `owner` leads to the middle place at `t`.
abbrev pub OnlyFrom : Shape → List ℕ → ℕ → ℕ → Type 0
OnlyFrom s x owner t = (j : ℕ) → j < first_middle s → words x j ≡ t → owner ≡ j

-- No root word but its owner leads to a middle place.
pub record MiddleOwners (s : Shape) (o x : List ℕ) : Type 0 where
  pub only : (p : ℕ) → p < s.middles → OnlyFrom s x (get_or o p 0) (first_middle s + 1024 * p)

-- What a work is told of the owners of places: a tidying those of the middle places; a change has its plan.
abbrev pub Told : Shape → Work → List ℕ → List ℕ → Type 0
Told s (Change q) o x = Unit {0}
Told s Tidying o x = MiddleOwners s o x

-- The run stands at word `k` in the word's phase, and has `v` to store there.
pub record Stores (s : Shape) (w : Work) (r : Run s w) (x : List ℕ) (c k v : ℕ) : Type 0 where
  pub at : Stands s w r c k x
  pub phase : phases s r.old r.kept k ≡ c
  pub value : v ≡ r.goal k
  pub differs : words x k ≢ v

-- Every run of the work that stands at word `i` of phase `c` makes, next, the store of `v` at word `k`, and goes on
-- from the cursor `on`.
pub record Wanted (s : Shape) (w : Work) (x : List ℕ) (c i k v : ℕ) (on : Cursor) : Type 0 where
  pub inside : k < length x
  pub word : on.word.0 ≡ k + 1
  pub follows : Follows w on (length x)
  pub stores : (r : Run s w) → Stands s w r c i x → Stores s w r x on.phase k v

-- The next store of the work from word `i` of phase `c` on; or there is none, and every run that stands there has
-- finished.
abbrev pub NextIs : Shape → Work → List ℕ → ℕ → ℕ → Option Store → Type 0
NextIs s w x c i (Some t) = Wanted s w x c i t.at.0 t.value t.on
NextIs s w x c i None = (r : Run s w) → Stands s w r c i x → (j : ℕ) → words x j ≡ r.goal j

-- The next store of the work from word `i` of phase `c` on; or there is none before word `to`, and every run that
-- stands there comes to it.
abbrev pub NextIn : Shape → Work → List ℕ → ℕ → ℕ → ℕ → Option Store → Type 0
NextIn s w x c i to (Some t) = Wanted s w x c i t.at.0 t.value t.on
NextIn s w x c i to None = (r : Run s w) → Stands s w r c i x → Stands s w r c to x

-- Where every run begins.
abbrev pub start : Cursor
start = record { phase = 1; word = record { 0 = 0 }; past = record { 0 = 0 } }

-- The work is ready to be made on the pool `x`.
pub record Ready (s : Shape) (A : Aim) (w : Work) (x : List ℕ) : Type 0 where
  pub fits : Fits s (length x)
  pub goal : ℕ → ℕ
  pub kept : ℕ → Bool
  pub due : Goal s A x goal kept
  pub meant : Meant s A w x goal kept
  pub follows : Follows w start (length x)

-- A change or a tidying of `p` with the allowance `n` is done, with the count, or cut.
pub data Ends (p : List ℕ) (s : Shape) (A : Aim) (n : ℕ) : Ending → List ℕ → Type 0 where
  all_made : (q : List ℕ) → IsDone s A p n q → Ends p s A n (Done (differing p q)) q
  cut_short : (x : List ℕ) → IsCut s A p n x → Ends p s A n Cut x
