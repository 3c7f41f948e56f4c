-- What is said of a change or a tidying that was cut, by its aim, and what makes a store due.
use Rattle.std.specs.Prelude.{ℕ, suc, ◌<◌, ◌≡◌, ◌≢◌, ◌⊎◌, true, false, cond, List, [], ◌∷◌, length, eqb}
use Rattle.theory.specs.Pool.{words, SoundPool, right_of}
use Rattle.theory.specs.Finished.{Finished}
use Rattle.theory.specs.Stores.{Next}
use Rattle.table.specs.declared.Shape.{Shape}
use Rattle.table.specs.Map.{addresses, form_of}
use Rattle.plan.specs.Aims.{Aim, aimed_at}

-- How many words of two pools differ.
unfoldable pub differing : List ℕ → List ℕ → ℕ
differing [] q = 0
differing (x ∷ p) [] = 0
differing (x ∷ p) (y ∷ q) = cond (eqb x y) (differing p q) (suc (differing p q))

-- What sets the rights of the aim `A` in the pool `old` was cut after `n` stores, and has left `x`. `goal` is the
-- finished pool.
pub record CutAt (s : Shape) (A : Aim) (old : List ℕ) (n : ℕ) (x : List ℕ) : Type 0 where
  pub goal : ℕ → ℕ
  pub finished : Finished (form_of s) (words old) (aimed_at s A (words old)) goal
  pub long : length x ≡ length old
  -- Exactly `n` of the differing words have their finished value, the others their old one,
  pub count : differing old x ≡ n
  pub each : (j : ℕ) → (words x j ≡ words old j) ⊎ (words x j ≡ goal j)
  -- the pool is sound,
  pub sound : SoundPool (form_of s) (words x)
  -- every covered word has its old or new right,
  pub covered : (e a : ℕ) → e < s.domains → a < addresses → A.covers e a ≡ true
      → (right_of (form_of s) (words x) e a ≡ right_of (form_of s) (words old) e a)
      ⊎ (right_of (form_of s) (words x) e a ≡ A.sets e a)
  -- and every other its old one.
  pub others : (e a : ℕ) → e < s.domains → a < addresses → A.covers e a ≡ false
      → right_of (form_of s) (words x) e a ≡ right_of (form_of s) (words old) e a
  -- The same aim from here would finish in the same pool.
  pub again : Finished (form_of s) (words x) (aimed_at s A (words x)) goal

-- A store of `v` at word `k` is due in the pool `x`: it is one that comes first on the way from here to the finished
-- pool of the aim.
pub record Due (s : Shape) (A : Aim) (x : List ℕ) (k v : ℕ) : Type 0 where
  pub goal : ℕ → ℕ
  pub finished : Finished (form_of s) (words x) (aimed_at s A (words x)) goal
  pub sound : SoundPool (form_of s) (words x)
  pub next : Next (form_of s) (words x) goal (words x) k
  pub value : v ≡ goal k
  pub differs : words x k ≢ v
  pub inside : k < length x
