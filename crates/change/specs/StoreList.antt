-- The stores of a change or a tidying as a list: which words, in which order, and what each is to hold.
use Rattle.std.specs.Prelude.{ℕ, zero, suc, ◌+◌, ◌≤◌, ◌<◌, ◌≡◌, Bool, not, cond, ◌&&◌, Result, Ok, Err, List, [], ◌∷◌, ◌++◌, eqb, length, set, take}
use Rattle.refusals.specs.declared.Refusal.{Refusal}
use Rattle.theory.specs.Pool.{words}
use Rattle.theory.specs.Phase.{phase}
use Rattle.table.specs.declared.Shape.{Shape}
use Rattle.table.specs.Map.{form_of}
use Rattle.plan.specs.Aims.{Aim, Goal}
use Rattle.change.specs.declared.Ending.{Ending}
use Rattle.change.specs.declared.Ending.TheVariants.{Done, Cut}

-- One store: a word of the pool, and what it is to hold.
pub record OneStore : Type 0 where
  pub word : ℕ
  pub value : ℕ

-- From the pool `P` to the finished pool `Q`, where each word has a phase.
module _ (P Q phases : ℕ → ℕ) where
  -- Of the `n` words from `k` on, those of phase `c` that are to change, in their order.
  unfoldable pub stores_in : ℕ → ℕ → ℕ → List OneStore
  stores_in c zero k = []
  stores_in c (suc n) k =
      cond (eqb (phases k) c && not (eqb (P k) (Q k)))
      (record { word = k; value = Q k } ∷ stores_in c n (k + 1))
      (stores_in c n (k + 1))

  -- Those of `f` phases from phase `c` on, one phase after the other, of a pool of `n` words.
  unfoldable pub stores_from : ℕ → ℕ → ℕ → List OneStore
  stores_from n zero c = []
  stores_from n (suc f) c = stores_in c n 0 ++ stores_from n f (c + 1)

-- All stores from the pool `old` to the finished pool: three phases, the first of them phase 1.
abbrev pub stores_of : Shape → List ℕ → (ℕ → ℕ) → (ℕ → Bool) → List OneStore
stores_of s old Q kept = stores_from (words old) Q (phase (form_of s) (words old) kept) (length old) 3 1

-- The pool after stores, one after the other.
unfoldable pub stored : List ℕ → List OneStore → List ℕ
stored x [] = x
stored x (w ∷ l) = stored (set x w.word w.value) l

-- The stores that the aim `A` makes in the pool `old` are the list `l`.
pub record StoresAre (s : Shape) (A : Aim) (old : List ℕ) (l : List OneStore) : Type 0 where
  pub finished_pool : ℕ → ℕ
  pub kept : ℕ → Bool
  pub goal : Goal s A old finished_pool kept
  pub list : l ≡ stores_of s old finished_pool kept

-- With the allowance `n`, the first `n` stores of the list were made, or all; done is all of them, with their number,
-- and cut is fewer. A refusal has none.
abbrev pub Makes : List ℕ → List OneStore → ℕ → Result Ending Refusal → List ℕ → Type 0
Makes p l n (Err k) q = (l ≡ []) × (q ≡ p)
Makes p l n (Ok (Done k)) q = (length l ≤ n) × (k ≡ length l) × (q ≡ stored p l)
Makes p l n (Ok Cut) q = (n < length l) × (q ≡ stored p (take n l))
