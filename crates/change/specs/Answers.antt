-- What a change and a tidying answer and leave, for every input, in the paper's order of refusals.
use Rattle.std.specs.Prelude.{ℕ, ◌≤◌, ◌<◌, ◌≡◌, Bool, List, Result, Ok, Err, length}
use Rattle.refusals.specs.declared.Refusal.{Refusal}
use Rattle.refusals.specs.declared.Refusal.TheVariants.{NoShape, NoDomain, NoRight, NotSound, NotSettled, NoRoom}
use Rattle.refusals.specs.Refusals.{number}
use Rattle.theory.specs.Pool.{words, SoundPool}
use Rattle.theory.specs.Settled.{Settled}
use Rattle.theory.specs.Finished.{Finished}
use Rattle.theory.specs.Phase.{phase, midway, Tells}
use Rattle.words.specs.Region.{region_of}
use Rattle.words.specs.declared.Region.{Region}
use Rattle.table.specs.declared.Shape.{Shape}
use Rattle.table.specs.Shape.{Fits}
use Rattle.table.specs.Map.{form_of}
use Rattle.places.specs.Count.{Room}
use Rattle.change.specs.declared.Ending.{Ending}
use Rattle.change.specs.declared.Ending.TheVariants.{Done, Cut}
use Rattle.plan.specs.Aims.{Aim, change_aim, no_aim, aimed_at}
use Rattle.change.specs.Cuts.{differing, CutAt}

-- The paper's numbers for what comes back: a refusal, whether it was cut, and the stores made.
pub record Numbers : Type 0 where
  pub refusal : ℕ
  pub cuts : ℕ
  pub stores : ℕ

-- Done: no refusal, and the count. Cut: neither. Refused: the number alone.
abbrev pub numbers : Result Ending Refusal → Numbers
numbers (Ok (Done n)) = record { refusal = 0; cuts = 0; stores = n }
numbers (Ok Cut) = record { refusal = 0; cuts = 1; stores = 0 }
numbers (Err k) = record { refusal = number k; cuts = 0; stores = 0 }

-- The stores come in phases, and in a phase in the order of the words: the pool `x`, between `old` and `goal`, is
-- reached on that way.
pub record OnTheWay (s : Shape) (old : List ℕ) (goal : ℕ → ℕ) (x : List ℕ) : Type 0 where
  pub kept : ℕ → Bool
  pub tells : Tells (form_of s) (words old) goal kept
  pub phase_reached : ℕ
  pub word_reached : ℕ
  pub is : (j : ℕ) → words x j ≡ midway (words old) goal (phase (form_of s) (words old) kept) phase_reached
      word_reached j

-- With the allowance `n` it was cut: `n` stores were made, and more were wanted.
pub record IsCut (s : Shape) (A : Aim) (old : List ℕ) (n : ℕ) (x : List ℕ) : Type 0 where
  pub cut : CutAt s A old n x
  pub way : OnTheWay s old cut.goal x
  pub more : (q : List ℕ) → length q ≡ length old → ((j : ℕ) → words q j ≡ cut.goal j) → n < differing old q

-- It finished in `q`.
pub record IsDone (s : Shape) (A : Aim) (old : List ℕ) (n : ℕ) (q : List ℕ) : Type 0 where
  pub finished : Finished (form_of s) (words old) (aimed_at s A (words old)) (words q)
  pub long : length q ≡ length old
  pub enough : differing old q ≤ n

-- A request that is in order up to refusal 5.
pub record Asked (p : List ℕ) (s : Shape) (d start len r : ℕ) (g : Region) : Type 0 where
  pub fits : Fits s (length p)
  pub domain : d < s.domains
  pub right : r ≤ 3
  pub region : region_of start len ≡ Ok g

-- The part of a change from refusal 6 on.
pub data ChangesRegion (p : List ℕ) (s : Shape) (A : Aim) (n : ℕ) : Result Ending Refusal → List ℕ → Type 0 where
  unsound : (SoundPool (form_of s) (words p) → ⊥) → ChangesRegion p s A n (Err NotSound) p
  unsettled : SoundPool (form_of s) (words p) → (Settled (form_of s) (words p) → ⊥) → ChangesRegion p s A n
      (Err NotSettled) p
  no_room : Settled (form_of s) (words p) → (Room s (aimed_at s A (words p)) → ⊥)
      → ChangesRegion p s A n (Err NoRoom) p
  done : Settled (form_of s) (words p) → (q : List ℕ) → IsDone s A p n q → ChangesRegion p s A n
      (Ok (Done (differing p q))) q
  cut : Settled (form_of s) (words p) → (x : List ℕ) → IsCut s A p n x → ChangesRegion p s A n (Ok Cut) x

-- The change of the pool `p`, for domain `d`, start, length, right and allowance, answers and leaves.
pub data Changes (p : List ℕ) (s : Shape) (d start len r n : ℕ) : Result Ending Refusal → List ℕ → Type 0 where
  no_shape : (Fits s (length p) → ⊥) → Changes p s d start len r n (Err NoShape) p
  no_domain : Fits s (length p) → s.domains ≤ d → Changes p s d start len r n (Err NoDomain) p
  no_right : Fits s (length p) → d < s.domains → 3 < r → Changes p s d start len r n (Err NoRight) p
  -- 4 or 5, as the rounding of the region says.
  no_region : Fits s (length p) → d < s.domains → r ≤ 3 → (k : Refusal) → region_of start len ≡ Err k
      → Changes p s d start len r n (Err k) p
  -- 6, 7 or 8; done; or cut.
  in_order : (g : Region) → Asked p s d start len r g → {a : Result Ending Refusal} {q : List ℕ}
      → ChangesRegion p s (change_aim d g r) n a q → Changes p s d start len r n a q

-- The tidying of the pool `p` with an allowance answers and leaves.
pub data Tidies (p : List ℕ) (s : Shape) (n : ℕ) : Result Ending Refusal → List ℕ → Type 0 where
  no_shape : (Fits s (length p) → ⊥) → Tidies p s n (Err NoShape) p
  unsound : Fits s (length p) → (SoundPool (form_of s) (words p) → ⊥) → Tidies p s n (Err NotSound) p
  done : Fits s (length p) → SoundPool (form_of s) (words p) → (q : List ℕ) → IsDone s no_aim p n q
      → Tidies p s n (Ok (Done (differing p q))) q
  cut : Fits s (length p) → SoundPool (form_of s) (words p) → (x : List ℕ) → IsCut s no_aim p n x
      → Tidies p s n (Ok Cut) x
