-- Laws of the heights of tables that stand at places: what holds of leaves and of middle tables holds at each height.
use Prim.Native.Nat.{ℕ, zero, suc, ◌<◌}
use native.Mathlib.Omega.{arith}
use native.Mathlib.Decide.{dec_lt}
use Rattle.places.specs.Count.{heights}

pub each_height : (A : ℕ → Type 0) → A 0 → A 1 → (h : ℕ) → h < heights → A h
each_height A leaf middle zero hi = leaf
each_height A leaf middle (suc zero) hi = middle
each_height A leaf middle (suc (suc h)) hi = absurd (omega arith)

-- What there is at each height is a function of the height.
pub choose : {A : Type 0} (B : ℕ → A → Type 0) → A → ((h : ℕ) → h < heights → (x : A) × B h x)
    → (f : ℕ → A) × ((h : ℕ) → h < heights → B h (f h))
choose {A} B other have = ((λ h. (here h).0), λ h. (here h).1)
  where
    here : (h : ℕ) → (x : A) × (h < heights → B h x)
    here h = elim (dec_lt h heights) [
      | yes hi ↦ (let (x, y) = have h hi in (x, λ b. y))
      | no hi ↦ (other, λ b. absurd (hi b))
    ]

-- What can be told of each height can be told of all.
pub dec_heights : (A : ℕ → Type 0) → ((h : ℕ) → Dec (A h)) → Dec ((h : ℕ) → h < heights → A h)
dec_heights A dec = elim (dec 0) [
  | yes leaf ↦ elim (dec 1) [
    | yes middle ↦ yes (each_height A leaf middle)
    | no f ↦ no (λ all. f (all 1 (omega arith)))
  ]
  | no f ↦ no (λ all. f (all 0 (omega arith)))
]
