-- Who stands at which place, for the tables of one height: definitions, and the states of the loops that give the
-- places out.
use Rattle.std.specs.Prelude.{ℕ, zero, suc, ◌≤◌, ◌<◌, ◌≡◌, Bool, true, false, cond, ◌&&◌, not, eqb, ltb}
use Rattle.places.specs.Count.{count}

-- The place below `m` that block `i` owns.
unfoldable pub seek : (ℕ → ℕ) → ℕ → ℕ → ℕ
seek owner i zero = 0
seek owner i (suc m) = cond (eqb (owner m) i) m (seek owner i m)

-- A block that wants a table and had none.
abbrev pub fresh : (want old : ℕ → Bool) → ℕ → Bool
fresh want old i = want i && not (old i)

-- There are `n` blocks, in order of domain and address, and `m` places. `want i`: block `i` wants a table. `old i`:
-- it had one, at the place `was i`. `free p`: no kept table stands at place `p`. `owner p`: the block whose table
-- stands there; `n` or more: none.
module _ (n m : ℕ) (want old free : ℕ → Bool) (was : ℕ → ℕ) where
  -- Each table stands where it may: a kept one where it was; a new one so that as many free places lie below it as
  -- new blocks come before it.
  pub record Held (owner : ℕ → ℕ) : Type 0 where
    pub only : (p : ℕ) → p < m → owner p < n → want (owner p) ≡ true
    pub kept : (p : ℕ) → p < m → owner p < n → old (owner p) ≡ true → (free p ≡ false) × (p ≡ was (owner p))
    pub rank : (p : ℕ) → p < m → owner p < n → old (owner p) ≡ false → (free p ≡ true)
        × (count free p ≡ count (fresh want old) (owner p))
    pub none : (p : ℕ) → p < m → n ≤ owner p → free p ≡ true

  -- .. and all that want a table have one.
  pub record Owned (owner : ℕ → ℕ) : Type 0 where
    pub held : Held owner
    pub placed : (i : ℕ) → i < n → want i ≡ true → (p : ℕ) × (p < m) × (owner p ≡ i)

  -- Giving out: the kept tables, and the new ones of the blocks below `i`, have their places; those of the new ones
  -- lie below `c`.
  pub record Handing (i c : ℕ) (owner : ℕ → ℕ) : Type 0 where
    pub held : Held owner
    pub low : c ≤ m
    pub level : count free c ≡ count (fresh want old) i
    pub stays : (j : ℕ) → j < n → want j ≡ true → old j ≡ true → (p : ℕ) × (p < m) × (owner p ≡ j)
    pub done : (j : ℕ) → j < n → j < i → fresh want old j ≡ true → (p : ℕ) × (p < m) × (owner p ≡ j)
    pub ahead : (p : ℕ) → c ≤ p → p < m → free p ≡ true → n ≤ owner p

-- Keeping, which comes before: the kept tables of the blocks below `i` have their places, and no other table has one.
pub record Keeping (n m : ℕ) (want old : ℕ → Bool) (was : ℕ → ℕ) (i : ℕ) (owner : ℕ → ℕ) : Type 0 where
  pub only : (p : ℕ) → p < m → owner p < n → (owner p < i) × (want (owner p) ≡ true) × (old (owner p) ≡ true)
      × (p ≡ was (owner p))
  pub have : (j : ℕ) → j < n → j < i → want j ≡ true → old j ≡ true → owner (was j) ≡ j

-- No kept table stands at place `p`, where only kept tables have an owner.
abbrev pub vacant : ℕ → (ℕ → ℕ) → ℕ → Bool
vacant n owner p = not (ltb (owner p) n)

-- Place `p` given to block `i`, beside what `owner` says of the others.
abbrev pub given_to : (ℕ → ℕ) → ℕ → ℕ → ℕ → ℕ
given_to owner p i q = cond (eqb q p) i (owner q)
