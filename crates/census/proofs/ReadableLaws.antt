-- What a sound pool gives to whoever walks it: each word reached is good and lies in the pool, and so does every
-- table that one leads to.
use Prim.Native.Nat.{ℕ, suc, ◌+◌, ◌*◌, ◌/◌, ◌%◌, ◌≤◌, ◌<◌}
use mathlib.Core.Path.{◌≡◌, refl}
use mathlib.Core.Bool.{true}
use mathlib.Core.List.{List}
use native.Mathlib.Omega.{arith}
use lib.ListN.{length}
use Rattle.theory.specs.Pool.{words, Reach, start, step, SoundPool, Roots}
use Rattle.theory.proofs.ReachLaws.{reach_low}
use Rattle.table.specs.declared.Shape.{Shape}
use Rattle.table.specs.Shape.{Fits, size}
use Rattle.table.specs.Map.{index, leads, form_of}
use Rattle.table.proofs.EntryLaws.{index_below}
use Rattle.census.proofs.PlaceLaws.{led_room}

-- The roots reach word `k`, as an entry of the height `h`.
abbrev pub Reached : List ℕ → Shape → ℕ → ℕ → Type 0
Reached p s = Reach (form_of s) (words p) (Roots (form_of s))

pub record Walkable (p : List ℕ) (s : Shape) : Type 0 where
  -- The pool has the shape.
  pub fits : Fits s (length p)
  -- Every root word is reached.
  pub root : (d i : ℕ) → d < s.domains → i < 1024 → Reached p s 2 (1024 * d + i)
  -- Where a reached word leads, a whole table lies in the pool,
  pub room : {h k : ℕ} → Reached p s (suc h) k → leads (suc h) (words p k) ≡ true → words p k + size h ≤ length p
  -- and each of its words is reached.
  pub down : {h k : ℕ} → Reached p s (suc h) k → leads (suc h) (words p k) ≡ true → (i : ℕ) → i < size h
      → Reached p s h (words p k + i)
  -- A reached word stands no higher than a root,
  pub low : {h k : ℕ} → Reached p s h k → h ≤ 2
  -- lies in the pool,
  pub inside : {h k : ℕ} → Reached p s h k → k < length p
  -- and is good.
  pub good : {h k : ℕ} → Reached p s h k → (form_of s).good h (words p k) ≡ true
  -- No two lead to one table.
  pub once : {h k j : ℕ} → Reached p s (suc h) k → leads (suc h) (words p k) ≡ true → Reached p s (suc h) j
      → leads (suc h) (words p j) ≡ true
      → words p k ≡ words p j → k ≡ j

module _ (p : List ℕ) (s : Shape) (fits : Fits s (length p)) (sound : SoundPool (form_of s) (words p)) where
  reached_room : {h k : ℕ} → Reached p s (suc h) k → leads (suc h) (words p k) ≡ true → words p k + size h ≤ length p
  reached_room {h} {k} m l = omega (arith, led_room s h (words p k) (sound.good m) l, fits.long)

  reached_inside : {h k : ℕ} → Reached p s h k → k < length p
  reached_inside (start (d, i, e, f, b, c)) = omega (arith, fits.long)
  reached_inside (step i m l b) = let r = reached_room m l in omega arith

  pub sound_readable : Walkable p s
  sound_readable = record {
    fits = fits;
    root = λ d i b c. start (d, i, refl, refl, b, c);
    room = λ m l. reached_room m l;
    down = λ m l i b. step i m l b;
    low = λ m. reach_low (form_of s) (words p) 2 (λ h k x. omega arith) m;
    inside = λ m. reached_inside m;
    good = λ m. sound.good m;
    once = λ m l n o e. sound.once m l n o e;
  }

module _ (p : List ℕ) (s : Shape) (r : Walkable p s) where
  -- The words of all roots, in one count; and the words by which an address goes.
  pub root_reached : (k : ℕ) → k < 1024 * s.domains → Reached p s 2 k
  root_reached k b =
      let e : 1024 * (k / 1024) + k % 1024 ≡ k = omega arith in
      rw e at (r.root (k / 1024) (k % 1024) (omega arith) (omega arith))

  pub entry_reached : (d a : ℕ) → d < s.domains → Reached p s 2 (1024 * d + index 2 a)
  entry_reached d a b = r.root d (index 2 a) b (index_below 2 a)

  pub index_reached : {h k : ℕ} (a : ℕ) → Reached p s (suc h) k → leads (suc h) (words p k) ≡ true
      → Reached p s h (words p k + index h a)
  index_reached {h} a m l = r.down m l (index h a) (index_below h a)

  -- The same in the paper's levels: roots and the middle tables that they lead to.
  pub root_good : (k : ℕ) → k < 1024 * s.domains → (form_of s).good 2 (words p k) ≡ true
  root_good k b = r.good (root_reached k b)

  module _ (k : ℕ) (b : k < 1024 * s.domains) (l : leads 2 (words p k) ≡ true) where
    pub middle_room : words p k + 1024 ≤ length p
    middle_room = r.room (root_reached k b) l

    pub middle_reached : (i : ℕ) → i < 1024 → Reached p s 1 (words p k + i)
    middle_reached i c = r.down (root_reached k b) l i c

    pub middle_good : (i : ℕ) → i < 1024 → (form_of s).good 1 (words p (words p k + i)) ≡ true
    middle_good i c = r.good (middle_reached i c)

    pub leaf_room : (i : ℕ) → i < 1024 → leads 1 (words p (words p k + i)) ≡ true
        → words p (words p k + i) + 64 ≤ length p
    leaf_room i c n = r.room (middle_reached i c) n
