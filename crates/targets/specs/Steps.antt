-- The steps by which a target is found, Memory word `x` is the four bytes from `4 * x` on.
use Rattle.std.specs.Prelude.{ℕ, zero, suc, ◌+◌, ◌*◌, ◌/◌, ◌≤◌, ◌<◌, ◌≡◌, Bool, true, false, ◌&&◌, cond, List, Option, Some, None, leb, ltb, get_or}
use Rattle.theory.specs.Pool.{words}
use Rattle.words.specs.Rights.{right_at, good_rights, sixteen_of}
use Rattle.words.specs.Passing.{AllSame}
use Rattle.table.specs.Shape.{max_middles}
use Rattle.table.specs.Map.{block, leads}
use Rattle.table.specs.Wants.{words_in}
use Rattle.census.specs.Places.{max_places}
use Rattle.targets.specs.Targets.{painted, given, target_of, Gives}
use Rattle.targets.specs.declared.Paint.{Paint}
use Rattle.targets.specs.declared.Cover.{Cover}
use Rattle.targets.specs.declared.Cover.TheVariants.{Apart, Partly, Whole}

-- The region has the memory word `x`.
unfoldable pub inside : Paint → ℕ → Bool
inside p x = leb p.lo x && ltb x p.hi

-- Of the `n` words from `s` on, the region has one, and lacks another.
pub record Half (p : Paint) (s n : ℕ) : Type 0 where
  pub hit : ℕ
  pub miss : ℕ
  pub hit_below : hit < n
  pub miss_below : miss < n
  pub hit_is : inside p (s + hit) ≡ true
  pub miss_is : inside p (s + miss) ≡ false

-- How the region meets the `n` words from `s` on.
abbrev pub CoverIs : Cover → Paint → ℕ → ℕ → Type 0
CoverIs Apart p s n = (j : ℕ) → j < n → inside p (s + j) ≡ false
CoverIs Partly p s n = Half p s n
CoverIs Whole p s n = (j : ℕ) → j < n → inside p (s + j) ≡ true

-- Of the sixteen words from `s` on, the first `k`, and no more, come before word `x`.
pub record Before (s x k : ℕ) : Type 0 where
  pub upto : k ≤ 16
  pub early : (i : ℕ) → i < k → s + i < x
  pub late : (i : ℕ) → k ≤ i → i < 16 → x ≤ s + i

-- Right `i` of the leaf entry `w`, whose first word is `s`, after the painting.
abbrev pub right_after : Paint → ℕ → ℕ → ℕ → ℕ
right_after p w s i = cond (inside p (s + i)) p.right (right_at w i)

-- The `n` words from `s` on all have the right `u`.
abbrev pub Plain : (ℕ → ℕ) → ℕ → ℕ → ℕ → Type 0
Plain R s n u = (j : ℕ) → j < n → R (4 * (s + j)) ≡ u

-- They have one right, or no one right.
abbrev pub OneIs : Option ℕ → (ℕ → ℕ) → ℕ → ℕ → Type 0
OneIs (Some u) R s n = Plain R s n u
OneIs None R s n = (u : ℕ) → Plain R s n u → ⊥

-- Of the block of height `h` numbered `n`, which has the entry `e` in the pool `P`: sub-block `i` once painted.
abbrev pub PartIs : (ℕ → ℕ) → Paint → ℕ → ℕ → ℕ → ℕ → Option ℕ → Type 0
PartIs P p h e n i o = OneIs o (painted p (given P h e)) (n * (block h / 4) + words_in h * i) (words_in h)

-- That block has the right `u` on all its words once painted ..
abbrev pub BlockHas : (ℕ → ℕ) → Paint → ℕ → ℕ → ℕ → ℕ → Type 0
BlockHas P p h e n u = Plain (painted p (given P h e)) (n * (block h / 4)) (block h / 4) u

-- .. and so have the `m` blocks from number `n` on, whose entries stand from pool word `k` on.
abbrev pub BlocksHave : (ℕ → ℕ) → Paint → ℕ → ℕ → ℕ → ℕ → ℕ → Type 0
BlocksHave P p h k m n u = (j : ℕ) → j < m → BlockHas P p h (P (k + j)) (n + j) u

-- An entry of a height that is rights is eight good ones; of a leaf, any word is good.
abbrev pub GoodRights : ℕ → ℕ → Type 0
GoodRights zero e = Unit {0}
GoodRights (suc h) e = leads (suc h) e ≡ false → good_rights e ≡ true

-- In every pool, the block of height `h` numbered `n` whose entry is `e` should have the entry `w` once painted ..
abbrev pub SaysIs : Paint → ℕ → ℕ → ℕ → ℕ → Type 0
SaysIs p h e n w = (P R : ℕ → ℕ) → Gives P h e n R → target_of (painted p R) h (n * block h) ≡ Some w

-- .. which is known, or needs a search, and so is no leaf entry.
abbrev pub ToldIs : Option ℕ → Paint → ℕ → ℕ → ℕ → Type 0
ToldIs (Some w) p h e n = SaysIs p h e n w
ToldIs None p h e n = 0 < h

-- The eight entries of a leaf from pool word `k` on say the first right of the first of them, sixteen times each.
abbrev pub EvenEntries : List ℕ → ℕ → Type 0
EvenEntries p k = AllSame p k 8 (sixteen_of (right_at (words p k) 0))

-- The leaf at pool word `e` is wanted by whichever page has it.
abbrev pub LeafMixed : (ℕ → ℕ) → ℕ → Type 0
LeafMixed P e = (n : ℕ) → target_of (given P 1 e) 1 (n * 4096) ≡ None

-- Nothing is painted, and the entry `e` of a height leads to such a leaf.
pub record SeenMixed (P : ℕ → ℕ) (p : Paint) (h e : ℕ) : Type 0 where
  pub none : p.hi ≤ p.lo
  pub height : h ≡ 1
  pub leaf : LeafMixed P e

-- Place `n` is for a middle table, and a leaf stands in the block that is numbered `i` over all domains.
pub record LeafIn (o : List ℕ) (n i : ℕ) : Type 0 where
  pub middle : n < max_middles
  pub place : ℕ
  pub above : max_middles ≤ place
  pub below : place < max_places
  pub inside : get_or o place 0 / 1024 ≡ i
