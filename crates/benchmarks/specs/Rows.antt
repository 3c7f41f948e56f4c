-- The paper's twelve benchmarks, a definition a row, about the definitions that the contracts of `fresh`, `lookup`,
-- `change` and `tidy` cite. D is 1, the domain is 0, and the pool is fresh unless a row says more. A row holds of
-- every outcome that the contract allows, and there is one.
use Rattle.std.specs.Prelude.{ℕ, zero, suc, ◌+◌, ◌*◌, ◌≤◌, ◌<◌, ◌≡◌, ◌⊎◌, List, ◌++◌, length, replicate, set, Result}
use Rattle.refusals.specs.declared.Refusal.{Refusal}
use Rattle.theory.specs.Pool.{words, SoundPool, right_of}
use Rattle.words.specs.declared.Region.{Region}
use Rattle.table.specs.declared.Shape.{Shape}
use Rattle.table.specs.declared.Deciding.{Deciding}
use Rattle.table.specs.Shape.{Fits, max_leaves, first_middle, first_leaf}
use Rattle.table.specs.Map.{addresses, block_at, form_of}
use Rattle.table.specs.Fresh.{made_number, fresh_pool, MakesFresh}
use Rattle.table.specs.Lookup.{Numbers, numbers, LooksUp}
use Rattle.change.specs.declared.Ending.{Ending}
use Rattle.change.specs.Answers.{Asked, Changes, Tidies}
use Rattle.change.specs.Answers.{numbers as counts}

-- One root, M middle places and L leaf places.
abbrev pub shape : ℕ → ℕ → Shape
shape M L = record { domains = 1; middles = M; leaves = L }

-- The contract allows an outcome, and each that it allows is as said.
pub record Always {A : Type 0} (Allows Is : A → List ℕ → Type 0) : Type 0 where
  pub some : (a : A) × (q : List ℕ) × Allows a q
  pub each : (a : A) (q : List ℕ) → Allows a q → Is a q

-- In the paper's numbers: done with so many stores, cut, refused with a number.
abbrev pub AnsweredDone : ℕ → Result Ending Refusal → Type 0
AnsweredDone n a = counts a ≡ record { refusal = 0; cuts = 0; stores = n }

abbrev pub AnsweredCut : Result Ending Refusal → Type 0
AnsweredCut a = counts a ≡ record { refusal = 0; cuts = 1; stores = 0 }

abbrev pub AnsweredRefused : ℕ → Result Ending Refusal → Type 0
AnsweredRefused k a = counts a ≡ record { refusal = k; cuts = 0; stores = 0 }

-- Setting `len` bytes from `start` on to the right `r`, in a fresh pool with M and L and with the allowance `n`.
abbrev pub Sets : (M L start len r n : ℕ) → Result Ending Refusal → List ℕ → Type 0
Sets M L start len r n = Changes (fresh_pool (shape M L)) (shape M L) 0 start len r n

-- What a lookup of `a` answers, in the paper's numbers: the contract allows that answer, and no other.
pub record Finds (p : List ℕ) (s : Shape) (a : ℕ) (x : Numbers) : Type 0 where
  pub some : (r : Result Deciding Refusal) × LooksUp p s 0 a r
  pub each : (r : Result Deciding Refusal) → LooksUp p s 0 a r → numbers r ≡ x

-- It gives the right, the deciding entry and the loads; and the right reaches from byte `first` to byte `last`.
abbrev pub FindsRight : (p : List ℕ) (s : Shape) (a right entry loads first last : ℕ) → Type 0
FindsRight p s a right entry loads first last =
    Finds p s a
    (record { refusal = 0; right = right; entry = entry; loads = loads; first = first; last = last })

-- 1. Any address: right 0, 1 load, for its whole block. For every M and L, whatever the pool held before it was made
-- fresh.
abbrev pub AnyAddress : Type 0
AnyAddress = (M L : ℕ) (p : List ℕ) → Fits (shape M L) (length p) → Always (MakesFresh (shape M L) p)
    (λ r q. (made_number r ≡ 0) × (q ≡ fresh_pool (shape M L))
    × ((a : ℕ) → a < addresses → FindsRight q (shape M L) a 0 0x80000000 1 (block_at 2 a) (block_at 2 a + 0x3FFFFF)))

-- 2. M 1, L 1, set 0x1000 for 64 bytes to 2: done, 1,026 stores; the leaf's first entry is 0xAAAAAAAA.
abbrev pub SetsOneLeaf : Type 0
SetsOneLeaf = (n : ℕ) → 1026 ≤ n → Always (Sets 1 1 0x1000 64 2 n)
    (λ a q. AnsweredDone 1026 a × (words q (first_leaf (shape 1 1)) ≡ 0xAAAAAAAA))

-- 3. Then 0x103F gives 2 and 0x1040 gives 0, 3 loads each; 0x2000 gives 0 in 2; 0x400000 gives 0 in 1. Each of them
-- for the whole block of its entry.
abbrev pub LooksAround : Type 0
LooksAround = (n : ℕ) → 1026 ≤ n → Always (Sets 1 1 0x1000 64 2 n)
    (λ a q. FindsRight q (shape 1 1) 0x103F 2 0xAAAAAAAA 3 0x1000 0x103F
    × FindsRight q (shape 1 1) 0x1040 0 0 3 0x1040 0x107F
    × FindsRight q (shape 1 1) 0x2000 0 0x80000000 2 0x2000 0x2FFF
    × FindsRight q (shape 1 1) 0x400000 0 0x80000000 1 0x400000 0x7FFFFF)

-- Every lookup gives right 0 or, from `lo` to `hi`, right 2.
abbrev pub NoneOrTwo : (p : List ℕ) (s : Shape) (lo hi : ℕ) → Type 0
NoneOrTwo p s lo hi = (a : ℕ) → a < addresses
    → (x : ℕ) × (w : ℕ) × (n : ℕ) × (f : ℕ) × (l : ℕ) × FindsRight p s a x w n f l
    × ((x ≡ 0) ⊎ ((x ≡ 2) × (lo ≤ a) × (a ≤ hi)))

-- 4. As 2 with allowance 1,025: cut, and every lookup gives right 0 or, in 0x1000 to 0x103F, right 2; the pool is
-- sound.
abbrev pub CutBeforeTheLast : Type 0
CutBeforeTheLast = Always (Sets 1 1 0x1000 64 2 1025)
    (λ a q. AnsweredCut a × NoneOrTwo q (shape 1 1) 0x1000 0x103F × SoundPool (form_of (shape 1 1)) (words q))

-- 5. After 2, the same region to 0: one store, root entry 0x80000000.
abbrev pub GivesUpBoth : Type 0
GivesUpBoth = (n m : ℕ) → 1026 ≤ n → 1 ≤ m → (b : Result Ending Refusal) (p : List ℕ) → Sets 1 1 0x1000 64 2 n b p
    → Always (Changes p (shape 1 1) 0 0x1000 64 0 m) (λ a q. AnsweredDone 1 a × (words q 0 ≡ 0x80000000))

-- 6. M 1, L 0, set 0x1000 for 512 bytes to 2: 1,025 stores, middle entry 1 is 0x80000002.
abbrev pub SetsOneMiddle : Type 0
SetsOneMiddle = (n : ℕ) → 1025 ≤ n
    → Always (Sets 1 0 0x1000 512 2 n) (λ a q. AnsweredDone 1025 a
    × (words q (first_middle (shape 1 1) + 1) ≡ 0x80000002))

-- 7. M 0, L 0, set 0 for 524,288 bytes to 1: one store, 0x80000001.
abbrev pub SetsOnePart : Type 0
SetsOnePart = (n : ℕ) → 1 ≤ n → Always (Sets 0 0 0 524288 1 n) (λ a q. AnsweredDone 1 a × (words q 0 ≡ 0x80000001))

-- 8. As 7 with length 524,284: refused 8.
abbrev pub NoRoomForLess : Type 0
NoRoomForLess = (n : ℕ) → Always (Sets 0 0 0 524284 1 n) (λ a q. AnsweredRefused 8 a × (q ≡ fresh_pool (shape 0 0)))

-- 9. Set 0 for 4,294,967,295 bytes to 1, M 0, L 0: 1,024 stores, each root entry 0x80005555.
abbrev pub SetsAll : Type 0
SetsAll = (n : ℕ) → 1024 ≤ n
    → Always (Sets 0 0 0 4294967295 1 n) (λ a q. AnsweredDone 1024 a × ((i : ℕ) → i < 1024 → words q i ≡ 0x80005555))

-- How many stores a right for the last word of memory takes: for 0 none, and for another the root word, each word of
-- the middle table, and one word of the leaf.
abbrev pub last_stores : ℕ → ℕ
last_stores zero = 0
last_stores (suc r) = 1026

-- 10. M 1, L 1, start 0xFFFFFFFC: length 4 accepted, 5 refused 5. Accepted: with an allowance that suffices done with
-- so many stores, and the last word has the right; with a smaller one cut.
abbrev pub LastWord : Type 0
LastWord = (r n : ℕ) → r ≤ 3
    → (last_stores r ≤ n → Always (Sets 1 1 0xFFFFFFFC 4 r n)
    (λ a q. AnsweredDone (last_stores r) a × (right_of (form_of (shape 1 1)) (words q) 0 0xFFFFFFFC ≡ r)))
    × (n < last_stores r → Always (Sets 1 1 0xFFFFFFFC 4 r n) (λ a q. AnsweredCut a))
    × Always (Sets 1 1 0xFFFFFFFC 5 r n) (λ a q. AnsweredRefused 5 a × (q ≡ fresh_pool (shape 1 1)))

-- M 1: every word of the root and of the middle place is 0x80000000, but root entry 0, which leads to that place.
abbrev pub needless : ℕ → List ℕ
needless L = set (replicate 2048 0x80000000 ++ replicate (64 * L) 0) 0 (first_middle (shape 1 1))

-- 11. M 1, root entry 0 leading to a middle table of 1,024 words 0x80000000: a change in order up to 6 is refused 7,
-- tidying makes one store. For every L.
abbrev pub Needless : Type 0
Needless = (L n : ℕ) → L ≤ max_leaves
    → ((d start len r : ℕ) (g : Region) → Asked (needless L) (shape 1 L) d start len r g
    → Always (Changes (needless L) (shape 1 L) d start len r n) (λ a q. AnsweredRefused 7 a × (q ≡ needless L)))
    × (1 ≤ n → Always (Tidies (needless L) (shape 1 L) n) (λ a q. AnsweredDone 1 a × (words q 0 ≡ 0x80000000)))

-- 12. A zero word as root entry 0: lookup of address 0 refused 6. In every pool of one root.
abbrev pub ZeroWord : Type 0
ZeroWord = (M L : ℕ) (p : List ℕ) → Fits (shape M L) (length p)
    → Finds (set p 0 0) (shape M L) 0 (record { refusal = 6; right = 0; entry = 0; loads = 0; first = 0; last = 0 })

-- The twelve.
pub record Rows : Type 0 where
  pub row_1 : AnyAddress
  pub row_2 : SetsOneLeaf
  pub row_3 : LooksAround
  pub row_4 : CutBeforeTheLast
  pub row_5 : GivesUpBoth
  pub row_6 : SetsOneMiddle
  pub row_7 : SetsOnePart
  pub row_8 : NoRoomForLess
  pub row_9 : SetsAll
  pub row_10 : LastWord
  pub row_11 : Needless
  pub row_12 : ZeroWord
