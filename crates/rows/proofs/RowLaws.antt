-- Laws of rows in words: reading a row of the words of rows, storing one, and that words are the words of what they
-- say. Assumes nothing.
use Prim.Native.Nat.{ℕ, zero, suc, ◌+◌, ◌-◌, ◌*◌, ◌≤◌, ◌<◌}
use mathlib.Core.Path.{◌≡◌, refl, sym, ap, ◌∙◌}
use mathlib.Core.Logic.{⊎_elim}
use mathlib.Core.Bool.{true}
use mathlib.Core.List.{List, [], ◌∷◌, ◌++◌, append_assoc, append-nil}
use native.Mathlib.Nat.{not-suc-le-zero, le_of_suc-le-suc, mul-zero, mul-suc, le_of_lt, eq-or-lt_of_le}
use native.Mathlib.Nat.{zero-add, suc-add}
use native.Mathlib.Numerals.{add-one}
use native.Mathlib.Omega.{arith}
use lib.ListN.{length, get_or, take, drop, set, replicate, length-append, get_or-append, take-append-drop}
use lib.Seq.{sets, sets-eq, take-add, take_at, drop_at, drop-append-add, get_or_at, split_at, ext_get_or, length-take-le}
use lib.Seq.{set_split, take-suc-set, take_all}
use Rattle.rows.specs.Rows.{rows_of, words_of}
use Rattle.rows.proofs.Layouts.{Layout}

-- The sums of an index and a small number, as numbers that a list is read by.
pub add_two : (j : ℕ) → j + 2 ≡ suc (suc j)
add_two j = omega arith

pub add_three : (j : ℕ) → j + 3 ≡ suc (suc (suc j))
add_three j = omega arith

pub add_four : (j : ℕ) → j + 4 ≡ suc (suc (suc (suc j)))
add_four j = omega arith

-- Rows by their numbers.
module _ {A : Type 0} where
  pub length_rows : (n : ℕ) (f : ℕ → A) → length (rows_of n f) ≡ n
  unfolding rows_of
  length_rows zero f = refl
  length_rows (suc n) f = length-append (rows_of n f) (f n ∷ []) ∙ rw (length_rows n f) (add-one n)

  pub rows_at : (n : ℕ) (f : ℕ → A) (i : ℕ) (d : A) → i < n → get_or (rows_of n f) i d ≡ f i
  unfolding rows_of
  rows_at zero f i d h = absurd (not-suc-le-zero h)
  rows_at (suc n) f i d h =
      ⊎_elim
      (λ (e : i ≡ n). rw e (get_or_at (rows_of n f) (f n) [] d n (length_rows n f)))
      (λ (l : i < n). let m = length_rows n f in get_or-append (rows_of n f) (f n ∷ []) d i (omega arith)
      ∙ rows_at n f i d l)
      (eq-or-lt_of_le (le_of_suc-le-suc h))

-- A loop that stores one row everywhere: what is stored, and what is left to store, is that row everywhere.
module _ {A : Type 0} (x : A) (n : ℕ) where
  abbrev pub Filling : List A → ℕ → Type 0
  Filling l i = take i l ++ replicate (n - i) x ≡ replicate n x

  pub filling_none : (l : List A) → Filling l 0
  filling_none l = let m : n - 0 ≡ n = omega arith in rw m

  pub filling_turn : (l : List A) (i : ℕ) → length l ≡ n → i < n → Filling l i → Filling (set l i x) (i + 1)
  filling_turn l i long h e =
      let m : n - i ≡ suc (n - suc i) = omega arith in
      rw (add-one i, take-suc-set l i x (omega arith)) (append_assoc (take i l) (x ∷ []) (replicate (n - suc i) x)
      ∙ ap (λ (k : ℕ). take i l ++ replicate k x) (sym m) ∙ e)

  pub filling_all : (l : List A) (i : ℕ) → length l ≡ n → i ≡ n → Filling l i → l ≡ replicate n x
  filling_all l i long h e =
      let m : n - i ≡ 0 = omega arith in
      sym (append-nil l) ∙ ap (λ (r : List A). r ++ []) (sym (take_all i l (omega arith)))
      ∙ ap (λ (k : ℕ). take i l ++ replicate k x) (sym m) ∙ e

-- A word stored among those that follow `b`.
set_after : (b t : List ℕ) (j v : ℕ) → set (b ++ t) (length b + j) v ≡ b ++ set t j v
set_after [] t j v = ap (λ (k : ℕ). set t k v) (zero-add j)
set_after (x ∷ b) t j v =
    ap (λ (k : ℕ). set (x ∷ (b ++ t)) k v) (suc-add (length b) j) ∙ ap (λ (r : List ℕ). x ∷ r) (set_after b t j v)

-- As many words as `vs` has, stored over those that follow `b`.
sets_seam : (b c t vs : List ℕ) (n : ℕ) → length b ≡ n → length c ≡ length vs → sets (b ++ (c ++ t)) n vs
    ≡ b ++ (vs ++ t)
sets_seam b c t vs n eb ec =
    let e : length (b ++ (c ++ t)) ≡ n + (length vs + length t) = simp length-append (omega arith) in
    sets-eq vs (b ++ (c ++ t)) n (omega arith)
    ∙ rw (take_at b (c ++ t) n eb, ← eb, drop-append-add b (c ++ t) (length vs), drop_at c t (length vs) ec)
    (append_assoc b vs t)

module _ {A : Type 0} (row : A → List ℕ) where
  words_append : (xs ys : List A) → words_of row (xs ++ ys) ≡ words_of row xs ++ words_of row ys
  unfolding words_of
  words_append [] ys = refl
  words_append (x ∷ xs) ys =
      ap (λ (l : List ℕ). row x ++ l) (words_append xs ys)
      ∙ sym (append_assoc (row x) (words_of row xs) (words_of row ys))

  words_last : (xs : List A) (x : A) → words_of row (xs ++ x ∷ []) ≡ words_of row xs ++ row x
  unfolding words_of
  words_last xs x = words_append xs (x ∷ []) ∙ ap (λ (l : List ℕ). words_of row xs ++ l) (append-nil (row x))

  -- The words of one row among others.
  words_split : (xs ys : List A) (x : A) (t : List ℕ) → words_of row (xs ++ x ∷ ys) ++ t
      ≡ words_of row xs ++ (row x ++ (words_of row ys ++ t))
  unfolding words_of
  words_split xs ys x t = rw (words_append xs (x ∷ ys)) (simp append_assoc)

module _ {A : Type 0} (L : Layout A) where
  -- The rows that words say.
  abbrev pub said : ℕ → List ℕ → List A
  said n ws = rows_of n (λ i. L.at ws (L.width * i))

  pub length_said : (n : ℕ) (ws : List ℕ) → length (said n ws) ≡ n
  length_said n ws = length_rows n (λ i. L.at ws (L.width * i))

  pub said_at : (n : ℕ) (ws : List ℕ) (i : ℕ) (d : A) → i < n → get_or (said n ws) i d ≡ L.at ws (L.width * i)
  said_at n ws i d h = rows_at n (λ j. L.at ws (L.width * j)) i d h

  pub length_words : (xs : List A) → length (words_of L.row xs) ≡ L.width * length xs
  unfolding words_of
  length_words [] = sym (mul-zero L.width)
  length_words (x ∷ xs) = let m = mul-suc L.width (length xs) in let e = length_words xs in let n = L.long x in
      length-append (L.row x) (words_of L.row xs) ∙ omega arith

  length_first : (xs : List A) (i : ℕ) → i ≤ length xs → length (words_of L.row (take i xs)) ≡ L.width * i
  length_first xs i h = length_words (take i xs) ∙ ap (λ (n : ℕ). L.width * n) (length-take-le i xs h)

  -- The words of row `i` among the others.
  words_around : (xs : List A) (t : List ℕ) (i : ℕ) (d : A) → i < length xs → words_of L.row xs ++ t
      ≡ words_of L.row (take i xs) ++ (L.row (get_or xs i d) ++ (words_of L.row (drop (suc i) xs) ++ t))
  words_around xs t i d h =
      ap (λ (l : List A). words_of L.row l ++ t) (split_at xs i d h)
      ∙ words_split L.row (take i xs) (drop (suc i) xs) (get_or xs i d) t

  -- Row `i` read from the words of rows: the same words, and the same row where words can say it.
  module _ (xs : List A) (t : List ℕ) (i : ℕ) (d : A) (h : i < length xs) where
    pub row_words : L.row (L.at (words_of L.row xs ++ t) (L.width * i)) ≡ L.row (get_or xs i d)
    row_words =
        let b = words_of L.row (take i xs) in
        let r = L.row (get_or xs i d) in
        let a = words_of L.row (drop (suc i) xs) ++ t in
        let w = L.width in
        let long = L.long (get_or xs i d) in
        let first = length_first xs i (le_of_lt h) in
        let all : length (b ++ (r ++ a)) ≡ w * i + (w + length a) = simp length-append (omega arith) in
        ap (λ (l : List ℕ). L.row (L.at l (w * i))) (words_around xs t i d h)
        ∙ L.read (b ++ (r ++ a)) (w * i) (omega arith)
        ∙ rw (drop_at b (r ++ a) (w * i) first) (take_at r a w long)

    pub row_again : L.sayable (get_or xs i d) ≡ true → L.at (words_of L.row xs ++ t) (L.width * i) ≡ get_or xs i d
    row_again real =
        ap (λ (l : List ℕ). L.at l (L.width * i)) (words_around xs t i d h)
        ∙ rw (← length_first xs i (le_of_lt h))
        (L.again (get_or xs i d) real (words_of L.row (take i xs)) (words_of L.row (drop (suc i) xs) ++ t))

  -- Row `i` stored: all others stay.
  pub words_set : (xs : List A) (t : List ℕ) (i : ℕ) (x : A) → i < length xs
      → sets (words_of L.row xs ++ t) (L.width * i) (L.row x) ≡ words_of L.row (set xs i x) ++ t
  words_set xs t i x h =
      let d = x in
      ap (λ (l : List ℕ). sets l (L.width * i) (L.row x)) (words_around xs t i d h)
      ∙ sets_seam (words_of L.row (take i xs)) (L.row (get_or xs i d)) (words_of L.row (drop (suc i) xs) ++ t)
      (L.row x) (L.width * i) (length_first xs i (le_of_lt h)) (L.long (get_or xs i d) ∙ sym (L.long x))
      ∙ sym (words_split L.row (take i xs) (drop (suc i) xs) x t)
      ∙ ap (λ (l : List A). words_of L.row l ++ t) (sym (set_split xs i x h))

  -- A word stored among those that follow the rows.
  pub words_set_after : (xs : List A) (t : List ℕ) (m j v : ℕ) → m ≡ L.width * length xs + j
      → set (words_of L.row xs ++ t) m v ≡ words_of L.row xs ++ set t j v
  words_set_after xs t m j v e =
      ap (λ (k : ℕ). set (words_of L.row xs ++ t) k v) (e ∙ ap (λ (k : ℕ). k + j) (sym (length_words xs)))
      ∙ set_after (words_of L.row xs) t j v

  -- Words are the words of the rows that they say, and what follows these.
  words_first : (ws : List ℕ) (n : ℕ) → L.width * n ≤ length ws → words_of L.row (said n ws)
      ≡ take (L.width * n) ws
  unfolding rows_of words_of
  words_first ws zero h = rw (mul-zero L.width)
  words_first ws (suc n) h =
      let m = mul-suc L.width n in
      words_last L.row (said n ws) (L.at ws (L.width * n))
      ∙ rw (words_first ws n (omega arith), L.read ws (L.width * n) (omega arith), m)
      (sym (take-add (L.width * n) L.width ws))

  pub words_said : (ws : List ℕ) (n : ℕ) → L.width * n ≤ length ws
      → words_of L.row (said n ws) ++ drop (L.width * n) ws ≡ ws
  words_said ws n h =
      ap (λ (l : List ℕ). l ++ drop (L.width * n) ws) (words_first ws n h) ∙ take-append-drop (L.width * n) ws

  -- Rows that words can say are read again from their words.
  pub rows_words : (xs : List A) (t : List ℕ) (d : A)
      → ((i : ℕ) → i < length xs → L.sayable (get_or xs i d) ≡ true) → said (length xs) (words_of L.row xs ++ t) ≡ xs
  rows_words xs t d real =
      let n = length_said (length xs) (words_of L.row xs ++ t) in
      ext_get_or d (said (length xs) (words_of L.row xs ++ t)) xs n
      (λ i h.
      said_at (length xs) (words_of L.row xs ++ t) i d (omega arith)
      ∙ row_again xs t i d (omega arith) (real i (omega arith)))
