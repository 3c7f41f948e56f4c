-- Pieces between marks: cut where the marks stand, and joined again.
use Prim.Native.Nat.{ℕ}
use mathlib.Core.Path.{◌≡◌, refl}
use mathlib.Core.List.{List, [], ◌∷◌, ◌++◌}
use borrow.Author.Tests.{eq-eqb, ne_eqb}
use Rattle.std.specs.List.{join_with_byte}
use Rattle.std.proofs.lemmas.List.Splits.{join_with_byte-slice_split}
use Rattle.lines.specs.Cuts.{onto, cut_at, words_of}
use Rattle.lines.proofs.WordLaws.{words_split}

-- No byte is the mark m.
unfoldable pub NoMark : ℕ → List ℕ → Type 0
NoMark m [] = Unit {0}
NoMark m (b ∷ bs) = (b ≡ m → ⊥) × NoMark m bs

pub no_mark_append : (m : ℕ) (xs ys : List ℕ) → NoMark m xs → NoMark m ys → NoMark m (xs ++ ys)
unfolding NoMark
no_mark_append m [] ys h k = k
no_mark_append m (x ∷ xs) ys h k = (h.0, no_mark_append m xs ys h.1 k)

module _ (m : ℕ) where
  pub cut_piece : (end : List (List ℕ)) (p rest : List ℕ) → NoMark m p → cut_at m end (p ++ (m ∷ rest))
      ≡ p ∷ cut_at m end rest
  unfolding cut_at onto NoMark
  cut_piece end [] rest h = rw (eq-eqb m m refl)
  cut_piece end (b ∷ p) rest h = rw (ne_eqb b m h.0, cut_piece end p rest h.1)

  pub cut_last : (p : List ℕ) → NoMark m p → cut_at m ([] ∷ []) p ≡ p ∷ []
  unfolding cut_at onto NoMark
  cut_last [] h = refl
  cut_last (b ∷ p) h = rw (ne_eqb b m h.0, cut_last p h.1)

  pub cut_open : (b : ℕ) (p : List ℕ) → NoMark m (b ∷ p) → cut_at m [] (b ∷ p) ≡ (b ∷ p) ∷ []
  unfolding cut_at onto NoMark
  cut_open b [] h = rw (ne_eqb b m h.0)
  cut_open b (d ∷ p) h = rw (ne_eqb b m h.0, cut_open d p h.1)

-- Words with a space between them are the line.
pub words_joined : (bs : List ℕ) → join_with_byte 32 (words_of bs) ≡ bs
words_joined bs = rw (words_split bs) (join_with_byte-slice_split 32 bs)
