-- The paper's lines, and the edges of the form, by computation.
use Prim.Native.Nat.{ℕ}
use Prim.Native.Char.{code}
use Prim.Native.String.{String, [] as end, ◌∷◌ as ◌then◌}
use mathlib.Core.Path.{◌≡◌, refl}
use mathlib.Core.List.{List, [], ◌∷◌, ◌++◌, map}
use lib.ListN.{replicate}
use Rattle.std.proofs.Common.{Some, None}
use Rattle.lines.specs.declared.Fed.{Fed}
use Rattle.lines.specs.Cuts.{onto, cut_at, lines_of}
use Rattle.lines.specs.Forms.{Said, asks, no_form, value_on, is_digit, all_digits, is_number, all_numbers, is_s, is_request, request_of}
use Rattle.lines.specs.Forms.{parse_of}
use Rattle.lines.specs.Feeds.{blank_line, pushed, said_of, feed_of, last_of}

-- A text's bytes: all of these are of ASCII, where a character is one byte.
bytes_of : String → List ℕ
bytes_of end = []
bytes_of (c then s) = code c ∷ bytes_of s

-- ---- The paper's input

paper : List Said
paper = asks 1 4096 64 2 ∷ asks 1 4104 4 1 ∷ asks 2 4104 4 2 ∷ []

paper_lines : map parse_of (lines_of (bytes_of "S 1 4096 64 2\nS 1 4104 4 1\nS 2 4104 4 2\n")) ≡ paper
unfolding bytes_of paper onto cut_at value_on is_digit all_digits is_number all_numbers is_s is_request request_of parse_of
paper_lines = refl

-- ---- One line

-- Bytes of a line, and what they say.
record Row : Type 0 where
  bytes : List ℕ
  says : Said

row : String → Said → Row
row text said = record { bytes = bytes_of text; says = said }

-- A line with n more zeros in front of its last number; with none it is 13 bytes long.
padded : ℕ → List ℕ
padded n = bytes_of "S 1 4096 64 " ++ (replicate n 48 ++ bytes_of "2")

rows : List Row
rows =
    row "S 1 4096 64 2" (asks 1 4096 64 2)
    ∷ row "S 0 4294967295 4294967295 4294967295" (asks 0 4294967295 4294967295 4294967295)
    ∷ row "S 0 4294967296 4 1" no_form
    ∷ row "S 99999999999999999999 4096 4 1" no_form
    ∷ row "S 00 004096 064 02" (asks 0 4096 64 2)
    ∷ record { bytes = padded 47; says = asks 1 4096 64 2 }
    ∷ record { bytes = padded 48; says = no_form }
    ∷ row "" no_form
    ∷ row "S" no_form
    ∷ row "S " no_form
    ∷ row "s 1 4096 64 2" no_form
    ∷ row "SS 1 4096 64 2" no_form
    ∷ row " S 1 4096 64 2" no_form
    ∷ row "S  1 4096 64 2" no_form
    ∷ row "S 1 4096  64 2" no_form
    ∷ row "S 1 4096 64 2 " no_form
    ∷ row "S\t1 4096 64 2" no_form
    ∷ row "S 1 4096 64 2\r" no_form
    ∷ row "S 1 4096 64 2\0" no_form
    ∷ row "S 1 4096 64" no_form
    ∷ row "S 1 4096 64 2 0" no_form
    ∷ row "S 1 4096 64 +2" no_form
    ∷ row "S -1 4096 64 2" no_form
    ∷ row "S 1 0x1000 64 2" no_form
    ∷ []

each_row : map (λ (x : Row). parse_of x.bytes) rows ≡ map (λ (x : Row). x.says) rows
unfolding bytes_of row padded rows onto cut_at value_on is_digit all_digits is_number all_numbers is_s is_request request_of
    parse_of
each_row = refl

-- ---- Lines of an input

no_lines : lines_of (bytes_of "") ≡ []
unfolding bytes_of cut_at
no_lines = refl

empty_line : lines_of (bytes_of "\n") ≡ [] ∷ []
unfolding bytes_of cut_at
empty_line = refl

last_without_newline : lines_of (bytes_of "a\n\nbc") ≡ bytes_of "a" ∷ [] ∷ bytes_of "bc" ∷ []
unfolding bytes_of onto cut_at
last_without_newline = refl

last_with_newline : lines_of (bytes_of "a\n\nbc\n") ≡ bytes_of "a" ∷ [] ∷ bytes_of "bc" ∷ []
unfolding bytes_of onto cut_at
last_with_newline = refl

-- ---- A line in two chunks, and one that has begun

part : Fed
part = feed_of 0 blank_line (bytes_of "S 1 40")

part_spent : part.found ≡ None
unfolding part bytes_of feed_of pushed
part_spent = refl

part_found : feed_of 0 part.line (bytes_of "96 64 2\nS")
    ≡ record { found = Some (asks 1 4096 64 2); next = 8; line = blank_line }
unfolding part bytes_of feed_of pushed said_of onto cut_at value_on is_digit all_digits is_number all_numbers is_s is_request
    request_of parse_of
part_found = refl

part_last : last_of (feed_of 8 blank_line (bytes_of "S")).line ≡ Some no_form
unfolding bytes_of feed_of pushed said_of last_of onto cut_at is_s is_request parse_of
part_last = refl

none_begun : last_of blank_line ≡ None
unfolding last_of
none_begun = refl
