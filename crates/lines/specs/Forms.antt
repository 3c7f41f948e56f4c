-- What a line says: `S domain start length right`, single spaces, decimal digits, numbers at most 4294967295, at most
-- 60 bytes.
use Rattle.std.specs.Prelude.{ℕ, ◌+◌, ◌*◌, ◌-◌, ◌<◌, ◌≤◌, Bool, true, false, cond, ◌&&◌, ◌≡◌, List, [], ◌∷◌, ◌++◌, Result, Ok, Err, leb, eqb, length, get_or, drop}
use Rattle.lines.specs.declared.Request.{Request}
use Rattle.lines.specs.declared.NotOfForm.{NotOfForm}
use Rattle.lines.specs.Cuts.{words_of}

-- What a line is read as: a request, or not of the form.
abbrev pub Said : Type 0
Said = Result Request NotOfForm

-- A line that asks for four numbers.
abbrev pub asks : ℕ → ℕ → ℕ → ℕ → Said
asks d s l r = Ok (record { domain = d; start = s; length = l; right = r })

-- A line that is not of the form.
abbrev pub no_form : Said
no_form = Err (record {})

-- ---- The form, in words.

-- Decimal digits: bytes from `0` (48) to `9` (57).
unfoldable pub Digits : List ℕ → Type 0
Digits [] = Unit {0}
Digits (b ∷ ds) = ((48 ≤ b) × (b ≤ 57)) × Digits ds

-- The number that digits write on after v.
unfoldable pub value_on : ℕ → List ℕ → ℕ
value_on v [] = v
value_on v (b ∷ ds) = value_on (v * 10 + (b - 48)) ds

-- The number that digits write.
abbrev pub value_of : List ℕ → ℕ
value_of ds = value_on 0 ds

-- Digits that write the number v: one or more, leading zeros among them, and v is at most 4294967295.
pub record Number (ds : List ℕ) (v : ℕ) : Type 0 where
  pub some : 0 < length ds
  pub digits : Digits ds
  pub value : v ≡ value_of ds
  pub most : v ≤ 4294967295

-- A line of the form: `S` (83), then the digits of four numbers, each after one space (32), in at most 60 bytes.
pub record OfForm (line : List ℕ) (d s l r : ℕ) : Type 0 where
  pub domain : List ℕ
  pub start : List ℕ
  pub extent : List ℕ
  pub right : List ℕ
  pub bytes : line ≡ 83 ∷ 32 ∷ (domain ++ (32 ∷ (start ++ (32 ∷ (extent ++ (32 ∷ right))))))
  pub domain_is : Number domain d
  pub start_is : Number start s
  pub length_is : Number extent l
  pub right_is : Number right r
  pub short : length line ≤ 60

-- ---- The same, computed.

-- A byte from `0` to `9`.
unfoldable pub is_digit : ℕ → Bool
is_digit b = leb 48 b && leb b 57

-- Digits and nothing else.
unfoldable pub all_digits : List ℕ → Bool
all_digits [] = true
all_digits (b ∷ ds) = is_digit b && all_digits ds

-- A number: one digit or more, nothing else, and at most 4294967295.
unfoldable pub is_number : List ℕ → Bool
is_number [] = false
is_number (b ∷ ds) = all_digits (b ∷ ds) && leb (value_of (b ∷ ds)) 4294967295

-- Numbers and nothing else.
unfoldable pub all_numbers : List (List ℕ) → Bool
all_numbers [] = true
all_numbers (w ∷ ws) = is_number w && all_numbers ws

-- The word `S`.
unfoldable pub is_s : List ℕ → Bool
is_s w = eqb (length w) 1 && eqb (get_or w 0 0) 83

-- Five words, `S` and four numbers.
unfoldable pub is_request : List (List ℕ) → Bool
is_request ws = eqb (length ws) 5 && (is_s (get_or ws 0 []) && all_numbers (drop 1 ws))

-- What five such words ask for.
unfoldable pub request_of : List (List ℕ) → Request
request_of ws = record {
  domain = value_of (get_or ws 1 []);
  start = value_of (get_or ws 2 []);
  length = value_of (get_or ws 3 []);
  right = value_of (get_or ws 4 []);
}

-- What a line says, given its bytes without the newline.
unfoldable pub parse_of : List ℕ → Said
parse_of line = cond (leb (length line) 60 && is_request (words_of line)) (Ok (request_of (words_of line))) no_form

-- The paper's number for each case, and the values beside it: 99 and zeros where there is no request.
abbrev pub numbers_of : Said → List ℕ
numbers_of (Ok r) = 0 ∷ r.domain ∷ r.start ∷ r.length ∷ r.right ∷ []
numbers_of (Err e) = 99 ∷ 0 ∷ 0 ∷ 0 ∷ 0 ∷ []
