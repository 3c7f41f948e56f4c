-- What the inner functions answer; the public promises do not speak of it.
use Rattle.std.specs.Prelude.{ℕ, cond, List, Option, Some, None}
use Rattle.lines.specs.declared.Request.{Request}
use Rattle.lines.specs.Forms.{value_of, is_number, is_request, request_of}

-- A word as a number, where it is one.
abbrev pub number_of : List ℕ → Option ℕ
number_of w = cond (is_number w) (Some (value_of w)) None

-- What the words of a line ask for, where they ask.
unfoldable pub asked_of : List (List ℕ) → Option Request
asked_of ws = cond (is_request ws) (Some (request_of ws)) None
