-- Words that a caller begins with, shapes, and result words where few are lent: what the header says of them,
-- computed.
use Prim.Native.Nat.{ℕ}
use mathlib.Core.Path.{◌≡◌, refl}
use mathlib.Core.List.{[], ◌∷◌, ◌++◌}
use lib.ListN.{replicate}
use Rattle.lookaside.specs.Slots.{empty_buffer}
use Rattle.gates.specs.Gates.{held}
use Rattle.gates.specs.Steps.{empty_stack}
use Rattle.rows.specs.Rows.{rows_of}
use Rattle.goleuthan.specs.Out.{out_with}
use Rattle.goleuthan.specs.Calls.{shape_in}
use Rattle.lookaside.specs.Layout.{buffer_of}
use Rattle.gates.specs.Layout.{gates_of, stack_of}

-- All words 0 is an empty buffer.
zero_buffer : buffer_of (replicate 257 0) ≡ empty_buffer
unfolding rows_of empty_buffer
zero_buffer = refl

-- All words 0 is a set that holds no gate.
zero_gates : held (gates_of (replicate 193 0)) ≡ []
zero_gates = refl

-- All words 0 but the current domain is an empty stack.
zero_stack : (d : ℕ) → stack_of (replicate 33 0 ++ d ∷ []) ≡ empty_stack d
unfolding rows_of
zero_stack d = refl

-- The greatest shape of the paper's form; and the same words in another form, or with a V, say no domain.
full_shape : shape_in (0 ∷ 4 ∷ 8 ∷ 64 ∷ 0 ∷ []) ≡ record { domains = 4; middles = 8; leaves = 64 }
full_shape = refl

other_form : (shape_in (1 ∷ 4 ∷ 8 ∷ 64 ∷ 0 ∷ [])).domains ≡ 0
other_form = refl

some_v : (shape_in (0 ∷ 4 ∷ 8 ∷ 64 ∷ 1 ∷ [])).domains ≡ 0
some_v = refl

-- Fewer words lent than there are results, as many, and more.
few_words : out_with (2 ∷ 7 ∷ 3 ∷ []) (9 ∷ []) ≡ 2 ∷ []
unfolding out_with
few_words = refl

more_words : out_with (2 ∷ 7 ∷ 3 ∷ []) (9 ∷ 9 ∷ 9 ∷ 8 ∷ []) ≡ 2 ∷ 7 ∷ 3 ∷ 8 ∷ []
unfolding out_with
more_words = refl
