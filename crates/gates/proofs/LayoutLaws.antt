-- Gate sets and call stacks in words: words of the right length say one state whose words they are, the words of a
-- state say it again, and what is stored in the words is stored in the state. Of a gate set this asks that no gate is a
-- switch to 0xFFFFFFFF, which no set read from words holds. Assumes nothing.
use Prim.Native.Nat.{ℕ, suc, ◌+◌, ◌*◌, ◌≤◌, ◌<◌}
use mathlib.Core.Path.{◌≡◌, refl, sym, ap, ◌∙◌}
use mathlib.Core.Bool.{Bool, true, false, cond, not}
use mathlib.Core.List.{List, [], ◌∷◌, ◌++◌}
use native.Mathlib.Numerals.{add-one}
use native.Mathlib.Omega.{arith}
use borrow.Author.Tests.{eqb-true, not-true}
use lib.Dec.{eqb}
use lib.ListN.{length, get_or, take, drop, set, length-set, drop_of_length-le}
use lib.Seq.{get_or-take, length-take-le, sets, drop-cons, get_or_at, get_or-append_seam, get_or-append-add}
use Rattle.std.proofs.Common.{Result, Ok, Err}
use Rattle.refusals.specs.declared.Refusal.{Refusal}
use Rattle.rows.specs.Rows.{words_of}
use Rattle.rows.proofs.Layouts.{Layout}
use Rattle.rows.proofs.RowLaws.{add_two, length_said, said_at, length_words, row_words, words_set}
use Rattle.rows.proofs.RowLaws.{words_set_after, words_said, rows_words}
use Rattle.gates.specs.declared.Gate.{Gate}
use Rattle.gates.specs.declared.Gate.TheVariants.{Switch, Return}
use Rattle.gates.specs.declared.GateAt.{GateAt}
use Rattle.gates.specs.declared.Frame.{Frame}
use Rattle.gates.specs.declared.Stepped.{Stepped}
use Rattle.gates.specs.States.{Gates, GatesSet, CallStack, Step}
use Rattle.gates.specs.Gates.{no_gate, held, stored, set_refused, set_done}
use Rattle.gates.specs.Steps.{no_frame, in_use}
use Rattle.gates.specs.Layout.{gates_long, stack_long, return_word, gate_said, gate_word, gate_at, gate_words, gates_of}
use Rattle.gates.specs.Layout.{gates_words, frame_at, frame_words, stack_of, stack_words, SetAs, SteppedAs}

-- The word of a gate.
pub gate_word_lem : (w : ℕ) → gate_word (gate_said w) ≡ w
gate_word_lem w = go (eqb w return_word) refl
  where
    go : (t : Bool) → eqb w return_word ≡ t → gate_word (cond t Return (Switch w)) ≡ w
    go true e = sym (eqb-true w return_word e)
    go false e = refl

-- The gate has a word.
abbrev pub has_word : Gate → Bool
has_word (Switch d) = not (eqb d return_word)
has_word Return = true

pub gate_in_lem : (g : Gate) → has_word g ≡ true → gate_said (gate_word g) ≡ g
gate_in_lem Return h = refl
gate_in_lem (Switch d) h = rw (not-true (eqb d return_word) h)

-- Words of a gate with its place.
pub gate_words_lem : (ws : List ℕ) (j : ℕ) → j + 3 ≤ length ws → gate_words (gate_at ws j) ≡ take 3 (drop j ws)
gate_words_lem ws j h =
    rw (
      gate_word_lem,
      add-one j,
      add_two j,
      drop-cons ws j 0 (omega arith),
      drop-cons ws (suc j) 0 (omega arith),
      drop-cons ws (suc (suc j)) 0 (omega arith),
    )

pub gate_again : (g : GateAt) → has_word g.gate ≡ true → (b a : List ℕ)
    → gate_at (b ++ (gate_words g ++ a)) (length b) ≡ g
gate_again g h b a =
    let e = ap gate_said (get_or-append-add b (gate_words g ++ a) 2 0) ∙ gate_in_lem g.gate h in
    λ i. record {
      domain = get_or-append_seam b g.domain (g.address.0 ∷ gate_word g.gate ∷ a) 0 i;
      address = record { 0 = get_or-append-add b (gate_words g ++ a) 1 0 i };
      gate = e i;
    }

abbrev pub gate_layout : Layout GateAt
gate_layout = record {
  width = 3;
  at = gate_at;
  row = gate_words;
  sayable = λ g. has_word g.gate;
  long = λ g. refl;
  read = gate_words_lem;
  again = gate_again;
}

pub gates_said : (ws : List ℕ) → length (gates_of ws).places ≡ 64
gates_said ws = length_said gate_layout 64 ws

pub gates_words_lem : (ws : List ℕ) → length ws ≡ gates_long → gates_words (gates_of ws) ≡ ws
gates_words_lem ws h =
    ap (λ (t : List ℕ). words_of gate_words (gates_of ws).places ++ t)
    (sym (drop-cons ws 192 0 (omega arith)
    ∙ ap (λ (t : List ℕ). get_or ws 192 0 ∷ t) (drop_of_length-le ws {i = 193} (omega arith))))
    ∙ words_said gate_layout ws 64 (omega arith)

pub gates_again : (G : Gates) → length G.places ≡ 64
    → ((i : ℕ) → i < 64 → has_word (get_or G.places i no_gate).gate ≡ true)
    → gates_of (gates_words G) ≡ G
gates_again G h real =
    let r = rows_words gate_layout G.places (G.count ∷ []) no_gate (λ i l. real i (omega arith)) in
    let e = rw h at r in
    let n = length_words gate_layout G.places in
    let t = get_or_at (words_of gate_words G.places) G.count [] 0 192 (omega arith) in
    λ i. record { places = e i; count = t i }

pub gates_at : (ws : List ℕ) (i : ℕ) → i < 64 → get_or (gates_of ws).places i no_gate ≡ gate_at ws (3 * i)
gates_at ws i h = said_at gate_layout 64 ws i no_gate h

-- The gates held, one after the other.
module _ (ws : List ℕ) (few : (gates_of ws).count ≤ 64) where
  pub held_said : length (held (gates_of ws)) ≡ (gates_of ws).count
  held_said = let n = gates_said ws in length-take-le (gates_of ws).count (gates_of ws).places (omega arith)

  pub held_at : (i : ℕ) → i < (gates_of ws).count → get_or (held (gates_of ws)) i no_gate ≡ gate_at ws (3 * i)
  held_at i h = get_or-take (gates_of ws).count (gates_of ws).places i no_gate h ∙ gates_at ws i (omega arith)

-- The words of a set of these gates, so many of them held.
abbrev pub of_places : List GateAt → ℕ → List ℕ
of_places x m = gates_words (record { places = x; count = m })

-- A gate and the count stored.
module _ (l : List GateAt) (n : ℕ) where
  -- The gate of place `j` moved to place `i`.
  pub gate_moved : (i j : ℕ) → i < length l → j < length l
      → sets (of_places l n) (3 * i) (gate_words (gate_at (of_places l n) (3 * j))) ≡ of_places (set l i (get_or l j no_gate)) n
  gate_moved i j hi hj =
      ap (λ (r : List ℕ). sets (of_places l n) (3 * i) r) (row_words gate_layout l (n ∷ []) j no_gate hj)
      ∙ words_set gate_layout l (n ∷ []) i (get_or l j no_gate) hi

  pub gate_stored : (i : ℕ) (g : GateAt) → i < length l → sets (of_places l n) (3 * i) (gate_words g)
      ≡ of_places (set l i g) n
  gate_stored i g h = words_set gate_layout l (n ∷ []) i g h

  pub count_stored : (m : ℕ) → length l ≡ 64 → set (of_places l n) 192 m ≡ of_places l m
  count_stored m h = words_set_after gate_layout l (n ∷ []) 192 0 m (omega arith)

pub stored_words : (ws : List ℕ) (i : ℕ) (g : GateAt) (m : ℕ) → length ws ≡ gates_long → i < 64
    → set (sets ws (3 * i) (gate_words g)) 192 m ≡ gates_words (stored (gates_of ws) i g m)
stored_words ws i g m h l =
    let xs = (gates_of ws).places in
    let n = gates_said ws in
    let k = length-set xs i g in
    ap (λ (r : List ℕ). set (sets r (3 * i) (gate_words g)) 192 m) (sym (gates_words_lem ws h))
    ∙ ap (λ (r : List ℕ). set r 192 m) (gate_stored xs (get_or ws 192 0) i g (omega arith))
    ∙ count_stored (set xs i g) (get_or ws 192 0) m (omega arith)

-- What setting or removing leaves in the words `ws`, where it is refused and where it is done.
pub set_refused_as : (ws : List ℕ) → length ws ≡ gates_long → (r : GatesSet) (n : Refusal) → r ≡ set_refused n (gates_of ws)
    → SetAs r (Err n) ws
set_refused_as ws h r n e = rw e (refl, sym (gates_words_lem ws h))

pub set_done_as : (ws : List ℕ) (r : GatesSet) (G : Gates) → r ≡ set_done G → ws ≡ gates_words G → SetAs r (Ok tt) ws
set_done_as ws r G e q = rw e (refl, q)

-- Words of a frame.
pub frame_words_lem : (ws : List ℕ) (j : ℕ) → j + 2 ≤ length ws → frame_words (frame_at ws j) ≡ take 2 (drop j ws)
frame_words_lem ws j h = rw (add-one j, drop-cons ws j 0 (omega arith), drop-cons ws (suc j) 0 (omega arith))

pub frame_again : (f : Frame) (b a : List ℕ) → frame_at (b ++ (frame_words f ++ a)) (length b) ≡ f
frame_again f b a =
    λ i. record {
      domain = get_or-append_seam b f.domain (f.back.0 ∷ a) 0 i;
      back = record { 0 = get_or-append-add b (frame_words f ++ a) 1 0 i };
    }

abbrev pub frame_layout : Layout Frame
frame_layout = record {
  width = 2;
  at = frame_at;
  row = frame_words;
  sayable = λ f. true;
  long = λ f. refl;
  read = frame_words_lem;
  again = λ f h. frame_again f;
}

pub frames_said : (ws : List ℕ) → length (stack_of ws).frames ≡ 16
frames_said ws = length_said frame_layout 16 ws

pub frames_at : (ws : List ℕ) (i : ℕ) → i < 16 → get_or (stack_of ws).frames i no_frame ≡ frame_at ws (2 * i)
frames_at ws i h = said_at frame_layout 16 ws i no_frame h

-- The frames in use, one after the other.
module _ (ws : List ℕ) (few : (stack_of ws).depth ≤ 16) where
  pub in_use_said : length (in_use (stack_of ws)) ≡ (stack_of ws).depth
  in_use_said = let n = frames_said ws in length-take-le (stack_of ws).depth (stack_of ws).frames (omega arith)

  pub in_use_at : (i : ℕ) → i < (stack_of ws).depth → get_or (in_use (stack_of ws)) i no_frame ≡ frame_at ws (2 * i)
  in_use_at i h = get_or-take (stack_of ws).depth (stack_of ws).frames i no_frame h ∙ frames_at ws i (omega arith)

pub stack_words_lem : (ws : List ℕ) → length ws ≡ stack_long → stack_words (stack_of ws) ≡ ws
stack_words_lem ws h =
    ap (λ (t : List ℕ). words_of frame_words (stack_of ws).frames ++ t)
    (sym (drop-cons ws 32 0 (omega arith) ∙ ap (λ (t : List ℕ). get_or ws 32 0 ∷ t)
    (drop-cons ws 33 0 (omega arith)
    ∙ ap (λ (t : List ℕ). get_or ws 33 0 ∷ t) (drop_of_length-le ws {i = 34} (omega arith)))))
    ∙ words_said frame_layout ws 16 (omega arith)

pub stack_again : (k : CallStack) → length k.frames ≡ 16 → stack_of (stack_words k) ≡ k
stack_again k h =
    let u = k.depth ∷ k.current ∷ [] in
    let r = rows_words frame_layout k.frames u no_frame (λ i l. refl) in
    let e = rw h at r in
    let w = words_of frame_words k.frames in
    let n : length w ≡ 32 = length_words frame_layout k.frames ∙ ap (λ (m : ℕ). 2 * m) h in
    let s = get_or_at w k.depth (k.current ∷ []) 0 32 n in
    let t = ap (λ (m : ℕ). get_or (w ++ u) m 0) (sym (ap (λ (m : ℕ). m + 1) n)) ∙ get_or-append-add w u 1 0 in
    λ i. record { frames = e i; depth = s i; current = t i }

-- A frame stored.
pub frame_stored : (k : CallStack) (i : ℕ) (f : Frame) → i < length k.frames → sets (stack_words k) (2 * i)
    (frame_words f)
    ≡ stack_words (record { frames = set k.frames i f; depth = k.depth; current = k.current })
frame_stored k i f h = words_set frame_layout k.frames (k.depth ∷ k.current ∷ []) i f h

-- The depth and the current domain stored.
pub ends_stored : (k : CallStack) (d c : ℕ) → length k.frames ≡ 16 → set (set (stack_words k) 32 d) 33 c
    ≡ stack_words (record { frames = k.frames; depth = d; current = c })
ends_stored k d c h =
    ap (λ (r : List ℕ). set r 33 c)
    (words_set_after frame_layout k.frames (k.depth ∷ k.current ∷ []) 32 0 d (omega arith))
    ∙ words_set_after frame_layout k.frames (d ∷ k.current ∷ []) 33 1 c (omega arith)

pub popped_words : (ws : List ℕ) (d c : ℕ) → length ws ≡ stack_long → set (set ws 32 d) 33 c
    ≡ stack_words (record { frames = (stack_of ws).frames; depth = d; current = c })
popped_words ws d c h =
    ap (λ (r : List ℕ). set (set r 32 d) 33 c) (sym (stack_words_lem ws h)) ∙ ends_stored (stack_of ws) d c (frames_said ws)

-- A frame stored, and the two.
pub pushed_words : (ws : List ℕ) (i : ℕ) (f : Frame) (d c : ℕ) → length ws ≡ stack_long → i < 16
    → set (set (sets ws (2 * i) (frame_words f)) 32 d) 33 c
    ≡ stack_words (record { frames = set (stack_of ws).frames i f; depth = d; current = c })
pushed_words ws i f d c h l =
    let k = stack_of ws in
    let n = frames_said ws in
    let m = length-set k.frames i f in
    ap (λ (r : List ℕ). set (set (sets r (2 * i) (frame_words f)) 32 d) 33 c) (sym (stack_words_lem ws h))
    ∙ ap (λ (r : List ℕ). set (set r 32 d) 33 c) (frame_stored k i f (omega arith))
    ∙ ends_stored (record { frames = set k.frames i f; depth = k.depth; current = k.current }) d c (m ∙ n)

-- A step that leaves the stack as it came.
pub step_stays_as : (ws : List ℕ) → length ws ≡ stack_long → (r : Step) (a : Result Stepped Refusal)
    → r ≡ record { answer = a; stack = stack_of ws } → SteppedAs r a ws
step_stays_as ws h r a e = rw e (refl, sym (stack_words_lem ws h))
