-- A series of calls on the words of a gate set or of a call stack is a series on the state: the words that a call
-- leaves say the state that the definition leaves. No gate of a set that words say, or that a call makes of one, is a
-- switch to 0xFFFFFFFF, which is the one gate without a word. Assumes nothing.
use Prim.Native.Nat.{ℕ, suc, ◌+◌, ◌-◌, ◌*◌, ◌≤◌, ◌<◌}
use mathlib.Core.Path.{◌≡◌, refl, ◌∙◌}
use mathlib.Core.Bool.{Bool, true, false, cond, not, ◌&&◌}
use mathlib.Core.List.{List}
use native.Mathlib.Omega.{arith}
use borrow.Author.Tests.{ltb-true, ltb-false, leb-true, ne_eqb, not-false}
use lib.Dec.{eqb, ltb, leb}
use lib.ListN.{length, get_or, take, drop, length-append, length-drop, length-set}
use lib.Seq.{length-take-le}
use Rattle.words.specs.declared.ByteAddr.{ByteAddr}
use Rattle.table.specs.declared.Shape.{Shape}
use Rattle.table.specs.Shape.{max_domains}
use Rattle.theory.proofs.Logic.{by_cases, and_both}
use Rattle.std.proofs.Common.{Option, Some, None, Ok}
use Rattle.std.proofs.lemmas.List.Edits.{length-remove}
use Rattle.std.proofs.lemmas.List.Elements.{All-append, All-take, All-drop, All-set, All-from_get_or}
use Rattle.std.specs.List.{All, remove}
use Rattle.refusals.specs.declared.Refusal.TheVariants.{NoShape, NoDomain, BadState}
use Rattle.gates.specs.declared.Gate.{Gate}
use Rattle.gates.specs.declared.Gate.TheVariants.{Switch, Return}
use Rattle.gates.specs.declared.GateAt.{GateAt}
use Rattle.gates.specs.States.{Gates, CallStack, Step}
use Rattle.gates.specs.Gates.{max_gates, no_gate, place_of, leads_below, leads_to, place_refusal}
use Rattle.gates.specs.Gates.{stored, set_in, set_at_place, set_of, without, remove_of}
use Rattle.gates.specs.Steps.{step_of}
use Rattle.gates.specs.Moves.{Moves, stays, calls, returns}
use Rattle.gates.specs.Layout.{return_word, gate_said, gates_of, gates_words, stack_of, stack_words}
use Rattle.gates.proofs.ListLaws.{none_refuses, by_refusal, by_option}
use Rattle.gates.proofs.GateLaws.{place_held}
use Rattle.gates.proofs.StepLaws.{step_moves}
use Rattle.gates.proofs.LayoutLaws.{has_word, gates_said, gates_at, gates_again, frames_said, stack_again}

-- A gate with its place that has words.
abbrev pub RealAt : GateAt → Type 0
RealAt g = has_word g.gate ≡ true

gate_real : (w : ℕ) → has_word (gate_said w) ≡ true
gate_real w = go (eqb w return_word) refl
  where
    go : (t : Bool) → eqb w return_word ≡ t → has_word (cond t Return (Switch w)) ≡ true
    go true e = refl
    go false e = rw e

-- A set of 64 such gates.
pub record HasWords (G : Gates) : Type 0 where
  pub long : length G.places ≡ 64
  pub real : All RealAt G.places

pub words_say : (G : Gates) → HasWords G → gates_of (gates_words G) ≡ G
words_say G h = let n = h.long in gates_again G h.long (λ i l. h.real i no_gate (omega arith))

pub read_words : (ws : List ℕ) → HasWords (gates_of ws)
read_words ws = record {
  long = gates_said ws;
  real = let n = gates_said ws in
      All-from_get_or RealAt (gates_of ws).places no_gate
      (λ i h. rw (gates_at ws i (omega arith)) (gate_real (get_or ws (3 * i + 2) 0)));
}

stored_real : (G : Gates) (k : ℕ) (g : GateAt) (n : ℕ) → HasWords G → RealAt g → HasWords (stored G k g n)
stored_real G k g n h r =
    record { long = length-set G.places k g ∙ h.long; real = All-set RealAt G.places k g r h.real }

placed_real : (G : Gates) (g : GateAt) (o : Option ℕ) → HasWords G → RealAt g → HasWords (set_in G g o).gates
placed_real G g (Some k) h r = stored_real G k g G.count h r
placed_real G g None h r =
    by_cases (eqb G.count max_gates) (λ e. rw e h) (λ e. rw e (stored_real G G.count g (G.count + 1) h r))

-- What is not refused: at most 64 gates are held, and the gate has a word.
below_real : (D : ℕ) (x : Gate) → D ≤ max_domains → leads_below D x ≡ true → has_word x ≡ true
below_real D Return small e = refl
below_real D (Switch d) small e =
    rw (ne_eqb d return_word (λ z. let l = ltb-true d D e in omega arith))

in_order : (D n d : ℕ) (x : Gate) (a : ℕ) → place_refusal D n d x a ≡ Ok tt → (n ≤ 64) × (has_word x ≡ true)
unfolding place_refusal
in_order D n d x a e =
    let (p, e1) = none_refuses (not (leb 1 D && leb D max_domains)) NoShape _ e in
    let (q, e2) = none_refuses (ltb max_gates n) BadState _ e1 in
    let (r, e3) = none_refuses (not (ltb d D && leads_below D x)) NoDomain _ e2 in
    let small = leb-true D max_domains (and_both (leb 1 D) (leb D max_domains) (not-false _ p)).1 in
    let below = (and_both (ltb d D) (leads_below D x) (not-false _ r)).1 in
    let few = ltb-false max_gates n q in
    (few, below_real D x small below)

set_real : (D : ℕ) (G : Gates) (d : ℕ) (a : ByteAddr) (x : Gate) → HasWords G → HasWords (set_of D G d a x).gates
unfolding set_of set_at_place
set_real D G d a x h =
    by_refusal (place_refusal D G.count d x a.0)
    (λ e. by_cases (leads_to d x) (λ o. rw (e, o) h)
    (λ o. rw (e, o) (placed_real G (record { domain = d; address = a; gate = x }) (place_of G d a.0) h
    (in_order D G.count d x a.0 e).1)))
    (λ n e. rw e h)

without_real : (G : Gates) (k : ℕ) → G.count ≤ 64 → k < G.count → HasWords G → HasWords (without G k)
without_real G k few l h =
    let xs = take G.count G.places in
    let m = h.long in
    let n = length-take-le G.count G.places (omega arith) in
    let i = length-remove xs k (omega arith) in
    let o = length-drop (G.count - 1) G.places in
    let z = All-take RealAt G.count G.places h.real in
    record {
      long = length-append (remove xs k) (drop (G.count - 1) G.places) ∙ omega arith;
      real = All-append RealAt (remove xs k) (drop (G.count - 1) G.places)
          (All-append RealAt (take k xs) (drop (suc k) xs) (All-take RealAt k xs z) (All-drop RealAt (suc k) xs z))
          (All-drop RealAt (G.count - 1) G.places h.real);
    }

remove_real : (D : ℕ) (G : Gates) (d : ℕ) (a : ByteAddr) → HasWords G → HasWords (remove_of D G d a).gates
unfolding remove_of
remove_real D G d a h =
    by_refusal (place_refusal D G.count d Return a.0)
    (λ e. let (few, _) = in_order D G.count d Return a.0 e in
    let long = h.long in
    by_option (place_of G d a.0)
    (λ k p. rw (e, p) (without_real G k few (place_held G d a.0 (omega arith) k p) h))
    (λ p. rw (e, p) h))
    (λ n e. rw e h)

pub set_says : (D : ℕ) (ws : List ℕ) (d : ℕ) (a : ByteAddr) (x : Gate)
    → let G = (set_of D (gates_of ws) d a x).gates in gates_of (gates_words G) ≡ G
set_says D ws d a x = words_say (set_of D (gates_of ws) d a x).gates (set_real D (gates_of ws) d a x (read_words ws))

pub remove_says : (D : ℕ) (ws : List ℕ) (d : ℕ) (a : ByteAddr) → let G = (remove_of D (gates_of ws) d a).gates in gates_of
    (gates_words G) ≡ G
remove_says D ws d a = words_say (remove_of D (gates_of ws) d a).gates (remove_real D (gates_of ws) d a (read_words ws))

-- A step keeps the number of frames.
moved_frames : {t : ByteAddr} {k : CallStack} {r : Step} → Moves t k r → length r.stack.frames ≡ length k.frames
moved_frames (stays r) = refl
moved_frames {k = k} (calls e l) = length-set k.frames k.depth _
moved_frames (returns l b) = refl

pub step_says : (p : List ℕ) (s : Shape) (G : Gates) (ws : List ℕ) (a t : ByteAddr)
    → let k = (step_of p s G (stack_of ws) a t).stack in stack_of (stack_words k) ≡ k
step_says p s G ws a t = stack_again (step_of p s G (stack_of ws) a t).stack
    (moved_frames (step_moves p s G (stack_of ws) a t) ∙ frames_said ws)
