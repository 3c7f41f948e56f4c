-- Laws of steps: the cases, the domain of the check, and what a step does to the depth, the frames in use and the
-- current domain.
use Prim.Native.Nat.{ℕ, ◌+◌, ◌≤◌, ◌<◌}
use mathlib.Core.Path.{◌≡◌, refl, sym, ap, ◌∙◌}
use mathlib.Core.Bool.{Bool, true, false, cond}
use mathlib.Core.List.{List}
use mathlib.Core.Logic.{⊎_elim}
use native.Mathlib.Nat.{eq-or-lt_of_le}
use native.Mathlib.Omega.{arith}
use borrow.Author.Tests.{ltb-true, eqb-true, eqb-false}
use lib.Dec.{ltb, eqb}
use lib.ListN.{length, get_or, take, drop, length-set}
use lib.Seq.{take-set-le, drop-set-lt, get_or-set_same, get_or-set_other}
use Rattle.words.specs.declared.ByteAddr.{ByteAddr}
use Rattle.table.specs.declared.Shape.{Shape}
use Rattle.table.specs.declared.Deciding.{Deciding}
use Rattle.table.specs.Lookup.{lookup_of}
use Rattle.refusals.specs.declared.Refusal.{Refusal}
use Rattle.refusals.specs.declared.Refusal.TheVariants.{StackFull, StackEmpty, OtherReturn}
use Rattle.gates.specs.declared.Gate.{Gate}
use Rattle.gates.specs.declared.Gate.TheVariants.{Switch, Return}
use Rattle.std.proofs.Common.{Option, Some, None, Result, Ok, Err}
use Rattle.gates.specs.declared.Stepped.{Stepped}
use Rattle.gates.specs.declared.Stepped.TheVariants.{Pass, Deny}
use Rattle.gates.specs.States.{Gates, CallStack, Step}
use Rattle.gates.specs.Gates.{gate_of}
use Rattle.gates.specs.Steps.{max_depth, no_frame, in_use, top, pushed, popped, step_refusal, step_refused, step_passed, verdict}
use Rattle.gates.specs.Steps.{fetch_of, on_pass, switch_step, given_back, gate_step, step_of}
use Rattle.gates.specs.Moves.{Moves, stays, calls, returns}
use Rattle.theory.proofs.Logic.{by_cases}
use Rattle.gates.proofs.ListLaws.{by_refusal}

module _ (p : List ℕ) (s : Shape) (G : Gates) (k : CallStack) (a t : ByteAddr) where
  abbrev pub refusal : Result (Unit {0}) Refusal
  refusal = step_refusal (length p) s G k a.0 t.0

  pub step_refused_lem : (n : Refusal) → refusal ≡ Err n → step_of p s G k a t ≡ step_refused n k
  unfolding step_of
  step_refused_lem n h = rw h

  pub step_by_gate : refusal ≡ Ok tt → {g : Option Gate} → gate_of G k.current a.0 ≡ g → step_of p s G k a t
      ≡ gate_step (fetch_of p s a.0) k t g
  unfolding step_of
  step_by_gate h e = rw (h, e)

  pub one_step : {q r : Step} → q ≡ step_of p s G k a t → r ≡ step_of p s G k a t → q ≡ r
  one_step x y = x ∙ sym y

module _ (t : ByteAddr) (k : CallStack) where
  on_pass_lem : (v : Result Stepped Refusal) {r : Step} → Moves t k r → Moves t k (on_pass v k r)
  on_pass_lem (Ok Pass) m = m
  on_pass_lem (Ok Deny) m = stays (Ok Deny)
  on_pass_lem (Err n) m = stays (Err n)

  switch_moves : (v : ℕ → Result Stepped Refusal) (e : ℕ) → Moves t k (switch_step v k e t)
  unfolding switch_step
  switch_moves v e =
      by_cases (ltb k.depth max_depth) (λ l. rw l (on_pass_lem (v e) (calls e (ltb-true k.depth max_depth l))))
      (λ l. rw l (stays (Err StackFull)))

  give_back_moves : Moves t k (given_back k t)
  unfolding given_back
  give_back_moves =
      by_cases (eqb k.depth 0) (λ z. rw z (stays (Err StackEmpty)))
      (λ z. let n = eqb-false k.depth 0 z in
      by_cases (eqb (top k).back.0 t.0) (λ b. rw (z, b)
      (returns (omega arith) (eqb-true (top k).back.0 t.0 b)))
      (λ b. rw (z, b) (stays (Err OtherReturn))))

  gate_moves : (v : ℕ → Result Stepped Refusal) (h : Option Gate) → Moves t k (gate_step v k t h)
  gate_moves v None = stays (v k.current)
  gate_moves v (Some (Switch e)) = switch_moves v e
  gate_moves v (Some Return) = on_pass_lem (v k.current) give_back_moves

-- Whatever is handed in, a step is one of the three moves.
pub step_moves : (p : List ℕ) (s : Shape) (G : Gates) (k : CallStack) (a t : ByteAddr) → Moves t k (step_of p s G k a t)
step_moves p s G k a t =
    by_refusal (refusal p s G k a t)
    (λ y. rw (step_by_gate p s G k a t y refl)
    (gate_moves t k (fetch_of p s a.0) (gate_of G k.current a.0)))
    (λ n y. rw (step_refused_lem p s G k a t n y) (stays (Err n)))

-- The domain in which a step checks the fetch.
abbrev pub checked_in : CallStack → Option Gate → ℕ
checked_in k None = k.current
checked_in k (Some (Switch e)) = e
checked_in k (Some Return) = k.current

abbrev Unrefused : Result Stepped Refusal → Type 0
Unrefused w = (n : Refusal) → w ≡ Err n → ⊥

module _ (t : ByteAddr) (k : CallStack) where
  verdict_on : (w : Result Stepped Refusal) (r : Step) → (Unrefused r.answer → r.answer ≡ Ok Pass)
      → Unrefused (on_pass w k r).answer → w ≡ (on_pass w k r).answer
  verdict_on (Ok Pass) r f h = sym (f h)
  verdict_on (Ok Deny) r f h = refl
  verdict_on (Err n) r f h = refl

  switch_verdict : (b : Bool) (w : Result Stepped Refusal) (e : ℕ)
      → let r = cond b (on_pass w k (step_passed (pushed k e t))) (step_refused StackFull k) in
      Unrefused r.answer → w ≡ r.answer
  switch_verdict true w e h = verdict_on w (step_passed (pushed k e t)) (λ _. refl) h
  switch_verdict false w e h = absurd (h StackFull refl)

  give_back_passes : (b c : Bool) → let r = cond b (step_refused StackEmpty k)
      (cond c (step_passed (popped k)) (step_refused OtherReturn k)) in
      Unrefused r.answer → r.answer ≡ Ok Pass
  give_back_passes true c h = absurd (h StackEmpty refl)
  give_back_passes false true h = refl
  give_back_passes false false h = absurd (h OtherReturn refl)

  gate_verdict : (v : ℕ → Result Stepped Refusal) (g : Option Gate) → Unrefused (gate_step v k t g).answer → v (checked_in k g)
      ≡ (gate_step v k t g).answer
  unfolding switch_step given_back
  gate_verdict v None h = refl
  gate_verdict v (Some (Switch e)) h = switch_verdict (ltb k.depth max_depth) (v e) e h
  gate_verdict v (Some Return) h =
      verdict_on (v k.current) (given_back k t) (give_back_passes (eqb k.depth 0) (eqb (top k).back.0 t.0)) h

-- A step that is not refused answers what the fetch answers in the domain in which it is checked.
pub step_verdict : (p : List ℕ) (s : Shape) (G : Gates) (k : CallStack) (a t : ByteAddr)
    → ((n : Refusal) → (step_of p s G k a t).answer ≡ Err n → ⊥)
    → fetch_of p s a.0 (checked_in k (gate_of G k.current a.0)) ≡ (step_of p s G k a t).answer
step_verdict p s G k a t h =
    by_refusal (refusal p s G k a t)
    (λ y. let e = ap (λ r. r.answer) (step_by_gate p s G k a t y refl) in
    gate_verdict t k (fetch_of p s a.0) (gate_of G k.current a.0) (λ n q. h n (e ∙ q)) ∙ sym e)
    (λ n y. absurd (h n (ap (λ r. r.answer) (step_refused_lem p s G k a t n y))))

-- A fetch passes exactly where the lookup finds the right 3.
pub fetch_passes : (p : List ℕ) (s : Shape) (a d : ℕ) → fetch_of p s a d ≡ Ok Pass → (x : Deciding)
    × (lookup_of p s d a ≡ Ok x) × (x.right ≡ 3)
unfolding fetch_of
fetch_passes p s a d = by (lookup_of p s d a)
  where
    by : (f : Result Deciding Refusal) → verdict f ≡ Ok Pass → (x : Deciding) × (f ≡ Ok x) × (x.right ≡ 3)
    by (Ok y) e =
        by_cases (eqb y.right 3) (λ q. (y, refl, eqb-true y.right 3 q))
        (λ q. absurd (cc (rw q at e)))
    by (Err m) e = absurd cc

pub fetch_on_3 : (p : List ℕ) (s : Shape) (a d : ℕ) (x : Deciding) → lookup_of p s d a ≡ Ok x → x.right ≡ 3
    → fetch_of p s a d ≡ Ok Pass
unfolding fetch_of
fetch_on_3 p s a d x e q = rw (e, q)

module _ {t : ByteAddr} {k : CallStack} where
  -- A deny or a refusal leaves the current domain and the stack as they were.
  pub moves_unless_pass : {r : Step} → Moves t k r → (r.answer ≡ Ok Pass → ⊥) → r.stack ≡ k
  moves_unless_pass (stays r) h = refl
  moves_unless_pass (calls e l) h = absurd (h refl)
  moves_unless_pass (returns l b) h = absurd (h refl)

  -- So does a step that leaves the depth.
  pub moves_level : {r : Step} → Moves t k r → r.stack.depth ≡ k.depth → r.stack ≡ k
  moves_level (stays r) h = refl
  moves_level (calls e l) h = absurd (omega arith)
  moves_level (returns l b) h = absurd (omega arith)

  -- The depth goes up or down by at most one, and not above 16.
  pub moves_near : {r : Step} → Moves t k r → (r.stack.depth ≤ k.depth + 1) × (k.depth ≤ r.stack.depth + 1)
  moves_near (stays r) = omega arith
  moves_near (calls e l) = omega arith
  moves_near (returns l b) = omega arith

  pub moves_low : {r : Step} → Moves t k r → k.depth ≤ max_depth → r.stack.depth ≤ max_depth
  moves_low (stays r) h = h
  moves_low (calls e l) h = omega arith
  moves_low (returns l b) h = omega arith

  pub moves_long : {r : Step} → Moves t k r → length r.stack.frames ≡ length k.frames
  moves_long (stays r) = refl
  moves_long (calls e l) = length-set k.frames k.depth _
  moves_long (returns l b) = refl

  -- Frames in use before and after keep their words.
  pub moves_frames : {r : Step} → Moves t k r → (n : ℕ) → n ≤ k.depth → take n r.stack.frames ≡ take n k.frames
  moves_frames (stays r) n h = refl
  moves_frames (calls e l) n h = take-set-le n k.frames k.depth _ h
  moves_frames (returns l b) n h = refl

  -- Frames past the depth keep theirs.
  pub moves_idle : {r : Step} → Moves t k r → drop r.stack.depth r.stack.frames ≡ drop r.stack.depth
      k.frames
  moves_idle (stays r) = refl
  moves_idle (calls e l) = drop-set-lt (k.depth + 1) k.frames k.depth _ (omega arith)
  moves_idle (returns l b) = refl

  -- A call's frame holds the domain that was current and the target.
  pub moves_deeper : {r : Step} → Moves t k r → length k.frames ≡ max_depth → k.depth < r.stack.depth
      → get_or r.stack.frames k.depth no_frame ≡ record { domain = k.current; back = t }
  moves_deeper (stays r) n h = absurd (omega arith)
  moves_deeper (calls e l) n h = get_or-set_same k.frames k.depth _ no_frame (omega arith)
  moves_deeper (returns l b) n h = absurd (omega arith)

  -- A return goes to the address and the domain of the frame that it frees.
  pub moves_back : {r : Step} → Moves t k r → r.stack.depth < k.depth
      → (r.stack.current ≡ (get_or k.frames r.stack.depth no_frame).domain)
      × ((get_or k.frames r.stack.depth no_frame).back.0 ≡ t.0)
  moves_back (stays r) h = absurd (omega arith)
  moves_back (calls e l) h = absurd (omega arith)
  moves_back (returns l b) h = (refl, b)

-- The stack `k` comes from the stack `start` by steps that never go below its depth: the frames then in use are still
-- there, and at that depth the current domain is the one first current, as the first frame above it says.
pub record Inside (start k : CallStack) : Type 0 where
  pub above : start.depth ≤ k.depth
  pub frames : take start.depth k.frames ≡ in_use start
  pub level : k.depth ≡ start.depth → k.current ≡ start.current
  pub deeper : start.depth < k.depth → (get_or k.frames start.depth no_frame).domain ≡ start.current

pub inside_start : (k : CallStack) → Inside k k
inside_start k = record { above = omega arith; frames = refl; level = λ e. refl; deeper = λ l. absurd (omega arith) }

pub inside_step : {start k : CallStack} {t : ByteAddr} {r : Step} → length k.frames ≡ max_depth → Inside start k
    → Moves t k r
    → start.depth ≤ r.stack.depth → Inside start r.stack
inside_step n i (stays r) h = i
inside_step {start} {k} {t} n i (calls e l) h = record {
  above = h;
  frames = take-set-le start.depth k.frames k.depth _ i.above ∙ i.frames;
  level = λ q. let m = i.above in absurd (omega arith);
  deeper = λ m. ⊎_elim
      (λ q. ap (λ j. (get_or (pushed k e t).frames j no_frame).domain) q
      ∙ ap (λ f. f.domain) (get_or-set_same k.frames k.depth (record { domain = k.current; back = t }) no_frame
      (omega arith)) ∙ i.level (sym q))
      (λ q. ap (λ f. f.domain) (get_or-set_other k.frames k.depth start.depth _ no_frame (λ z. omega arith))
      ∙ i.deeper q)
      (eq-or-lt_of_le i.above);
}
inside_step {start} {k} n i (returns l b) h = record {
  above = h;
  frames = i.frames;
  level = λ q. ap (λ j. (get_or k.frames j no_frame).domain) q ∙ i.deeper (omega arith);
  deeper = λ m. i.deeper (omega arith);
}

-- At the depth of the start, the frames in use and the current domain are those of the start.
pub inside_home : {start k : CallStack} → Inside start k → k.depth ≡ start.depth → (in_use k ≡ in_use start)
    × (k.current ≡ start.current)
inside_home {start} {k} i e = (ap (λ n. take n k.frames) e ∙ i.frames, i.level e)
