-- What setting and removing a gate mean: which gate is found there and elsewhere afterwards, the order of the others,
-- the count, and what a refusal leaves.
use Prim.Native.Nat.{ℕ, suc, ◌+◌, ◌≤◌, ◌<◌}
use mathlib.Core.Path.{◌≡◌, refl, sym, ap, ◌∙◌}
use mathlib.Core.Logic.{◌⊎◌, inl, inr, ⊎_elim}
use mathlib.Core.Bool.{true}
use mathlib.Core.List.{[], ◌∷◌, ◌++◌}
use native.Mathlib.Numerals.{add-one}
use native.Mathlib.Omega.{arith}
use borrow.Author.Tests.{eqb-true, eqb-false, eq-eqb}
use lib.Dec.{eqb}
use lib.ListN.{length, drop, set}
use lib.Seq.{take-set-lt, take-suc-set, drop-set-lt}
use Rattle.words.specs.declared.ByteAddr.{ByteAddr}
use Rattle.refusals.specs.declared.Refusal.{Refusal}
use Rattle.refusals.specs.declared.Refusal.TheVariants.{GateToItself, GatesFull, NoGate}
use Rattle.gates.specs.declared.Gate.{Gate}
use Rattle.gates.specs.declared.Gate.TheVariants.{Return}
use Rattle.gates.specs.declared.GateAt.{GateAt}
use Rattle.gates.specs.States.{Gates, GatesSet}
use Rattle.std.proofs.Common.{Some, None, Ok, Err, MatchOption}
use Rattle.std.proofs.lemmas.List.Quantifiers.{position-Some}
use Rattle.std.specs.List.{remove}
use Rattle.gates.specs.Gates.{max_gates, no_gate, held, stands_at, place_of, gate_in, gate_of, others, leads_to, set_refused, set_done}
use Rattle.gates.specs.Gates.{stored, set_of, without, remove_of}
use Rattle.theory.proofs.Logic.{by_cases}
use Rattle.gates.proofs.ListLaws.{by_refusal, by_option, fail_set, fail_last, fail_remove, take_closed, drop_closed}
use Rattle.gates.proofs.GateLaws.{refusal, new, place_in_order, place_held, gate_set, gate_last, gate_remove}
use Rattle.gates.proofs.GateLaws.{gate_others, set_refused_lem, set_own, set_replaces, set_full, set_adds}
use Rattle.gates.proofs.GateLaws.{remove_refused, remove_missing, remove_takes_out}

-- Setting a gate.
module _ (D : ℕ) (G : Gates) (d : ℕ) (a : ByteAddr) (x : Gate) where
  abbrev set_result : GatesSet
  set_result = set_of D G d a x

  abbrev g : GateAt
  g = new D G d a x

  -- There is one outcome.
  pub one_set : {q r : GatesSet} → q ≡ set_result → r ≡ set_result → q ≡ r
  one_set p q = p ∙ sym q

  -- Setting is refused, or it replaces a gate, or it adds one.
  data Sets : Type 0 where
    refuses : (n : Refusal) → set_result ≡ set_refused n G → Sets
    replaces : G.count ≤ max_gates → (k : ℕ) → place_of G d a.0 ≡ Some k → set_result ≡ set_done (stored G k g G.count) → Sets
    adds : G.count < max_gates → place_of G d a.0 ≡ None → set_result ≡ set_done (stored G G.count g (G.count + 1)) → Sets

  sets : Sets
  sets =
      by_refusal (refusal D G d a x)
      (λ z. let few = place_in_order D G.count d x a.0 z in
      by_cases (leads_to d x) (λ o. refuses GateToItself (set_own D G d a x z o))
      (λ o. by_option (place_of G d a.0)
      (λ k e. replaces few k e (set_replaces D G d a x z o k e))
      (λ e. by_cases (eqb G.count max_gates)
      (λ f. refuses GatesFull (set_full D G d a x z o e (eqb-true G.count max_gates f)))
      (λ f. let m = eqb-false G.count max_gates f in adds (omega arith) e (set_adds D G d a x z o e m)))))
      (λ n y. refuses n (set_refused_lem D G d a x n y))

  -- A refusal leaves the set as it came.
  pub set_refusal_keeps : (n : Refusal) → set_result.answer ≡ Err n → set_result.gates ≡ G
  set_refusal_keeps n h = keeps sets
    where
      keeps : Sets → set_result.gates ≡ G
      keeps (refuses _ e) = ap (λ r. r.gates) e
      keeps (replaces _ _ _ e) = let q = ap (λ r. r.answer) e in absurd cc
      keeps (adds _ _ e) = let q = ap (λ r. r.answer) e in absurd cc

  -- A gate set, once it is: of an array of 64 places.
  module _ (long : length G.places ≡ max_gates) (done : set_result.answer ≡ Ok tt) where
    abbrev after : Gates
    after = set_result.gates

    -- The gates held are those from before with the new one in the place of the first that stood there, or last.
    held_set : ((k : ℕ) × (place_of G d a.0 ≡ Some k) × (held after ≡ set (held G) k g))
        ⊎ ((place_of G d a.0 ≡ None) × (held after ≡ held G ++ g ∷ []))
    held_set = by sets
      where
        by : Sets → ((k : ℕ) × (place_of G d a.0 ≡ Some k) × (held after ≡ set (held G) k g))
            ⊎ ((place_of G d a.0 ≡ None) × (held after ≡ held G ++ g ∷ []))
        by (refuses n e) = let q = ap (λ r. r.answer) e in absurd cc
        by (replaces f k p e) =
            inl (k, p, ap (λ r. held r.gates) e ∙ take-set-lt G.count G.places k g (place_held G d a.0 (omega arith) k p))
        by (adds f p e) =
            inr (p, ap (λ r. held r.gates) e ∙ rw add-one (take-suc-set G.places G.count g (omega arith)))

    here : stands_at d a.0 g ≡ true
    here = rw (eq-eqb d d refl, eq-eqb a.0 a.0 refl)

    -- The gate found there is the new one.
    pub set_here : gate_of after d a.0 ≡ Some x
    unfolding place_of
    set_here = ⊎_elim (λ (k, p, e). rw e (gate_set d a.0 g here (held G) k p))
        (λ (p, e). rw e (gate_last d a.0 g here (held G) p)) held_set

    -- The others are as before, in their order.
    pub set_others : others d a.0 (held after) ≡ others d a.0 (held G)
    unfolding place_of
    set_others =
        ⊎_elim
        (λ (k, p, e). let (h, q, _) = position-Some (stands_at d a.0) (held G) k g p in
        rw e (fail_set (stands_at d a.0) (held G) k g h q g here))
        (λ (p, e). rw e (fail_last (stands_at d a.0) g here (held G))) held_set

    -- The gate found elsewhere is as before.
    pub set_elsewhere : (d' a' : ℕ) → ((d' ≡ d) × (a' ≡ a.0) → ⊥) → gate_of after d' a' ≡ gate_of G d' a'
    set_elsewhere d' a' h =
        sym (gate_others d a.0 d' a' h (held after)) ∙ ap (gate_in d' a') set_others ∙ gate_others d a.0 d' a' h
        (held G)

    -- The count is as before where a gate stood there, and else one more.
    pub set_count : MatchOption (place_of G d a.0) (after.count ≡ G.count + 1) (λ _. after.count ≡ G.count)
    set_count = by sets
      where
        by : Sets → MatchOption (place_of G d a.0) (after.count ≡ G.count + 1) (λ _. after.count ≡ G.count)
        by (refuses n e) = let q = ap (λ r. r.answer) e in absurd cc
        by (replaces f k p e) = rw p (ap (λ r. r.gates.count) e)
        by (adds f p e) = rw p (ap (λ r. r.gates.count) e)

    -- Places past the count keep what they held.
    pub set_idle : drop after.count after.places ≡ drop after.count G.places
    set_idle = by sets
      where
        by : Sets → drop after.count after.places ≡ drop after.count G.places
        by (refuses n e) = let q = ap (λ r. r.answer) e in absurd cc
        by (replaces f k p e) =
            ap (λ r. drop r.gates.count r.gates.places) e
            ∙ drop-set-lt G.count G.places k g (place_held G d a.0 (omega arith) k p)
            ∙ sym (ap (λ r. drop r.gates.count G.places) e)
        by (adds f p e) =
            ap (λ r. drop r.gates.count r.gates.places) e ∙ drop-set-lt (G.count + 1) G.places
            G.count g (omega arith)
            ∙ sym (ap (λ r. drop r.gates.count G.places) e)

-- Removing a gate.
module _ (D : ℕ) (G : Gates) (d : ℕ) (a : ByteAddr) where
  abbrev remove_result : GatesSet
  remove_result = remove_of D G d a

  -- There is one outcome.
  pub one_remove : {q r : GatesSet} → q ≡ remove_result → r ≡ remove_result → q ≡ r
  one_remove p q = p ∙ sym q

  -- Removing is refused, or it takes out a gate.
  data Removes : Type 0 where
    refuses : (n : Refusal) → remove_result ≡ set_refused n G → Removes
    takes_out : G.count ≤ max_gates → (k : ℕ) → place_of G d a.0 ≡ Some k → remove_result ≡ set_done (without G k) → Removes

  removes : Removes
  removes =
      by_refusal (refusal D G d a Return)
      (λ z. by_option (place_of G d a.0)
      (λ k e. takes_out (place_in_order D G.count d Return a.0 z) k e (remove_takes_out D G d a z k e))
      (λ e. refuses NoGate (remove_missing D G d a z e)))
      (λ n y. refuses n (remove_refused D G d a n y))

  -- A refusal leaves the set as it came.
  pub remove_refusal_keeps : (n : Refusal) → remove_result.answer ≡ Err n → remove_result.gates ≡ G
  remove_refusal_keeps n h = keeps removes
    where
      keeps : Removes → remove_result.gates ≡ G
      keeps (refuses _ e) = ap (λ r. r.gates) e
      keeps (takes_out _ _ _ e) = let q = ap (λ r. r.answer) e in absurd cc

  -- A gate removed, once it is: of an array of 64 places.
  module _ (long : length G.places ≡ max_gates) (done : remove_result.answer ≡ Ok tt) where
    abbrev left : Gates
    left = remove_result.gates

    removed : (k : ℕ) × (G.count ≤ max_gates) × (place_of G d a.0 ≡ Some k) × (remove_result ≡ set_done (without G k))
    removed = by removes
      where
        by : Removes → (k : ℕ) × (G.count ≤ max_gates) × (place_of G d a.0 ≡ Some k) × (remove_result ≡ set_done (without G k))
        by (refuses n e) = let q = ap (λ r. r.answer) e in absurd cc
        by (takes_out f k p e) = (k, f, p, e)

    -- The place that it had.
    pub gone : ℕ
    gone = removed.0

    pub gone_from : place_of G d a.0 ≡ Some gone
    unfolding gone
    gone_from = let (_, _, p, _) = removed in p

    -- The gates held are those from before without the first that stood there: later ones moved down.
    pub held_remove : held left ≡ remove (held G) gone
    unfolding gone
    held_remove =
        let (k, f, p, e) = removed in
        ap (λ r. held r.gates) e
        ∙ take_closed G.count k G.places (omega arith) (place_held G d a.0 (omega arith) k p)

    -- The gate found there is the next one at the same place, or none.
    pub remove_here : gate_of left d a.0 ≡ gate_in d a.0 (drop (suc gone) (held G))
    unfolding place_of
    remove_here = rw held_remove (gate_remove d a.0 (held G) gone gone_from)

    -- The others are as before, in their order.
    pub remove_others : others d a.0 (held left) ≡ others d a.0 (held G)
    unfolding place_of
    remove_others =
        let (h, q, _) = position-Some (stands_at d a.0) (held G) gone no_gate gone_from in
        rw held_remove (fail_remove (stands_at d a.0) (held G) gone no_gate h q)

    -- The gate found elsewhere is as before.
    pub remove_elsewhere : (d' a' : ℕ) → ((d' ≡ d) × (a' ≡ a.0) → ⊥) → gate_of left d' a' ≡ gate_of G d' a'
    remove_elsewhere d' a' h =
        sym (gate_others d a.0 d' a' h (held left)) ∙ ap (gate_in d' a') remove_others
        ∙ gate_others d a.0 d' a' h (held G)

    -- The count is one less.
    pub remove_count : left.count + 1 ≡ G.count
    remove_count =
        let (k, f, p, e) = removed in
        let l = place_held G d a.0 (omega arith) k p in
        let q = ap (λ r. r.gates.count) e in
        omega arith

    -- Places past the count keep what they held.
    pub remove_idle : drop left.count left.places ≡ drop left.count G.places
    remove_idle =
        let (k, f, p, e) = removed in
        let l = place_held G d a.0 (omega arith) k p in
        ap (λ r. drop r.gates.count r.gates.places) e ∙ drop_closed G.count k G.places (omega arith) l
        ∙ sym (ap (λ r. drop r.gates.count G.places) e)
