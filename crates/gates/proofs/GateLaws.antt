-- Laws of gate sets: which gate is found in a list and in a set, and the cases of setting and removing one.
use Prim.Native.Nat.{ℕ, suc, ◌+◌, ◌≤◌, ◌<◌}
use mathlib.Core.Path.{◌≡◌, refl, sym, ap, ◌∙◌}
use mathlib.Core.Bool.{true, false, cond, not, ◌&&◌}
use mathlib.Core.List.{List, [], ◌∷◌, ◌++◌}
use native.Mathlib.Omega.{arith}
use borrow.Author.Tests.{ltb-false, eqb-true, eq-eqb, ne_eqb}
use lib.ListN.{length, get_or, take, drop, set}
use lib.Seq.{get_or-take, length-take-le}
use lib.Dec.{ltb, leb, eqb}
use Rattle.words.specs.declared.ByteAddr.{ByteAddr}
use Rattle.table.specs.Shape.{max_domains}
use Rattle.refusals.specs.declared.Refusal.{Refusal}
use Rattle.refusals.specs.declared.Refusal.TheVariants.{NoShape, BadState, GateToItself, GatesFull, NoGate}
use Rattle.gates.specs.declared.Gate.{Gate}
use Rattle.gates.specs.declared.Gate.TheVariants.{Return}
use Rattle.gates.specs.declared.GateAt.{GateAt}
use Rattle.gates.specs.States.{Gates}
use Rattle.std.proofs.lemmas.List.Folds.{find-set, find-append}
use Rattle.std.specs.List.{find, position, remove}
use Rattle.std.proofs.Common.{Option, Some, None, Result, Ok, Err}
use Rattle.gates.specs.Gates.{max_gates, no_gate, held, stands_at, place_of, gate_in, gate_of, others, leads_to, place_refusal}
use Rattle.gates.specs.Gates.{set_refused, set_done, stored, set_at_place, set_of, without, remove_of}
use Rattle.theory.proofs.Logic.{by_cases, and_both}
use Rattle.gates.proofs.ListLaws.{none_refuses, place_found, found_at_place, none_found, none_before}

-- Nothing is refused of a place: the set holds at most 64 gates.
pub place_in_order : (D n d : ℕ) (x : Gate) (a : ℕ) → place_refusal D n d x a ≡ Ok tt → n ≤ max_gates
unfolding place_refusal
place_in_order D n d x a e =
    let (_, p) = none_refuses (not (leb 1 D && leb D max_domains)) NoShape _ e in
    let (q, _) = none_refuses (ltb max_gates n) BadState _ p in
    ltb-false max_gates n q

stands : (x : GateAt) (d a : ℕ) → stands_at d a x ≡ true → (x.domain ≡ d) × (x.address.0 ≡ a)
stands x d a e =
    let (p, q) = and_both (eqb x.domain d) (eqb x.address.0 a) e in
    (eqb-true x.domain d p, eqb-true x.address.0 a q)

module _ (d a : ℕ) where
  -- The gate found is that of the first place that stands there.
  pub gate_found : (l : List GateAt) (k : ℕ) (g : GateAt) → position (stands_at d a) l ≡ Some k
      → gate_in d a l ≡ Some (get_or l k g).gate
  unfolding gate_in
  gate_found l k g e = rw (found_at_place (stands_at d a) l k g e)

  pub no_gate_found : (l : List GateAt) → position (stands_at d a) l ≡ None → gate_in d a l ≡ None
  unfolding gate_in
  no_gate_found l e = rw (none_found (stands_at d a) l e)

  -- A gate that stands there is found in the place of the first, and after gates that do not.
  pub gate_set : (g : GateAt) → stands_at d a g ≡ true → (l : List GateAt) (k : ℕ) → position (stands_at d a) l ≡ Some k
      → gate_in d a (set l k g) ≡ Some g.gate
  unfolding gate_in
  gate_set g p l k e =
      let (f, h) = place_found (stands_at d a) l k e in
      rw (find-set (stands_at d a) l k g f h p)

  pub gate_last : (g : GateAt) → stands_at d a g ≡ true → (l : List GateAt) → position (stands_at d a) l ≡ None
      → gate_in d a (l ++ g ∷ []) ≡ Some g.gate
  unfolding gate_in
  gate_last g p l e = rw (find-append (stands_at d a) l (g ∷ []), none_found (stands_at d a) l e, p)

  -- Without the first, the next one at the same place is found, or none.
  pub gate_remove : (l : List GateAt) (k : ℕ) → position (stands_at d a) l ≡ Some k
      → gate_in d a (remove l k) ≡ gate_in d a (drop (suc k) l)
  unfolding gate_in
  gate_remove l k e =
      rw (find-append (stands_at d a) (take k l) (drop (suc k) l), none_before (stands_at d a) l k no_gate e)

  -- What is found elsewhere is found among the others.
  module _ (d' a' : ℕ) (elsewhere : (d' ≡ d) × (a' ≡ a) → ⊥) where
    not_both : (x : GateAt) → stands_at d a x ≡ true → stands_at d' a' x ≡ false
    not_both x e =
        let (p, q) = stands x d a e in
        by_cases (stands_at d' a' x) (λ f. let (u, v) = stands x d' a' f in absurd (elsewhere (sym u ∙ p, sym v ∙ q)))
        (λ f. f)

    find_others : (l : List GateAt) → find (stands_at d' a') (others d a l) ≡ find (stands_at d' a') l
    find_others [] = refl
    find_others (x ∷ l) =
        by_cases (stands_at d a x) (λ e. rw (e, not_both x e) (find_others l))
        (λ e. rw e (ap (cond (stands_at d' a' x) (Some x)) (find_others l)))

    pub gate_others : (l : List GateAt) → gate_in d' a' (others d a l) ≡ gate_in d' a' l
    unfolding gate_in
    gate_others l = rw (find_others l)

-- The same of a set.
module _ (G : Gates) (d a : ℕ) where
  pub no_gate_at : place_of G d a ≡ None → gate_of G d a ≡ None
  unfolding place_of
  no_gate_at e = no_gate_found d a (held G) e

  module _ (long : G.count ≤ length G.places) where
    pub held_long : length (held G) ≡ G.count
    held_long = length-take-le G.count G.places long

    pub place_held : (k : ℕ) → place_of G d a ≡ Some k → k < G.count
    unfolding place_of
    place_held k e = let n = held_long in let (f, h) = place_found (stands_at d a) (held G) k e in omega arith

    pub gate_at_lem : (k : ℕ) (g : GateAt) → place_of G d a ≡ Some k → gate_of G d a ≡ Some (get_or G.places k g).gate
    unfolding place_of
    gate_at_lem k g e =
        gate_found d a (held G) k g e
        ∙ ap (λ (x : GateAt). Some x.gate) (get_or-take G.count G.places k g (place_held k e))

-- The cases of setting a gate.
module _ (D : ℕ) (G : Gates) (d : ℕ) (a : ByteAddr) (x : Gate) where
  abbrev pub refusal : Result (Unit {0}) Refusal
  refusal = place_refusal D G.count d x a.0

  abbrev pub place : Option ℕ
  place = place_of G d a.0

  abbrev pub new : GateAt
  new = record { domain = d; address = a; gate = x }

  pub set_refused_lem : (n : Refusal) → refusal ≡ Err n → set_of D G d a x ≡ set_refused n G
  unfolding set_of
  set_refused_lem n h = rw h

  pub set_own : refusal ≡ Ok tt → leads_to d x ≡ true → set_of D G d a x ≡ set_refused GateToItself G
  unfolding set_of set_at_place
  set_own h o = rw (h, o)

  pub set_replaces : refusal ≡ Ok tt → leads_to d x ≡ false → (k : ℕ) → place ≡ Some k → set_of D G d a x
      ≡ set_done (stored G k new G.count)
  unfolding set_of set_at_place
  set_replaces h o k e = rw (h, o, e)

  pub set_full : refusal ≡ Ok tt → leads_to d x ≡ false → place ≡ None → G.count ≡ max_gates → set_of D G d a x
      ≡ set_refused GatesFull G
  unfolding set_of set_at_place
  set_full h o e f = rw (h, o, e, eq-eqb G.count max_gates f)

  pub set_adds : refusal ≡ Ok tt → leads_to d x ≡ false → place ≡ None → (G.count ≡ max_gates → ⊥)
      → set_of D G d a x ≡ set_done (stored G G.count new (G.count + 1))
  unfolding set_of set_at_place
  set_adds h o e f = rw (h, o, e, ne_eqb G.count max_gates f)

-- The cases of removing a gate.
module _ (D : ℕ) (G : Gates) (d : ℕ) (a : ByteAddr) where
  pub remove_refused : (n : Refusal) → refusal D G d a Return ≡ Err n → remove_of D G d a ≡ set_refused n G
  unfolding remove_of
  remove_refused n h = rw h

  pub remove_missing : refusal D G d a Return ≡ Ok tt → place_of G d a.0 ≡ None → remove_of D G d a ≡ set_refused NoGate G
  unfolding remove_of
  remove_missing h e = rw (h, e)

  pub remove_takes_out : refusal D G d a Return ≡ Ok tt → (k : ℕ) → place_of G d a.0 ≡ Some k
      → remove_of D G d a ≡ set_done (without G k)
  unfolding remove_of
  remove_takes_out h k e = rw (h, e)
