-- Who alters a right: through any calls only the supervisor and callers whom the list allows; a domain that owns
-- nothing never alters its own rights, and with no export no right at all.
use Prim.Native.Nat.{ℕ, ◌/◌, ◌<◌}
use mathlib.Core.Path.{◌≡◌, refl, sym, ap, ◌∙◌}
use mathlib.Core.Logic.{◌≢◌, ◌⊎◌, inl, inr, ⊎_elim}
use mathlib.Core.Bool.{true, false≢true}
use mathlib.Core.List.{List}
use native.Mathlib.Omega.{arith}
use Rattle.std.specs.Prelude.{Result, Ok, Err}
use Rattle.refusals.specs.declared.Refusal.{Refusal}
use Rattle.theory.specs.Pool.{words, right_of}
use Rattle.theory.proofs.Logic.{by_cases}
use Rattle.words.specs.Region.{region_of, covered}
use Rattle.words.specs.declared.Region.{Region}
use Rattle.words.proofs.RegionLaws.{covered_range, region_covering}
use Rattle.table.specs.declared.Shape.{Shape}
use Rattle.table.specs.Map.{addresses, form_of}
use Rattle.plan.specs.Aims.{Aim}
use Rattle.plan.proofs.AimLaws.{covers_change}
use Rattle.change.specs.declared.Ending.{Ending}
use Rattle.change.specs.declared.Ending.TheVariants.{Done, Cut}
use Rattle.owners.specs.Regions.{Disjoint}
use Rattle.owners.specs.Rules.{may_word}
use Rattle.owners.specs.Changes.{ChangesBy}
use Rattle.owners.proofs.MayLaws.{not_its_own, not_at_all, makes_nothing, passes_nothing, gives_nothing}
use Rattle.owners.proofs.ByLaws.{asked_region, by_either}
use Rattle.owners.proofs.DisjointLaws.{make_stays_disjoint, pass_stays_disjoint, give_stays_disjoint}
use Rattle.demands.specs.Series.{aim_in, change, change_by, tidy, make, pass, give}
use Rattle.demands.specs.Watched.{altered}
use Rattle.demands.specs.Callers.{Calls, SetIn, by_supervisor, by_caller, earlier, OwnsNone, NoExport, OwnCalls}
use Rattle.demands.specs.Callers.{changed, tidied, made, passed, gave}
use Rattle.demands.proofs.WatchedLaws.{change_same, tidy_same}

-- The right of an address for a domain is the same in two pools.
abbrev Same : Shape → List ℕ → List ℕ → ℕ → ℕ → Type 0
Same s p q e a = right_of (form_of s) (words q) e a ≡ right_of (form_of s) (words p) e a

-- An aim alters only what it covers.
altered_covers : (c : Result Ending Refusal) (A : Aim) (e a : ℕ) → altered c A e a ≡ true → A.covers e a ≡ true
altered_covers (Ok (Done k)) A e a z = z
altered_covers (Ok Cut) A e a z = z
altered_covers (Err k) A e a z = absurd (false≢true z)

-- A change covers words of its region in its own domain alone.
aim_domain : (x : Result Region Refusal) (d r e a : ℕ) → (aim_in x d r).covers e a ≡ true → e ≡ d
aim_domain (Ok g) d r e a z = (covers_change d g r e a z).0
aim_domain (Err k) d r e a z = absurd (false≢true z)

aim_word : (start len d r e a : ℕ) {g : Region} → region_of start len ≡ Ok g
    → (aim_in (region_of start len) d r).covers e a ≡ true → covered g a ≡ true
aim_word start len d r e a {g} z w = (covers_change d g r e a (rw z at w)).1

-- A change by a caller alters a right of the domain that it names alone, where it was done or cut, and on words on
-- which the caller may set it.
pub by_word : {s : Shape} {p list q : List ℕ} {caller d start len r n : ℕ} {c : Result Ending Refusal}
    → ChangesBy p s list caller d start len r n c q → (e a : ℕ) → e < s.domains → a < addresses
    → (right_of (form_of s) (words q) e a ≡ right_of (form_of s) (words p) e a)
    ⊎ ((e ≡ d) × (altered c (aim_in (region_of start len) d r) e a ≡ true) × (may_word list caller d r (a / 4) ≡ true))
by_word {s} {p} {list} {caller = caller} {d} {start} {len} {r} {c = c} y e a be ba =
    ⊎_elim
    (λ (g, z, o, x). by_cases (altered c (aim_in (region_of start len) d r) e a)
    (λ w.
    let v = altered_covers c (aim_in (region_of start len) d r) e a w in
    let (lo, hi) = covered_range g a
    (aim_word start len d r e a (asked_region p s list caller d start len r z) v) in
    inr (aim_domain (region_of start len) d r e a v, w, o (a / 4) lo hi))
    (λ w. inl (sym (change_same x e a be ba w))))
    (λ (k, _, f). inl (ap (λ x. right_of (form_of s) (words x) e a) f))
    (by_either y)

-- Through any calls, from any pool and any list, a word's right for a domain alters only by the supervisor's own change
-- or by that of a caller who may set it on that word, by the list of that moment.
pub alters_allowed : {s : Shape} {p list q m : List ℕ} (x : Calls s p list q m) (e a : ℕ) → e < s.domains
    → a < addresses → (right_of (form_of s) (words q) e a ≡ right_of (form_of s) (words p) e a) ⊎ SetIn e a q m x
alters_allowed Calls.none e a be ba = inl refl
alters_allowed (Calls.then x (change {d = d} {start} {len} {r} {c = c} y)) e a be ba =
    ⊎_elim
    (λ same. by_cases (altered c (aim_in (region_of start len) d r) e a)
    (λ w.
    let v = altered_covers c (aim_in (region_of start len) d r) e a w in
    let z = aim_domain (region_of start len) d r e a v in
    inr (rw z (by_supervisor x y (rw z at w))))
    (λ w. inl (sym (change_same y e a be ba w) ∙ same)))
    (λ z. inr (earlier (change y) z))
    (alters_allowed x e a be ba)
alters_allowed (Calls.then x (change_by y)) e a be ba =
    ⊎_elim
    (λ same. ⊎_elim
    (λ z. inl (z ∙ same))
    (λ (z, w, may). inr (rw z (by_caller x y (rw z at w) may)))
    (by_word y e a be ba))
    (λ z. inr (earlier (change_by y) z))
    (alters_allowed x e a be ba)
alters_allowed (Calls.then x (tidy y)) e a be ba =
    ⊎_elim
    (λ same. inl (sym (tidy_same y e a be ba refl) ∙ same))
    (λ z. inr (earlier (tidy y) z))
    (alters_allowed x e a be ba)
alters_allowed (Calls.then x (make D caller owner start len)) e a be ba =
    ⊎_elim inl (λ z. inr (earlier (make D caller owner start len) z)) (alters_allowed x e a be ba)
alters_allowed (Calls.then x (pass D caller owner start len)) e a be ba =
    ⊎_elim inl (λ z. inr (earlier (pass D caller owner start len) z)) (alters_allowed x e a be ba)
alters_allowed (Calls.then x (give D caller receiver right start len)) e a be ba =
    ⊎_elim inl (λ z. inr (earlier (give D caller receiver right start len) z)) (alters_allowed x e a be ba)

-- Through any calls the regions stay disjoint where they were.
pub calls_disjoint : {s : Shape} {p list q m : List ℕ} → Calls s p list q m → Disjoint list → Disjoint m
calls_disjoint Calls.none d = d
calls_disjoint (Calls.then x (change y)) d = calls_disjoint x d
calls_disjoint (Calls.then x (change_by y)) d = calls_disjoint x d
calls_disjoint (Calls.then x (tidy y)) d = calls_disjoint x d
calls_disjoint (Calls.then {m = m} x (make D caller owner start len)) d =
    make_stays_disjoint D m caller owner start len (calls_disjoint x d)
calls_disjoint (Calls.then {m = m} x (pass D caller owner start len)) d =
    pass_stays_disjoint D m caller owner start len (calls_disjoint x d)
calls_disjoint (Calls.then {m = m} x (give D caller receiver right start len)) d =
    give_stays_disjoint D m caller receiver start len (calls_disjoint x d) right

-- Whoever may set a right of a domain that owns no region, and is not 0, is another.
pub set_by_another : (list : List ℕ) (k : ℕ) → k ≢ 0 → OwnsNone list k → (caller r w : ℕ)
    → may_word list caller k r w ≡ true → caller ≢ k
set_by_another list k other Owns-none caller r w may e =
    false≢true (sym (not_its_own list k other Owns-none r w) ∙ rw e at may)

-- Of a domain other than 0 that owns no region:
module _ {list : List ℕ} {k : ℕ} (other : k ≢ 0) (Owns-none : OwnsNone list k) where
  -- Whatever it asks for, and with whatever exports, no change of it alters its own rights; in any pool.
  pub never_its_own : {s : Shape} {p q : List ℕ} {d start len r n : ℕ} {c : Result Ending Refusal}
      → ChangesBy p s list k d start len r n c q → (a : ℕ) → a < addresses → k < s.domains
      → right_of (form_of s) (words q) k a ≡ right_of (form_of s) (words p) k a
  never_its_own {r = r} y a ba bk =
      ⊎_elim
      (λ same. same)
      (λ (z, _, may). absurd (false≢true (sym (not_its_own list k other Owns-none r (a / 4)) ∙ rw (← z) at may)))
      (by_word y k a bk ba)

  -- With no export either, it changes nothing.
  pub nothing_at_all : NoExport list k → {s : Shape} {p q : List ℕ} {d start len r n : ℕ} {c : Result Ending Refusal}
      → ChangesBy p s list k d start len r n c q → q ≡ p
  nothing_at_all no_export {s} {p} {d = d} {start} {len} {r} y =
      ⊎_elim
      (λ (g, z, o, _).
      let some = (region_covering start len g (asked_region p s list k d start len r z)).some in
      let may : may_word list k d r g.lo ≡ true = o g.lo (omega arith) some in
      absurd (false≢true (sym (not_at_all list k other Owns-none no_export d r g.lo) ∙ may)))
      (λ (_, _, f). f)
      (by_either y)

  -- Whatever calls it makes, the list stays as it was.
  own_list : {s : Shape} {p q m : List ℕ} → OwnCalls s k p list q m → m ≡ list
  own_list OwnCalls.none = refl
  own_list (changed x y) = own_list x
  own_list (tidied x y) = own_list x
  own_list (made {m = m} x D owner start len) =
      let e = own_list x in makes_nothing m k other (rw e Owns-none) D owner start len ∙ e
  own_list (passed {m = m} x D owner start len) =
      let e = own_list x in passes_nothing m k other (rw e Owns-none) D owner start len ∙ e
  own_list (gave {m = m} x D receiver right start len) =
      let e = own_list x in gives_nothing m k other (rw e Owns-none) D receiver right start len ∙ e

  own_rights : {s : Shape} {p q m : List ℕ} → OwnCalls s k p list q m → (a : ℕ) → k < s.domains → a < addresses
      → Same s p q k a
  own_rights OwnCalls.none a bk ba = refl
  own_rights (changed x y) a bk ba = never_its_own (rw (own_list x) at y) a ba bk ∙ own_rights x a bk ba
  own_rights (tidied x y) a bk ba = sym (tidy_same y k a bk ba refl) ∙ own_rights x a bk ba
  own_rights (made x D owner start len) a bk ba = own_rights x a bk ba
  own_rights (passed x D owner start len) a bk ba = own_rights x a bk ba
  own_rights (gave x D receiver right start len) a bk ba = own_rights x a bk ba

  -- A domain that holds exports only never alters its own rights, whatever calls it makes, nor the list.
  pub exports_only : {s : Shape} {p q m : List ℕ} → OwnCalls s k p list q m
      → (m ≡ list) × ((a : ℕ) → k < s.domains → a < addresses
      → right_of (form_of s) (words q) k a ≡ right_of (form_of s) (words p) k a)
  exports_only x = (own_list x, own_rights x)

  all_rights : NoExport list k → {s : Shape} {p q m : List ℕ} → OwnCalls s k p list q m → (e a : ℕ) → e < s.domains
      → a < addresses → Same s p q e a
  all_rights n OwnCalls.none e a be ba = refl
  all_rights n {s} (changed x y) e a be ba =
      ap (λ z. right_of (form_of s) (words z) e a) (nothing_at_all n (rw (own_list x) at y)) ∙ all_rights n x e a be ba
  all_rights n (tidied x y) e a be ba = sym (tidy_same y e a be ba refl) ∙ all_rights n x e a be ba
  all_rights n (made x D owner start len) e a be ba = all_rights n x e a be ba
  all_rights n (passed x D owner start len) e a be ba = all_rights n x e a be ba
  all_rights n (gave x D receiver right start len) e a be ba = all_rights n x e a be ba

  -- One that holds nothing alters nothing: no right of any domain, and not the list.
  pub holds_nothing : NoExport list k → {s : Shape} {p q m : List ℕ} → OwnCalls s k p list q m
      → (m ≡ list) × ((e a : ℕ) → e < s.domains → a < addresses
      → right_of (form_of s) (words q) e a ≡ right_of (form_of s) (words p) e a)
  holds_nothing n x = (own_list x, all_rights n x)
