-- Who alters a right: calls between any two moments, by all callers or by one domain alone.
use Rattle.std.specs.Prelude.{ℕ, ◌/◌, ◌<◌, ◌≡◌, ◌≢◌, true, false, List, Result}
use Rattle.refusals.specs.declared.Refusal.{Refusal}
use Rattle.words.specs.Region.{region_of}
use Rattle.table.specs.declared.Shape.{Shape}
use Rattle.change.specs.declared.Ending.{Ending}
use Rattle.change.specs.Answers.{Changes, Tidies}
use Rattle.owners.specs.Regions.{region_at, count_of}
use Rattle.owners.specs.Rules.{exports, may_word}
use Rattle.owners.specs.Calls.{make_of, pass_of, give_of}
use Rattle.owners.specs.Changes.{ChangesBy}
use Rattle.demands.specs.Series.{Deed, aim_in, Call, change, change_by}
use Rattle.demands.specs.Watched.{altered}

-- Calls, one after the other, from the pool `p` and the list of owned regions to a later pool and list. The pool may
-- hold any words to begin with.
pub data Calls (s : Shape) (p list : List ℕ) : List ℕ → List ℕ → Type 0 where
  none : Calls s p list p list
  then : {q m r l : List ℕ} {e : Deed} → Calls s p list q m → Call s q m e r l → Calls s p list r l

-- Among the calls is a change, done or cut, that covers the address `a` of domain `e`: the supervisor's own; or one by
-- a caller who may set that right on that word, by the list of that moment.
pub data SetIn {s : Shape} {p list : List ℕ} (e a : ℕ) : (q m : List ℕ) → Calls s p list q m → Type 0 where
  by_supervisor : {q m t : List ℕ} {start len r n : ℕ} {c : Result Ending Refusal} (x : Calls s p list q m)
      (y : Changes q s e start len r n c t) → altered c (aim_in (region_of start len) e r) e a ≡ true
      → SetIn e a t m (then x (change y))
  by_caller : {q m t : List ℕ} {caller start len r n : ℕ} {c : Result Ending Refusal} (x : Calls s p list q m)
      (y : ChangesBy q s m caller e start len r n c t) → altered c (aim_in (region_of start len) e r) e a ≡ true
      → may_word m caller e r (a / 4) ≡ true → SetIn e a t m (then x (change_by y))
  earlier : {q m r l : List ℕ} {d : Deed} {x : Calls s p list q m} (y : Call s q m d r l) → SetIn e a q m x
      → SetIn e a r l (then x y)

-- The domain `k` owns no region held.
abbrev pub OwnsNone : List ℕ → ℕ → Type 0
OwnsNone list k = (i : ℕ) → i < count_of list → (region_at list i).owner ≢ k

-- The domain `k` has no export of a region held.
abbrev pub NoExport : List ℕ → ℕ → Type 0
NoExport list k = (i : ℕ) → i < count_of list → exports (region_at list i) k ≡ false

-- All that the domain `k` may do by itself, as often as it likes: changes, for any domain; regions made, passed on and
-- given exports of. Tidyings, which set no right, may stand anywhere.
pub data OwnCalls (s : Shape) (k : ℕ) (p list : List ℕ) : List ℕ → List ℕ → Type 0 where
  none : OwnCalls s k p list p list
  changed : {q m t : List ℕ} {d start len r n : ℕ} {c : Result Ending Refusal} → OwnCalls s k p list q m
      → ChangesBy q s m k d start len r n c t → OwnCalls s k p list t m
  tidied : {q m t : List ℕ} {n : ℕ} {c : Result Ending Refusal} → OwnCalls s k p list q m → Tidies q s n c t
      → OwnCalls s k p list t m
  made : {q m : List ℕ} → OwnCalls s k p list q m → (D owner start len : ℕ)
      → OwnCalls s k p list q (make_of D m k owner start len).list
  passed : {q m : List ℕ} → OwnCalls s k p list q m → (D owner start len : ℕ)
      → OwnCalls s k p list q (pass_of D m k owner start len).list
  gave : {q m : List ℕ} → OwnCalls s k p list q m → (D receiver right start len : ℕ)
      → OwnCalls s k p list q (give_of D m k receiver right start len).list
