-- The one loop: how it begins, goes on from a store to the next, and ends.
use Prim.Native.Nat.{ℕ, ◌+◌, ◌-◌}
use mathlib.Core.Path.{◌≡◌, sym, ◌∙◌}
use mathlib.Core.Logic.{◌≢◌}
use mathlib.Core.Bool.{Bool, true, false, false≢true}
use mathlib.Core.List.{List}
use native.Mathlib.Omega.{arith}
use lib.ListN.{length, set, length-set}
use Rattle.std.proofs.Common.{Option, Some, None, is_some}
use Rattle.theory.specs.Pool.{words}
use Rattle.table.specs.declared.Shape.{Shape}
use Rattle.table.specs.Shape.{Fits}
use Rattle.plan.specs.Aims.{Aim}
use Rattle.change.specs.declared.Ending.TheVariants.{Done, Cut}
use Rattle.change.specs.declared.Cursor.{Cursor}
use Rattle.change.specs.declared.Store.{Store}
use Rattle.change.specs.Runs.{Work}
use Rattle.change.specs.Runs.{Change, Tidying}
use Rattle.change.specs.Cuts.{differing, Due}
use Rattle.change.specs.Runs.{At, Meant, Run, Stands, Follows, Told, Stores, Wanted, NextIs, NextIn}
use Rattle.change.specs.Runs.{start, Ready, Ends, all_made, cut_short}
use Rattle.change.proofs.State.{at_due, at_store}
use Rattle.change.proofs.StateLaws.{at_begin}
use Rattle.change.proofs.OutcomeLaws.{outcome_done, outcome_cut}
use Rattle.change.proofs.TidyAimLaws.{owners_now}

-- Between two stores of the work on `old`, which was told the owners `o`.
pub record Midst (s : Shape) (o : List ℕ) (A : Aim) (w : Work) (old : List ℕ) (n : ℕ) (from : Cursor)
    (x : List ℕ) (left : ℕ) : Type 0 where
  pub fits : Fits s (length x)
  pub goal : ℕ → ℕ
  pub kept : ℕ → Bool
  pub meant : Meant s A w old goal kept
  pub at : At s A old goal kept n from.phase from.word.0 x left
  pub follows : Follows w from (length x)
  pub told : Told s w o old

pub midst_begin : {s : Shape} {o : List ℕ} {A : Aim} {w : Work} {x : List ℕ} (n : ℕ)
    → Ready s A w x → Told s w o x
    → Midst s o A w x n start x n
midst_begin n r t = record {
  fits = r.fits;
  goal = r.goal;
  kept = r.kept;
  meant = r.meant;
  at = at_begin n r.due;
  follows = r.follows;
  told = t;
}

-- What the work was told still holds.
told_now : (s : Shape) (o : List ℕ) (A : Aim) (w : Work) (old : List ℕ) (Q : ℕ → ℕ) (kept : ℕ → Bool)
    (n : ℕ) (from : Cursor) (x : List ℕ) (left : ℕ)
    → Fits s (length x) → Meant s A w old Q kept → Follows w from (length x) → At s A old Q kept n
    from.phase from.word.0 x left
    → Told s w o old → Told s w o x
told_now s o A (Change q) old Q kept n from x left f m h a t = tt
told_now s o A Tidying old Q kept n from x left f m h a t = owners_now f t (rw (h, m) at a)

-- Where every run comes to word `i` of phase `c`, its next store is the one from there on.
module _ {s : Shape} {w : Work} {x : List ℕ} {b m c i : ℕ}
    (comes : (u : Run s w) → Stands s w u b m x → Stands s w u c i x) where
  wanted_from : {k v : ℕ} {on : Cursor} → Wanted s w x c i k v on → Wanted s w x b m k v on
  wanted_from f = record { inside = f.inside; word = f.word; follows = f.follows; stores = λ u a. f.stores u (comes u a) }

  -- What is found before word `to` is the next store ..
  pub found_next : (to : ℕ) (r : Option Store) → true ≡ is_some r → NextIn s w x c i to r → NextIs s w x b m r
  found_next to (Some t) e f = wanted_from f
  found_next to None e f = absurd (false≢true (sym e))

  -- .. and that before any later word.
  pub found_in : (to end : ℕ) (r : Option Store) → true ≡ is_some r → NextIn s w x c i to r → NextIn s w x b m end r
  found_in to end (Some t) e f = wanted_from f
  found_in to end None e f = absurd (false≢true (sym e))

  -- Where nothing is found, every run comes to that word.
  pub passes_on : (to : ℕ) (r : Option Store) → false ≡ is_some r → NextIn s w x c i to r → (u : Run s w)
      → Stands s w u b m x → Stands s w u c to x
  passes_on to (Some t) e f = absurd (false≢true e)
  passes_on to None e f = λ u a. f u (comes u a)

none_left : {s : Shape} {A : Aim} {old : List ℕ} {Q : ℕ → ℕ} {kept : ℕ
    → Bool} {n c k : ℕ} {x : List ℕ} {left : ℕ} → left ≡ 0
    → At s A old Q kept n c k x left → At s A old Q kept n c k x 0
none_left z a = rw z at a

module _ {s : Shape} {o : List ℕ} {A : Aim} {w : Work} {old : List ℕ} {n : ℕ} {from : Cursor} {x :
    List ℕ} {left : ℕ}
    (m : Midst s o A w old n from x left) where
  pub midst_told : Told s w o x
  midst_told = told_now s o A w old m.goal m.kept n from x left m.fits m.meant m.follows m.at
      m.told

  abbrev run : Run s w
  run = record {
    aim = A;
    old = old;
    goal = m.goal;
    kept = m.kept;
    allowance = n;
    left = left;
    meant = m.meant;
  }

  -- There is no store to make.
  module _ (e : NextIs s w x from.phase from.word.0 None) where
    made : left + differing old x ≡ n
    made = rw m.at.cut.count m.at.sum

    pub ends_done : Ends old s A n (Done (n - left)) x
    ends_done =
        let z = made in
        let y : n - left ≡ differing old x = omega arith in
        rw y (all_made x (outcome_done s A old m.goal m.kept x n left m.at.goal m.at.cut.long
        (e run m.at) made))

  -- There is one.
  module _ {k v : ℕ} {on : Cursor} (e : Wanted s w x from.phase from.word.0 k v on) where
    here : Stores s w run x on.phase k v
    here = e.stores run m.at

    moves : m.goal k ≢ words x k
    moves z = here.differs (sym z ∙ sym here.value)

    pub ends_cut : left ≡ 0 → Ends old s A n Cut x
    ends_cut z = cut_short x (outcome_cut s A old m.goal m.kept n on.phase k x (none_left z here.at)
        e.inside moves)

    -- It is due,
    pub next_due : Due s A x k v
    next_due = rw here.value (at_due here.at e.inside moves here.phase)

    -- and is made.
    pub midst_on : left ≢ 0 → Midst s o A w old n on (set x k v) (left - 1)
    midst_on z = record {
      fits = rw (length-set x k v) m.fits;
      goal = m.goal;
      kept = m.kept;
      meant = m.meant;
      at = rw (e.word, here.value) (at_store here.at (left - 1) (omega (arith, z)) e.inside moves
          here.phase);
      follows = rw (length-set x k v) e.follows;
      told = m.told;
    }
