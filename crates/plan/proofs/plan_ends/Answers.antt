-- `plan::plan_ends` meets its contract.
use Prim.Native.Nat.{ℕ, suc, ◌+◌, ◌-◌, ◌/◌, ◌<◌}
use mathlib.Core.Path.{◌≡◌, sym, subst, ap, ◌∙◌}
use mathlib.Core.Bool.{Bool, true, false}
use Rattle.std.specs.Prelude.{Option}
use mathlib.Core.List.{List}
use native.Mathlib.Numerals.{add-one}
use Rattle.theory.specs.Pool.{words, right_of}
use Rattle.table.specs.declared.Shape.{Shape}
use Rattle.table.specs.Map.{block, form_of}
use Rattle.plan.specs.declared.Edge.{Edge}
use Rattle.plan.specs.Plan.{edge_word, edge_in, put_edge}
use Rattle.plan.specs.Planning.{Regular, first_of, last_of}
use Rattle.targets.specs.declared.Paint.{Paint}
use Rattle.places.specs.Count.{heights}
use Rattle.plan.specs.Edges.{edge_at, TakesPlace}
use Rattle.plan.proofs.DraftLaws.{words_bytes, pool_root, pool_gives}
use Rattle.plan.proofs.EndsLaws.{one_planned, first_full, two_planned}
use Rattle.plan.proofs.plan_ends.Goals as goal

-- How many memory words the blocks have.
module _ (h : ℕ) {m : ℕ} (e : m ≡ block (h + 1) / 4) where
  long : m ≡ block (suc h) / 4
  long = e ∙ ap (λ k. block k / 4) (add-one h)

  -- The ends of the region, in blocks.
  module _ (p : Paint) (r : Regular p) (b : h < heights) where
    begins : p.lo / m ≡ first_of h p
    begins = ap (λ n. p.lo / n) long ∙ sym (words_bytes p r h b).0

    ends : (p.hi - 1) / m ≡ last_of h p
    ends = ap (λ n. (p.hi - 1) / n) long ∙ sym (words_bytes p r h b).1

-- Where the words of the edges begin.
module _ (h : ℕ) {f l : ℕ} (x : f ≡ edge_word h true) (y : l ≡ edge_word h false) where
  -- The first edge is stored once more, where the last edge has its words.
  copied : (m : List ℕ) {n : List ℕ} {d : Edge} → d ≡ edge_in m f → n ≡ put_edge m l d
      → n ≡ put_edge m (edge_word h false) (edge_in m (edge_word h true))
  copied m z e = e ∙ ap (put_edge m l) z ∙ ap (λ i. put_edge m i (edge_in m f)) y
      ∙ ap (λ i. put_edge m (edge_word h false) (edge_in m i)) x

-- An edge is drafted and stored: said of the word and the block that are told.
drafted : (edge : ℕ → Edge) (l : List ℕ) {m : List ℕ} {i j n o : ℕ} {d : Edge} → i ≡ j → n ≡ o → d ≡ edge n
    → m ≡ put_edge l i d → m ≡ put_edge l j (edge o)
drafted edge l {i = i} {j} {n} x y z e =
    e ∙ ap (put_edge l i) z ∙ ap (λ k. put_edge l k (edge n)) x ∙ ap (λ k. put_edge l j (edge k)) y

-- A place is taken at the words that are told.
takes_at : {f : ℕ → Bool} {c : ℕ} {z : Shape} {h i j : ℕ} {l m : List ℕ} {r : Option ℕ} → i ≡ j
    → TakesPlace f c z h i l m r
    → TakesPlace f c z h j l m r
takes_at {f} {c} {z} {h} {l = l} {m = m} {r = r} x t = subst (λ k. TakesPlace f c z h k l m r) x t

pub draft_edge-first-requires-clause-readable_root : goal.draft_edge-first-requires-clause-readable_root
draft_edge-first-requires-clause-readable_root c = let (_, domain, _) = c.requires.height_lt_heights in
    pool_root c.args.shape c.args.pool.now c.args.domain c.requires.fits c.requires.settled domain

pub draft_edge-last-requires-clause-readable_root : goal.draft_edge-last-requires-clause-readable_root
draft_edge-last-requires-clause-readable_root c = let (_, domain, _) = c.requires.height_lt_heights in
    pool_root c.args.shape c.args.pool.now c.args.domain c.requires.fits c.requires.settled domain

-- Both edges are one.
pub returns-then-begin-end : goal.returns-then-begin-end
returns-then-begin-end c =
    let a = c.args in
    let P = words a.pool.now in
    let edge : ℕ → Edge = edge_at P a.domain a.paint (right_of (form_of a.shape) P a.domain) a.height in
    let pre = c.requires in
    let (low, domain, r) = pre.height_lt_heights in
    let f = c.edge_index-f.ensures in
    let l = c.edge_index-l.ensures in
    let b = begins c.args.height c.block_words-long.ensures a.paint r low in
    let e = ends c.args.height c.block_words-long.ensures a.paint r low in
    let d = c.draft_edge-first.ensures _ (pool_gives a.shape (words a.pool.now) a.domain) in
    rw c.is_some.ensures (
    one_planned a.pool.now a.shape a.owners.now a.domain a.paint pre.fits pre.settled pre.owners domain r a.height low
    a.plan.now c.put_edge.new.plan c.told-plan (drafted edge a.plan.now f b d c.put_edge.ensures)
    c.put_edge-then-begin-end.new.plan c.take_place-next.new.plan c.put_edge-then-begin-end-2.new.plan
    (sym b ∙ c.if-begin-end.true ∙ e)
    (drafted edge c.put_edge.new.plan l b d c.put_edge-then-begin-end.ensures)
    c.take_place-next.result
    (takes_at f c.take_place-next.ensures)
    (copied a.height f l c.take_place-next.new.plan c.edge_in.ensures c.put_edge-then-begin-end-2.ensures))

pub returns-in_default : goal.returns-in_default
returns-in_default c =
    let a = c.args in
    let P = words a.pool.now in
    let edge : ℕ → Edge = edge_at P a.domain a.paint (right_of (form_of a.shape) P a.domain) a.height in
    let pre = c.requires in
    let (low, domain, r) = pre.height_lt_heights in
    let f = c.edge_index-f.ensures in
    let l = c.edge_index-l.ensures in
    let b = begins c.args.height c.block_words-long.ensures a.paint r low in
    let e = ends c.args.height c.block_words-long.ensures a.paint r low in
    let g = pool_gives a.shape (words a.pool.now) a.domain in
    first_full a.pool.now a.shape a.owners.now a.domain a.paint pre.fits pre.settled pre.owners domain r a.height low
    a.plan.now c.put_edge.new.plan c.told-plan
    (drafted edge a.plan.now f b (c.draft_edge-first.ensures _ g) c.put_edge.ensures) _ _
    (λ z. c.if-begin-end.false (b ∙ z ∙ sym e))
    (drafted edge c.put_edge.new.plan l e (c.draft_edge-last.ensures _ g) c.put_edge-2.ensures)
    (takes_at f c.in_default.ensures)

-- The last edge takes its place after the first.
pub returns : goal.returns
returns c =
    let a = c.args in
    let P = words a.pool.now in
    let edge : ℕ → Edge = edge_at P a.domain a.paint (right_of (form_of a.shape) P a.domain) a.height in
    let pre = c.requires in
    let (low, domain, r) = pre.height_lt_heights in
    let f = c.edge_index-f.ensures in
    let l = c.edge_index-l.ensures in
    let b = begins c.args.height c.block_words-long.ensures a.paint r low in
    let e = ends c.args.height c.block_words-long.ensures a.paint r low in
    let g = pool_gives a.shape (words a.pool.now) a.domain in
    rw c.is_some-2.ensures (
    two_planned a.pool.now a.shape a.owners.now a.domain a.paint pre.fits pre.settled pre.owners domain r a.height low
    a.plan.now c.put_edge.new.plan c.told-plan
    (drafted edge a.plan.now f b (c.draft_edge-first.ensures _ g) c.put_edge.ensures) _ _
    (λ z. c.if-begin-end.false (b ∙ z ∙ sym e))
    (drafted edge c.put_edge.new.plan l e (c.draft_edge-last.ensures _ g) c.put_edge-2.ensures)
    _ c.in-Some.next (takes_at f c.in-Some.ensures)
    c.take_place-2.result (takes_at l c.take_place-2.ensures))
