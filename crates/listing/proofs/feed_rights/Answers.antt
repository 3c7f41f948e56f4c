-- `listing::feed_rights` meets its contract. The loop's invariant: the words of the parts passed were fed, and the
-- right turns at the next.
use Prim.Native.Nat.{◌+◌, ◌*◌, ◌-◌, ◌≤◌, ◌<◌}
use mathlib.Core.Path.{◌≡◌, refl, sym, ap, ◌∙◌}
use mathlib.Core.Logic.{◌≢◌}
use native.Mathlib.Omega.{arith}
use Rattle.words.specs.Rights.{right_at}
use Rattle.table.specs.Entries.{block_words}
use Rattle.listing.specs.Levels.{entry_says}
use Rattle.listing.specs.Sheets.{sheet, feed, turned}
use Rattle.listing.proofs.SheetLaws.{Along, along_start, along_end, feed_leaves, feed_turns}
use Rattle.listing.proofs.LevelLaws.{part_room, few_parts, some_parts, whole_block, stretch_next}
use Rattle.listing.proofs.feed_rights.Goals as goal
use Rattle.listing.proofs.feed_rights.Goals.{After-feed_right-s, In-loop-i}

-- The first stretch was fed.
began : (f : After-feed_right-s)
    → Along (entry_says f.args.height f.args.w) f.level_of-level.result.parts f.level_of-level.result.step
    f.args.at (sheet f.args.run f.args.runs.now) (f.stretch_at-begin.result.last + 1)
    (sheet f.feed_right-s.result f.feed_right-s.new.runs)
began f =
    let u = sheet f.args.run f.args.runs.now in
    let x = f.stretch_at-begin.ensures.1 in
    let z : f.args.at + 0 * f.level_of-level.result.step ≡ f.args.at = omega arith in
    let k = f.feed_right-s.ensures ∙ ap (λ q. feed q f.args.at u) f.stretch_at-begin.ensures.0
    ∙ ap (λ m. feed (right_at f.args.w 0) m u) (sym z) in
    let o : 0 + f.stretch_at-begin.result.last ≡ f.stretch_at-begin.result.last = omega arith in
    rw o at (stretch_next f.args.height _ _ _ u 0 u _ f.level_of-level.ensures f.requires.height_value.0
    (along_start _ _ _ _ u f.requires.open_at) k f.stretch_at-begin.result.last (omega (arith, x.high_end))
    (λ j lo hi. x.one j (omega (arith, x.from)) (omega arith)))

-- After it the right turns.
turning : (f : After-feed_right-s)
    → f.stretch_at-begin.result.last + 1 < f.level_of-level.result.parts
    → right_at f.args.w (f.stretch_at-begin.result.last + 1) ≢ f.feed_right-s.result.right
turning f h e =
    f.stretch_at-begin.ensures.1.after h (e ∙ ap (λ t. t.run.right) f.feed_right-s.ensures
    ∙ feed_leaves _ _ _ ∙ f.stretch_at-begin.ensures.0)

-- Part `i` lies in the block.
inside : (c : In-loop-i)
    → c.loop-i.i * c.level_of-level.result.step + c.level_of-level.result.step
    ≤ block_words c.args.height
inside c =
    part_room c.args.height _ c.level_of-level.ensures _ c.loop-i-test.true

pub stretch_at-begin-requires : goal.stretch_at-begin-requires
stretch_at-begin-requires c = let h = c.args.height in
    (some_parts h _ c.level_of-level.ensures, few_parts h _ c.level_of-level.ensures)

pub feed_right-s-requires : goal.feed_right-s-requires
feed_right-s-requires c = record {
  at_le_memory_words = omega (arith, c.requires.height_value);
  open_at = c.requires.open_at;
}

pub overflow_add-i : goal.overflow_add-i
overflow_add-i c = omega (arith, c.stretch_at-begin.ensures.1.high_end)

pub loop-i-init : goal.loop-i-init
loop-i-init c = ((λ u l. l), refl, turning (goal.at.loop-i-init c).After-feed_right-s)

pub stretch_at-around-requires : goal.stretch_at-around-requires
stretch_at-around-requires c = (c.loop-i-test.true, few_parts c.args.height _ c.level_of-level.ensures)

pub overflow_mul-i : goal.overflow_mul-i
overflow_mul-i c = omega (arith, inside (goal.at.overflow_mul-i c).In-loop-i)

pub overflow_add-at : goal.overflow_add-at
overflow_add-at c = omega (arith, inside (goal.at.overflow_add-at c).In-loop-i, c.requires.height_value)

pub turn_to-s-requires : goal.turn_to-s-requires
turn_to-s-requires c = record {
  at_le_memory_words = omega (arith, inside (goal.at.turn_to-s-requires c).In-loop-i, c.requires.height_value);
  open_at = (c.loop-i.invariant.0 _ (began (goal.at.turn_to-s-requires c).After-feed_right-s)).numbers;
}

pub overflow_add-i-in-loop-i : goal.overflow_add-i-in-loop-i
overflow_add-i-in-loop-i c = omega (
  arith,
  c.stretch_at-around.ensures.1.high_end,
  few_parts c.args.height _ c.level_of-level.ensures,
)

pub loop-i-smaller : goal.loop-i-smaller
loop-i-smaller c = let x = c.stretch_at-around.ensures.1 in
    omega (arith, x.upto, x.high_end)

pub loop-i-preserved : goal.loop-i-preserved
loop-i-preserved c = let l = c.loop-i in
    let x = c.stretch_at-around.ensures.1 in
    let n = c.stretch_at-around.result.last - l.i in
    let z : c.stretch_at-around.result.last ≡ l.i + n = omega (arith, x.upto) in
    let t = c.turn_to-s.ensures in
    let a = c.args.at + l.i * c.level_of-level.result.step in
    let other : right_at c.args.w l.i ≢ l.s.right = l.invariant.2 c.loop-i-test.true in
    let k = t ∙ ap (λ q. turned q a (sheet l.s l.runs)) c.stretch_at-around.ensures.0
    ∙ sym (feed_turns (right_at c.args.w l.i) a (sheet l.s l.runs) other) in (
      (λ u y. rw z (stretch_next c.args.height _ _ _ u _ _ _ c.level_of-level.ensures c.requires.height_value.0 (l.invariant.0 u y) k
          n
          (omega (arith, x.high_end)) (λ j lo hi. x.one j (omega (arith, x.from)) (omega arith)))),
      omega arith,
      λ h r. x.after h (r ∙ ap (λ y. y.run.right) t ∙ c.stretch_at-around.ensures.0),
    )

pub returns : goal.returns
returns c = along_end _ _ _ _ _ _ _ (c.loop-i.invariant.0 _ (began (goal.at.returns c).After-feed_right-s)) c.loop-i-test.false
    ∙ rw (whole_block c.args.height _ c.level_of-level.ensures) refl
