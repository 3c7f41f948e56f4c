-- `listing::feed_entry` and `listing::feed_table` meet their contracts.
use Rattle.std.proofs.Common.{ℕ, ◌+◌, ◌*◌, ◌-◌, ◌<◌, List, ◌≡◌, refl, ap, ◌∙◌, true, arith}
use Rattle.theory.specs.Pool.{words}
use Rattle.words.specs.declared.PoolWord.{PoolWord}
use Rattle.table.specs.declared.Shape.{Shape}
use Rattle.table.specs.Map.{leads}
use Rattle.table.specs.Entries.{block_words}
use Rattle.listing.specs.Sheets.{Sheet, sheet, fed}
use Rattle.listing.specs.Levels.{table_words, entry_right, table_right, EntryAt, TableAt}
use Rattle.listing.proofs.SheetLaws.{along_start, along_end}
use Rattle.listing.proofs.LevelLaws.{whole_table, word_leads, word_stays, entry_inside, entry_table}
use Rattle.listing.proofs.LevelLaws.{rights_fed, leads_fed}
use Rattle.listing.proofs.LevelLaws.{entry_at, entry_room, entry_next, same_next}
use Rattle.listing.proofs.+feed_entry_feed_table.Goals as goal
use Rattle.listing.proofs.+feed_entry_feed_table.Goals.{feed_table-In-loop-i}

-- The entry at pool word `k` leads,
module _ (p : List ℕ) (s : Shape) {h k a i : ℕ} (x : EntryAt p s h k a) (up : 0 < h) (e : i ≡ k)
    (low : words p i < 2147483648) {b : PoolWord} (f : b ≡ record { 0 = words p i }) where
  led : leads h (words p k) ≡ true
  led = rw e at (word_leads h (words p i) up low)

  -- to where its word says,
  there : b.0 ≡ words p k
  there = ap (λ y. y.0) f ∙ ap (words p) e

  -- and there is a table for the same words, by which they are fed.
  below : TableAt p s (h - 1) b.0 a
  below = rw there (entry_table p s h k a x up led)

  whole : (u : Sheet) → fed (table_words (h - 1)) (table_right s p (h - 1) b.0) a u
      ≡ fed (block_words h) (entry_right s p h k) a u
  whole u = rw there (leads_fed p s h k a x up led u)

pub feed_entry-bounds-pool-index : goal.feed_entry-bounds-pool-index
feed_entry-bounds-pool-index t c = omega (arith, entry_inside _ _ c.requires.height_nonzero.1.entry)

pub feed_entry-feed_rights-requires : goal.feed_entry-feed_rights-requires
feed_entry-feed_rights-requires t c =
    let x = c.requires.height_nonzero.1.entry in
    record { height_value = (x.aligned, x.inside); open_at = c.requires.open_at }

pub feed_entry-returns-then-w-ge-BIT_31 : goal.feed_entry-returns-then-w-ge-BIT_31
feed_entry-returns-then-w-ge-BIT_31 t c x k =
    let a = c.args in
    let e = c.index.ensures in
    let l = word_stays a.height (words a.pool.now c.index.result) c.requires.height_nonzero.0
    c.if-w-ge-BIT_31.true in
    c.feed_rights.ensures ∙ rw e (rights_fed a.pool.now x a.height a.entry.0 _ _ (rw e at l))

pub feed_entry-feed_leaf-requires : goal.feed_entry-feed_leaf-requires
feed_entry-feed_leaf-requires t c =
    let z : c.args.height - 1 ≡ 0 = omega (arith, c.if-height-eq1.true) in
    let h = c.requires.height_nonzero in
    record {
      some_table = record {
        shape = _;
        table = rw z at (below _ _ h.1.entry h.0 c.index.ensures c.if-w-ge-BIT_31.false c.from-t.ensures);
      };
      open_at = c.requires.open_at;
    }

pub feed_entry-feed_table-requires : goal.feed_entry-feed_table-requires
feed_entry-feed_table-requires t c =
    let h = c.requires.height_nonzero in (
      omega arith,
      (
        (
          omega (arith, c.if-height-eq1.false),
          record {
            shape = _;
            table = below _ _ h.1.entry h.0 c.index.ensures c.if-w-ge-BIT_31.false c.from-t.ensures;
          },
        ),
        c.requires.open_at,
      ),
    )

pub feed_entry-returns-then-height-eq1 : goal.feed_entry-returns-then-height-eq1
feed_entry-returns-then-height-eq1 t c x k =
    let z : c.args.height - 1 ≡ 0 = omega (arith, c.if-height-eq1.true) in
    let up = c.requires.height_nonzero.0 in
    let i = c.index.ensures in
    let low = c.if-w-ge-BIT_31.false in
    c.feed_leaf.ensures x (rw z at (below _ _ k up i low c.from-t.ensures))
    ∙ (rw z at (whole _ _ k up i low c.from-t.ensures (sheet c.args.run c.args.runs.now)))

pub feed_entry-returns-else-height-eq1 : goal.feed_entry-returns-else-height-eq1
feed_entry-returns-else-height-eq1 t c x k =
    let up = c.requires.height_nonzero.0 in
    let i = c.index.ensures in
    let low = c.if-w-ge-BIT_31.false in
    c.feed_table.ensures x (below _ _ k up i low c.from-t.ensures)
    ∙ whole _ _ k up i low c.from-t.ensures _

pub feed_table-loop-i-init : goal.feed_table-loop-i-init
feed_table-loop-i-init t c = ((λ x k. along_start _ _ _ _ _ c.requires.open_at), refl)

-- Entry `i` is for its block, which lies in the memory.
stands : (t : ℕ) (c : feed_table-In-loop-i t) → EntryAt c.args.pool.now c.requires.height_nonzero.1.shape c.args.height
    (c.args.base.0 + c.loop-i.i)
    (c.args.at + c.loop-i.i * c.level_of-level.result.block)
stands t c = entry_at _ _ _ _ _ c.requires.height_nonzero.1.table _ c.level_of-level.ensures _ c.loop-i-test.true

pub feed_table-after-entry-requires : goal.feed_table-after-entry-requires
feed_table-after-entry-requires t c =
    let x = stands t c in
    omega (arith, entry_inside _ _ x, x.fits.long, x.fits.range)

pub feed_table-same_ahead-n-requires : goal.feed_table-same_ahead-n-requires
feed_table-same_ahead-n-requires t c =
    let n = c.level_of-level.result.entries in
    let k : n - 1 < n = omega (arith, c.loop-i-test.true) in
    let z = entry_at _ _ _ _ _ c.requires.height_nonzero.1.table _ c.level_of-level.ensures (n - 1) k in
    (omega arith, omega (arith, entry_inside _ _ z, ap (λ x. x.0) c.after-entry.ensures))

pub feed_table-feed_entry-s-requires : goal.feed_table-feed_entry-s-requires
feed_table-feed_entry-s-requires t c =
    let h = c.requires.height_nonzero in
    let x = entry_at _ _ _ _ _ h.1.table _ c.level_of-level.ensures _ c.loop-i-test.true in (
      omega arith,
      (
        (h.0, record { shape = h.1.shape; entry = rw c.after-entry.ensures x }),
        (c.loop-i.invariant.0 _ h.1.table).numbers,
      ),
    )

pub feed_table-overflow_mul-i : goal.feed_table-overflow_mul-i
feed_table-overflow_mul-i t c =
    omega (arith, entry_room _ _ _ _ _ c.requires.height_nonzero.1.table _ c.level_of-level.ensures _ c.loop-i-test.true)

pub feed_table-overflow_add-at : goal.feed_table-overflow_add-at
feed_table-overflow_add-at t c =
    omega (arith, entry_room _ _ _ _ _ c.requires.height_nonzero.1.table _ c.level_of-level.ensures _ c.loop-i-test.true)

pub feed_table-loop-i-preserved-then-n-eq0 : goal.feed_table-loop-i-preserved-then-n-eq0
feed_table-loop-i-preserved-then-n-eq0 t c =
    let w = c.after-entry.ensures in (
      (λ x k. let e = entry_at _ x _ _ _ k _ c.level_of-level.ensures _ c.loop-i-test.true in
          entry_next _ x _ _ _ k _ c.level_of-level.ensures _ c.loop-i-test.true _ _ _ (c.loop-i.invariant.0 x k)
          (c.feed_entry-s.ensures x (rw w e) ∙ rw w refl)),
      omega arith,
    )

pub feed_table-loop-i-preserved : goal.feed_table-loop-i-preserved
feed_table-loop-i-preserved t c =
    let f = c.same_ahead-n.ensures in (
      (λ x k. same_next _ x _ _ _ k _ c.level_of-level.ensures _ _ _ _ _ (omega arith)
          (rw (ap (λ x. x.0) c.after-entry.ensures) at f.1) refl (c.loop-i.invariant.0 x k)),
      omega arith,
    )

pub feed_table-returns : goal.feed_table-returns
feed_table-returns t c x k =
    along_end _ _ _ _ _ _ _ (c.loop-i.invariant.0 x k) c.loop-i-test.false
    ∙ rw (whole_table c.args.height _ c.level_of-level.ensures) refl
