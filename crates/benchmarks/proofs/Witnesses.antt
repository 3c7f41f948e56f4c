-- What the promises suppose is met.
use mathlib.Core.Path.{refl}
use native.Mathlib.Omega.{arith}
use Rattle.theory.specs.Walk.{walk}
use Rattle.table.specs.Access.{store}
use Rattle.lookaside.specs.Slots.{Buffer, empty_buffer, first_match, matches, holds_for, holds, in_block}
use Rattle.lookaside.specs.Agree.{nowhere}
use Rattle.lookaside.specs.Check.{refusal_of, check_of}
use Rattle.demands.specs.Watched.{Watched, emptied, checked}
use Rattle.demands.proofs.WatchedLaws.{watched_sees}
use Rattle.benchmarks.specs.Rows.{shape, needless}
use Rattle.benchmarks.specs.Witnesses.{SomeSound, SomeBuffer, Met}
use Rattle.benchmarks.proofs.RowLaws.{in_range_lem, listed}
use Rattle.benchmarks.proofs.PageLaws.{after}
use Rattle.benchmarks.proofs.PageRows.{leaf_pool}
use Rattle.benchmarks.proofs.TidyRow.{needless_sound, needless_unsettled, needless_long}
use Rattle.benchmarks.proofs.CutWitness.{some_cut, some_series}
use Rattle.benchmarks.proofs.DueWitness.{some_give, some_fill, some_link}
use Rattle.benchmarks.proofs.StaleWitness.{some_stale, some_tidied}
use Rattle.benchmarks.proofs.TidyWitness.{some_tidy_cut}
use Rattle.benchmarks.proofs.TwoDomains.{some_settled}
use Rattle.benchmarks.proofs.CallerWitness.{some_owner, some_export, some_not_allowed, some_set_in, some_nobody}
use Rattle.benchmarks.proofs.CallerWitness.{some_disjoint}

some_sound : SomeSound
some_sound = record {
  shape = shape 1 0;
  pool = needless 0;
  fits = record { range = in_range_lem 1 0 (omega arith) (omega arith); long = needless_long 0 };
  sound = needless_sound 0;
  unsettled = needless_unsettled 0;
}

-- A store at 0x1000 has filled the first slot with the leaf entry of row 2.
abbrev used : Buffer
used = (check_of leaf_pool (shape 1 1) empty_buffer 0 store 4 0x1000).buffer

used_watched : Watched (shape 1 1) leaf_pool used nowhere
used_watched = checked (emptied leaf_pool) 0 store 4 0x1000

some_buffer : SomeBuffer
unfolding check_of refusal_of empty_buffer first_match matches holds_for holds in_block walk listed after
some_buffer = record {
  shape = shape 1 1;
  pool = leaf_pool;
  buffer = used;
  watched = used_watched;
  agrees = (watched_sees used_watched).agrees;
  slot = record { domain = 0; level = 3; block = record { 0 = 0x1000 }; entry = 0xAAAAAAAA };
  answers = refl;
}

pub all_met : Met
all_met = record {
  some_sound = some_sound;
  some_settled = some_settled;
  some_cut = some_cut;
  some_tidy_cut = some_tidy_cut;
  some_give = some_give;
  some_fill = some_fill;
  some_link = some_link;
  some_buffer = some_buffer;
  some_stale = some_stale;
  some_tidied = some_tidied;
  some_series = some_series;
  some_owner = some_owner;
  some_export = some_export;
  some_not_allowed = some_not_allowed;
  some_set_in = some_set_in;
  some_nobody = some_nobody;
  some_disjoint = some_disjoint;
}
