-- A buffer whose slot is stale after a cut, and is flushed; and one whose slot is not stale after a tidying. The pools
-- are those of the cut: the second page is to be written in its first 512 bytes, and after the cut to be read only.
use Prim.Native.Nat.{ℕ}
use mathlib.Core.Path.{◌≡◌, refl, ap}
use mathlib.Core.Bool.{Bool, true, false, ◌&&◌, not}
use mathlib.Core.List.{◌∷◌}
use native.Mathlib.Omega.{arith}
use lib.ListN.{set, replicate}
use Rattle.std.specs.Prelude.{Ok}
use Rattle.theory.specs.Walk.{walk}
use Rattle.words.specs.Region.{region_of}
use Rattle.table.specs.Access.{store}
use Rattle.change.specs.declared.Ending.TheVariants.{Cut}
use Rattle.lookaside.specs.declared.Verdict.TheVariants.{Pass, Deny}
use Rattle.lookaside.specs.Slots.{Buffer, slot_for, empty_slot, empty_buffer, first_match, matches, holds_for, holds, in_block}
use Rattle.lookaside.specs.Check.{refusal_of, check_of}
use Rattle.lookaside.specs.Flushes.{flushed_region, flushed_buffer, flushed_slot, flushes, meets, pointed}
use Rattle.lookaside.specs.Agree.{Places, nowhere, both, less}
use Rattle.demands.specs.Series.{aim_in}
use Rattle.demands.specs.Watched.{places_of, altered, Watched, emptied, checked, changed, tidied, region_flushed}
use Rattle.benchmarks.specs.Witnesses.{SomeStale, SomeTidied}
use Rattle.benchmarks.specs.CallerWitnesses.{no_regions}
use Rattle.benchmarks.proofs.RowLaws.{listed}
use Rattle.benchmarks.proofs.PageLaws.{after}
use Rattle.benchmarks.proofs.PageRows.{middle_pool}
use Rattle.benchmarks.proofs.CutPools.{one_middle}
use Rattle.benchmarks.proofs.CutWitness.{cut_pool, begun, cut_series, tidies_cut}

-- A buffer whose first slot was filled by a check at 0x1000, with the page's entry.
abbrev holding : ℕ → Buffer
holding w = record { slots = slot_for 0 0x1000 w 2 ∷ replicate 63 empty_slot; next = 1 }

-- Before the change a store at 0x1000 passes.
abbrev used : Buffer
used = holding 0x80000002

missed : check_of middle_pool one_middle empty_buffer 0 store 4 0x1000 ≡ record { verdict = Ok (Pass 2); buffer = used }
unfolding check_of refusal_of empty_buffer first_match matches holds_for holds walk listed after
missed = refl

-- The change makes its region stale.
abbrev stale : Places
stale = both nowhere (altered (Ok Cut) (aim_in (region_of 0 528384) 0 1))

filled_watched : Watched one_middle middle_pool used nowhere
filled_watched = rw (← ap (λ c. c.buffer) missed) (checked (emptied middle_pool) 0 store 4 0x1000)

used_watched : Watched one_middle cut_pool used stale
used_watched = changed filled_watched begun

-- The flush of the change's region empties the slot.
abbrev cleared : Buffer
cleared = record { slots = replicate 64 empty_slot; next = 1 }

flushed : flushed_region used 0 0 528384 ≡ record { answer = Ok tt; buffer = cleared }
unfolding region_of pointed flushed_buffer flushed_slot flushes meets holds_for holds
flushed = refl

-- What the flush leaves stale: nothing.
abbrev left : Places
left = less stale (places_of (region_of 0 528384) 0)

none_left : (d a : ℕ) → left d a ≡ false
unfolding region_of
none_left d a = go (places_of (region_of 0 528384) 0 d a)
  where
    go : (t : Bool) → (t && not t) ≡ false
    go true = refl
    go false = refl

pub some_stale : SomeStale
unfolding check_of refusal_of empty_buffer first_match matches holds_for holds in_block walk listed after region_of
some_stale = record {
  shape = one_middle;
  old = middle_pool;
  pool = cut_pool;
  made_stores = 1025;
  stores = 128;
  list = no_regions;
  series = cut_series no_regions;
  filled_buffer = used;
  missed = missed;
  cut = begun;
  stale = stale;
  watched = used_watched;
  is_stale = refl;
  by_slot = refl;
  by_walk = refl;
  after_flush = cleared;
  flushed = flushed;
  left = left;
  watched_on = rw (← ap (λ c. c.buffer) flushed) (region_flushed used_watched 0 0 528384);
  none_left = none_left;
  walks_again = refl;
}

-- After the cut a store at 0x1000 fills the slot anew; and then the pool is tidied.
abbrev used_again : Buffer
used_again = holding 0x80005555

missed_again : check_of cut_pool one_middle empty_buffer 0 store 4 0x1000 ≡ record {
  verdict = Ok (Deny 2);
  buffer =
      used_again;
}
unfolding check_of refusal_of empty_buffer first_match matches holds_for holds walk listed after
missed_again = refl

again_watched : Watched one_middle cut_pool used_again nowhere
again_watched = rw (← ap (λ c. c.buffer) missed_again) (checked (emptied cut_pool) 0 store 4 0x1000)

pub some_tidied : SomeTidied
unfolding check_of refusal_of empty_buffer first_match matches holds_for holds in_block walk listed after
some_tidied = record {
  shape = one_middle;
  old = cut_pool;
  pool = set cut_pool 0 0x80000001;
  stores = 1;
  some = omega arith;
  filled_buffer = used_again;
  missed = missed_again;
  tidied = tidies_cut;
  watched = tidied again_watched tidies_cut;
  by_slot = refl;
  by_walk = refl;
}
