-- `targets::wanted::table_wanted` meets its contract.
use Prim.Native.Nat.{ℕ}
use mathlib.Core.Bool.{Bool, true, false, not}
use Rattle.std.proofs.Common.{Option}
use Rattle.std.specs.Option.{is_some, is_none}
use mathlib.Core.Path.{◌≡◌, sym, ap, ◌∙◌}
use native.Mathlib.Omega.{arith}
use Rattle.census.specs.Places.{place_word}
use Rattle.targets.proofs.WantedLaws.{place_readable, place_wants}
use Rattle.targets.proofs.wanted.table_wanted.Goals as goal
use Rattle.targets.proofs.wanted.table_wanted.Goals.{After-block_in_domain-number, After-entry-e}

-- What the test of the target tells.
tested : (t : Option ℕ) (r : Bool) → is_some t ≡ not r → r ≡ is_none t
tested t true e = sym (ap not e)
tested t false e = sym (ap not e)

-- The entry that leads to the place.
entry : (c : After-entry-e) → let a = c.args in
    c.entry-e.result ≡ place_word a.shape a.n
entry c = c.entry-e.ensures ∙ ap (λ w. w.0) c.place_word-place.ensures

pub entry_target-target-requires-clause-readable : goal.entry_target-target-requires-clause-readable
entry_target-target-requires-clause-readable c =
    place_readable _ _ c.requires.fits c.requires.sound_pool _ _ _ _ _ c.requires.n_lt_max_places.1
    c.place_height-height.ensures (entry (goal.at.entry_target-target-requires-clause-readable c).After-entry-e)
    c.block_in_domain-number.ensures

pub returns : goal.returns
returns c = let h = c.place_height-height in
    let t = c.entry_target-target in
    place_wants _ _ c.requires.fits c.requires.sound_pool _ _ _ _ _ c.requires.n_lt_max_places.1 h.ensures (entry (goal.at.returns c).After-entry-e)
    c.block_in_domain-number.ensures
    _ t.result c.is_none.result (omega arith) t.ensures (tested _ _ c.is_none.ensures)
