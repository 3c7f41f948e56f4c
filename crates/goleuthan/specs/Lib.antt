-- The definitions that the contracts of the C face cite: result words, what a lent shape says, and what each
-- call gives back.
pub mod Out
pub mod Calls
pub mod StateCalls
