-- The definitions that the contracts cite: slots, flushes, checks, and how a buffer lies in words; and when a buffer
-- agrees with a table.
pub mod Slots
pub mod Flushes
pub mod Check
pub mod Layout
pub mod Agree
