-- The definitions that the contracts cite: states, gate sets, and steps; and what a step does to a call stack.
pub mod States
pub mod Gates
pub mod Steps
pub mod Moves
pub mod Layout
