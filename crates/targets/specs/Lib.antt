-- The definitions that the contracts cite: targets, and the steps by which they are found.
pub mod Paints
pub mod Targets
pub mod Steps
