-- The definitions that the contracts cite: rights inside a word, stretches of one right, and regions.
pub mod Rights
pub mod Stretches
pub mod Passing
pub mod Region
