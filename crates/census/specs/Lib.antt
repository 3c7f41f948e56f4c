-- The definitions that the contracts cite: the census as a program takes it, and what it must answer.
pub mod Tally
pub mod Census
pub mod Places
