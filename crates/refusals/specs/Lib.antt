-- The definition that the contracts cite: the number of each refusal.
pub mod Refusals
