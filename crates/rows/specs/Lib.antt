-- What rows in words are.
pub mod Rows
