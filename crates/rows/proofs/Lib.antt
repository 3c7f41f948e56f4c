-- The laws of rows in words.
pub mod Layouts
pub mod RowLaws
