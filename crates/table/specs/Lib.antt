pub mod Shape
pub mod Map
pub mod Entries
pub mod Fresh
pub mod Stretches
pub mod Lookup
pub mod Access
pub mod Wants
