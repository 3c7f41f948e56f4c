pub mod Count
pub mod Owners
pub mod Final
