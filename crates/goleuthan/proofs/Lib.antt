-- The laws of result words, of lent shapes and of the states' words, and that each call has one outcome.
pub mod OutLaws
pub mod UniqueLaws
pub mod ShapeLaws
pub mod RefusalLaws
pub mod StateRefusalLaws
pub mod Examples
