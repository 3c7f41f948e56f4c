-- What the listing program answers and lists, on slices.
pub mod Text
pub mod Serves
pub mod Pages
pub mod Program
