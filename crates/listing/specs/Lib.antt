-- The definitions that the contracts cite. `Runs` and `Listing` say what the listing must answer, the others how it
-- is found.
pub mod Runs
pub mod Listing
pub mod Scan
pub mod Sheets
pub mod Levels
