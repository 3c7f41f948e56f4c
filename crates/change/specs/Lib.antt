pub mod Cuts
pub mod Answers
pub mod Runs
pub mod Requests
pub mod Ahead
pub mod Tidying
pub mod StoreList
