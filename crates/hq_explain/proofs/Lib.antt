pub mod Lists
pub mod Trying
pub mod Noting
pub mod Saying
pub mod Counting
pub mod Whole
pub mod Waits
