pub mod State
pub mod View
pub mod Enabled
pub mod Changes
pub mod Entries
pub mod Pushes
pub mod WorkLeft
pub mod Launched
