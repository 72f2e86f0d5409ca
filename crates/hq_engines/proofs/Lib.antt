pub mod Replays
pub mod Recordings
pub mod Charts
pub mod Graphs
pub mod Changes
pub mod Explanations
pub mod Witnesses
