pub mod Traces
pub mod Runs
pub mod Bytes
pub mod Pairs
pub mod Meeting
