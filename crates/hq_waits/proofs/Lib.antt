pub mod Packets
pub mod Completions
pub mod Slots
