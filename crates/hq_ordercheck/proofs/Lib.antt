pub mod Options
pub mod Packets
pub mod Orders
pub mod Places
pub mod Lasts
pub mod Slots
