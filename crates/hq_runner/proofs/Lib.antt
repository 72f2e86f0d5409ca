pub mod Working
pub mod Packets
pub mod Asked
pub mod Endings
