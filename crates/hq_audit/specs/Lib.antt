pub mod Packed
pub mod Paired
pub mod Drafted
pub mod Free
pub mod Audited
pub mod Rowed
pub mod Refused
pub mod Lawful
