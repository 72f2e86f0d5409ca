pub mod Bytes
pub mod Tasks
pub mod Table
pub mod Conflicts
pub mod Laws
pub mod Counts
