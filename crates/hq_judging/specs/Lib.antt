pub mod Audit
pub mod Check
pub mod Checking
pub mod Giving
pub mod Places
pub mod Chunks
