pub mod Audits
pub mod InChunks
pub mod Checks
mod Numbers
mod Places
pub mod Audited
pub mod WhileRead
