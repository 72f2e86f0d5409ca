mod Entries
pub mod TableLaws
mod Verdicts
pub mod Places
