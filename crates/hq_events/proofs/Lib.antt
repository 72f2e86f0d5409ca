pub mod Jobs
pub mod Phases
pub mod Observed
pub mod Places
pub mod Replicated
pub mod Wholes
