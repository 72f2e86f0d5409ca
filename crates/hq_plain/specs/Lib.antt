pub mod Jobs
pub mod Faults
pub mod Statuses
pub mod Changes
