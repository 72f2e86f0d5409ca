pub mod Faults
pub mod Histories
pub mod Stages
pub mod Handing
pub mod View
