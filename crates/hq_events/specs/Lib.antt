pub mod Events
pub mod Phases
pub mod Packets
pub mod Rows
pub mod RowForms
pub mod Waits
