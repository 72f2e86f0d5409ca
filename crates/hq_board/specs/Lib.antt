pub mod History
pub mod Told
pub mod Rule
pub mod Law
pub mod Known
pub mod Calls
