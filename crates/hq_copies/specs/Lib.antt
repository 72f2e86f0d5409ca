pub mod Copies
pub mod Edges
pub mod Marks
pub mod Overlays
pub mod Leftovers
pub mod Levels
pub mod Known
