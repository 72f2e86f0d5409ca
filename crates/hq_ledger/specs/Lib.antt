pub mod Grants
pub mod Pieces
pub mod Trays
pub mod Cells
pub mod Lending
