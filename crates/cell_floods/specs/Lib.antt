pub mod Cells
pub mod TileFlood
pub mod Labels
pub mod Indexes
pub mod Levels
pub mod Spreading
