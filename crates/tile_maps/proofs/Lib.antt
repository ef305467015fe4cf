-- a tile's list, one more entry at a time
pub mod TileLists
-- the tiles' lists joined
pub mod Whole
