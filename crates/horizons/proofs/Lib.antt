-- Ramps.
pub mod Sizes
pub mod Straight
pub mod Hiding
-- Horizons, and ramps over runs of targets.
pub mod Pieces
pub mod Merged
