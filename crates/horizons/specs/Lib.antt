pub mod Horizons
pub mod Merging
