pub mod Walk
pub mod Flood
pub mod Notes
