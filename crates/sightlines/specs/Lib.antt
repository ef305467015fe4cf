pub mod Sight
pub mod Walk
pub mod Pace
pub mod Blocks
