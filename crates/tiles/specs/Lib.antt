pub mod Cutting
pub mod Windows
pub mod RimLeft
pub mod RimNumbers
pub mod PuttingBack
