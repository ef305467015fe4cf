pub mod Filled
pub mod CodeNumber
pub mod Following
pub mod Drained
pub mod StepCounts
