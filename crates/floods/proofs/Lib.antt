-- Stored levels and labels.
pub mod HeightLists
pub mod LabelNumbers
-- The flood of a net.
pub mod Steps
pub mod Heaps
pub mod QueueOrder
pub mod Noting
