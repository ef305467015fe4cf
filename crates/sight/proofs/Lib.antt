-- worked examples
mod Rows
-- places by their indexes
pub mod Indexed
-- the greatest heights of blocks of cells
pub mod BlockLists
-- rays, and the ramps of the ground that they meet
pub mod Products
pub mod Rays
pub mod Spans
pub mod Laid
pub mod Below
pub mod ClearLines
-- the horizon of all lines passed so far
pub mod Passed
-- rays in the order of their slopes, and of their lines
pub mod Ranking
pub mod Gathered
-- the cells that rays lead to, met ray by ray
pub mod EachRay
-- a family's lines block exactly what a walk finds blocked
pub mod Families
-- the flags that a tile keeps on all sides of an observer
pub mod BothSides
pub mod PlacesLeft
-- the targets that families raise
pub mod Raised
-- faults of observers, and refusals
pub mod Refused
-- the values of a tile, observer by observer
pub mod Far
pub mod FlagLists
pub mod Counting
pub mod Lowering
pub mod Swept
-- the viewshed and the rise
pub mod Uniqueness
pub mod Rises
