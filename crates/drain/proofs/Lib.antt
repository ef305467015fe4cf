-- worked examples
mod Rows
-- steps: one number for each data cell, below 2^24; counts that no round changes are the steps
pub mod Local
pub mod Quiet
pub mod Few
pub mod Nearby
pub mod Counted
-- tiles' lists of counts and of codes, and the map of codes
pub mod TileLists
-- the initial counts of a tile's window, and the search over it
pub mod Spreading
pub mod Beside
pub mod Begun
pub mod TileRound
-- counts between rounds, and lower counts that rounds find
pub mod Sound
-- the direction of a cell, and which cells drain at once
pub mod Signs
pub mod GapOrLower
pub mod AroundLemmas
pub mod Onward
pub mod Greatest
pub mod Weights
pub mod Pointing
pub mod Laid
pub mod WindowCodes
pub mod Unique
pub mod Steepest
-- the map of directions
pub mod DrainedLemmas
