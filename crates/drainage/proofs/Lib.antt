-- filled heights: unique, heights of the terrain, kept by a second filling, one for each data cell
pub mod Uniqueness
pub mod Heights
pub mod FilledTwice
pub mod Reach
pub mod FilledExists
-- stored numbers of steps, read back
pub mod StoredCounts
-- codes and their directions
pub mod Codes
-- flow paths end
pub mod Pigeonhole
pub mod Ends
