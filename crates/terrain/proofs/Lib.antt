-- options, and whole numbers in their order
pub mod Options
pub mod Orders
-- stored cells and counts, read back
pub mod Stored
-- places of a grid
pub mod Places
-- directions from a place
pub mod EightWays
-- places of a list
pub mod Listed
-- named sinks
pub mod Naming
-- a grid with other cells
pub mod OtherCells
-- heights fit their type
pub mod Heights
