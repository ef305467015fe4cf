-- worked examples
pub mod Rows
-- a line of sight, step by step
pub mod Ground
pub mod Toward
mod OnTheLine
pub mod Heights
pub mod Elevations
mod Steps
mod Ranges
-- the crossings of a line, from either end
pub mod Crossings
pub mod Seen
-- targets at several heights
pub mod Higher
-- blocks of cells below the line
pub mod LowBlocks
