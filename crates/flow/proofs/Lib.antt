-- worked examples
mod Rows
-- sums and ranges
pub mod Ranges
-- paths and sums along links
pub mod Ending
pub mod Totals
-- the loop that sends sums downstream
pub mod Sending
-- flow paths
pub mod Coded
pub mod Reaching
pub mod DrainedCells
-- inside a tile
pub mod InTile
pub mod Piece
pub mod Listed
pub mod Moved
-- from tile to tile, over the rims
pub mod RimCells
pub mod RimFlows
pub mod RimTotals
pub mod RimInflows
pub mod RimAdded
pub mod Linked
-- counts of the cells upstream, and maps of whole terrains
pub mod TileTotals
pub mod Counted
pub mod Together
-- numbers of outlets
pub mod Numbered
-- gauges
pub mod GaugeFaults
pub mod CutPaths
pub mod CutLists
pub mod CatchmentLaws
pub mod OutletGauges
