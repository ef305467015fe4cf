-- A rectangle of cells as a net, and the nets of a tile and of a whole grid.
mod CellArcs
mod Runs
mod Borders
pub mod Rectangles
mod FirstSinks
-- Lists without their border, and the flood of a whole grid.
mod InnerRows
-- The flood of a tile.
mod LabelTables
pub mod TileRectangles
pub mod Where
mod Meetings
-- The flood of a net by height.
mod SpreadSteps
-- End cells among the labels of a tile.
mod EndCells
