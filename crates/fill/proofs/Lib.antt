-- The levels and labels of cells, by label number.
mod CellLabels
mod Firsts
mod Numbered
mod FloodLists
-- Raising by the least crests of any net of labels.
mod LabelNets
-- Crests of labels: water passes where cells meet, and leaves at the crests found.
mod Passages
mod Rings
-- The spill graph by place.
mod Adding
mod GraphParts
mod Lowest
mod Placed
pub mod Gathered
mod EndSources
-- Runs of cells that rise, and their certificate.
mod RaisedRuns
mod Settled
-- Raised heights are filled heights, in a tile and in the grid.
pub mod Raised
