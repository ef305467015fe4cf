-- tiles of places
pub mod Quotients
pub mod Cut
pub mod TileOrder
-- rims and neighbours in other tiles
pub mod RimSteps
pub mod Outer
pub mod Members
pub mod RimNumbered
-- views, and the tiles' lists merged
pub mod SliceGet
pub mod Shown
pub mod TileRows
pub mod PutBack
-- windows of tiles
pub mod Spots
pub mod SpotWays
