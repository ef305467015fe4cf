pub mod Request
pub mod PlaceWords
pub mod MapWords
pub mod CommandLine
pub mod Commands
pub mod WordsFaults
pub mod Laws
