mod Commas
mod Commands
mod Given
pub mod Requested
mod Requests
mod MapLists
