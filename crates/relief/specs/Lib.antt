pub mod FaultLine
pub mod Faults
pub mod MapText
pub mod Refusals
pub mod Runs
pub mod Ends
pub mod MadeMap
