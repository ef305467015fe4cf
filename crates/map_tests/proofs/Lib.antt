pub mod Pushing
mod BegunCounts
