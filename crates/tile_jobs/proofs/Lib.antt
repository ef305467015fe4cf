pub mod Sums
-- Dealing the jobs.
pub mod Residues
pub mod Rounds
-- Pushes, takes, splits and joins on a deque, and what a job taken changes in a seat.
pub mod Entries
pub mod Totals
pub mod Steps
pub mod Seats
-- Closing a board.
pub mod Closings
pub mod Closes
-- Workers and their results.
pub mod Results
pub mod Workers
