-- examples, checked by computation
mod Rows
-- words, and the cells that they spell
pub mod Parting
pub mod Cells
-- one more word: the header, the heights, the first fault
pub mod Keys
pub mod Judging
pub mod AddedWords
pub mod Stays
-- faults that are passed on
pub mod Exits
-- a text in pieces, up to its end
pub mod Ending
pub mod Spelled
pub mod Feeding
pub mod Moved
pub mod Pieces
-- the written text, and its length
pub mod Writing
pub mod Decimals
pub mod RowText
pub mod TextLength
-- the written text, read back
pub mod ReadBackDecimals
pub mod ReadBackCells
pub mod ReadBack
