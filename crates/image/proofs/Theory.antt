-- the version in the first word
pub mod Version
-- words as bytes and back
pub mod Bytes
-- data as blocks and back
pub mod Blocks
-- the check of a block as the sum of its words
pub mod Check
-- the deques and the frame table as words and back
pub mod Parts
-- when an image is refused by 17 and 18
pub mod Refused
-- reading what was written, and writing what was read
pub mod Round
-- an image as it is written
pub mod Written
-- the list of promises: what saving and reading give together
pub mod Promises
