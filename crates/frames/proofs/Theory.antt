-- Records: a record after a store. Cells: the deques' words after a store, and the deques' shape. Sizes: a worker's length after a frame is taken off.
-- Lists: a deque as the list of its frames. Places: the free places. Tables: a table of the right form, and what one store does to it. Summary: what each
-- step does. Alike: tables alike but for views and links. Links: the links after a spawn and an end. Ends: the end of a frame; EndRecords: each record
-- after it. Start: the table at the start. RecordWords, Words: every step keeps words words. Siblings: the list of a frame's live children, in the order of
-- their links. Relinked: that list in two tables. Order: the next frame in the order of R-5.
pub mod Records
pub mod Cells
pub mod Sizes
pub mod Lists
pub mod Places
pub mod Tables
pub mod Summary
pub mod Alike
pub mod Links
pub mod Ends
pub mod EndRecords
pub mod Start
pub mod RecordWords
pub mod Words
pub mod Siblings
pub mod Relinked
pub mod Order
