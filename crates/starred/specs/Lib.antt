-- Starred: document 01's starred edges, one table. RefusedCalls, RefusedRecords: every refusal at its condition, and their order. Layout: the
-- words of the state, its table and the pool's words after short runs. Demand3Example: demand 3 of document 01's tape, of one with waiting frames, of one with
-- folds and of one in a full table. Tapes: what the tables are written with. Quick: the entries and soundness in fewer steps; no check for states that
-- demand 2 shows to be sound.
pub mod Tapes
pub mod Quick
pub mod Starred
pub mod RefusedCalls
pub mod RefusedRecords
pub mod Layout
pub mod Demand3Example
-- R-1, R-3, R-5, R-6 and R-8: images, saves and readings
pub mod SavedImages
-- R-7: reports
pub mod Reports
-- R-8: nodes of two words
pub mod TwoWords
-- R-9: the change-over
pub mod Changeover
