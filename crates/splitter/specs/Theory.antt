-- the fields of a step, cut to a record's
pub mod Narrow
-- a step as a tape of one record
pub mod OneRecord
-- what is asked of a sound state, and of a run
pub mod Queries
-- demands 1 to 3, for the layout that the library promises
pub mod Demands
