pub mod Answers
pub mod Core
pub mod Entries
pub mod Images
-- R-7
pub mod Timing
pub mod Report
pub mod Promises
pub mod Ranges
pub mod SoundMachine
pub mod Calls
pub mod Demands
-- R-7
pub mod ReportDemands
-- R-8
pub mod Matching
-- R-9
pub mod Convert
pub mod ConvertDemands
