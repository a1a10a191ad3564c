-- OneRecord: what the inner contracts of the entries cite; Queries: what a host may ask, with Examples. What the other entries promise is in
-- the crate semantics (Promises, Entries).
pub mod OneRecord
pub mod Queries
pub mod Theory
pub mod Examples
