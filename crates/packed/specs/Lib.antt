-- Pool has the definitions, Links what fast functions ask, Pack R-9's change-over from four-word nodes. Theory is about them.
pub mod Pool
pub mod Links
pub mod Pack
