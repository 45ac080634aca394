pub mod Tallies
pub mod Ran
pub mod Refused
pub mod Settings
