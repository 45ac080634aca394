pub mod Grants
pub mod Wired
