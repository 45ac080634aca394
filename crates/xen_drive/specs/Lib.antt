pub mod Hosts
pub mod Driven
