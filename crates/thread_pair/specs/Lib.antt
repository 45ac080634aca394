pub mod Resources
pub mod Answering
pub mod Rounds
pub mod Working
pub mod Promised
pub mod Leaving
pub mod Sending
pub mod Rings
