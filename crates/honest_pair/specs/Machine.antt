-- For proofs: no claim rests on this file.
pub mod Memory
pub mod Layout
pub mod Halves
pub mod Copies
pub mod Pair
pub mod Log
pub mod Traces
pub mod Acts
pub mod Safe
pub mod Law
