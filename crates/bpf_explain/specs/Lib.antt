pub mod Values
pub mod Accesses
pub mod Stack
pub mod Advice
pub mod Listing
pub mod Explained
pub mod Fields
pub mod Span
