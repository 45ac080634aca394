pub mod Index
pub mod Layout
