pub mod Beginning
pub mod Layout
pub mod Numbers
pub mod Rule
pub mod Seats
