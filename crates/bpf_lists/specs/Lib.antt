pub mod Keys
pub mod Refusals
pub mod Order
pub mod Find
pub mod Chains
