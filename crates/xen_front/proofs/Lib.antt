pub mod RestLemmas
pub mod StraightLemmas
pub mod ActivityLemmas
pub mod IdLemmas
pub mod ChainCosts
pub mod BoundLemmas
pub mod ShortLemmas
