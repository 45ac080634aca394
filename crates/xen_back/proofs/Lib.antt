pub mod RestLemmas
pub mod FeedLemmas
pub mod StageLemmas
pub mod InOneGoLemmas
