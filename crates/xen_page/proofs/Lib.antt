pub mod AccessLemmas
pub mod TableLemmas
pub mod ExtentLemmas
pub mod MappingLemmas
pub mod RewriteLemmas
pub mod RunLemmas
pub mod WordLemmas
pub mod PlainLemmas
