pub mod TallyLemmas
pub mod RanLemmas
pub mod LoadLemmas
pub mod SettingsLemmas
pub mod LengthLemmas
pub mod SpelledLemmas
pub mod EqualLemmas
pub mod ListLemmas
