pub mod ReportLemmas
pub mod TellingLemmas
pub mod TopLemmas
pub mod WordLemmas
pub mod HeadlineLemmas
pub mod PrefixLemmas
pub mod LooseLemmas
mod Utf8Lemmas
