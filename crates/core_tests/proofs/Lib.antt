pub mod EditLemmas
pub mod ReadyLemmas
