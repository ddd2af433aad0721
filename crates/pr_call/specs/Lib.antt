pub mod Promise
pub mod Headline
pub mod LooseHeadline
pub mod Telling
