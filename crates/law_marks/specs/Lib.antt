pub mod Unmarked
pub mod Laws
pub mod Unjudged
pub mod Calls
pub mod Turns
