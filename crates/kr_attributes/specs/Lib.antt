pub mod Entering
pub mod Facts
pub mod Found
pub mod Named
pub mod Ruled
