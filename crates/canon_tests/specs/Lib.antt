pub mod Told
pub mod ToldNames
pub mod Spelled
