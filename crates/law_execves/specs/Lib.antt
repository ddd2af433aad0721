pub mod Going
pub mod Replacing
pub mod Rewriting
pub mod Addresses
pub mod Beginning
pub mod Following
pub mod Told
