pub mod Carried
pub mod Fetch
pub mod Operations
pub mod Outside
pub mod PassLemmas
pub mod Registers
