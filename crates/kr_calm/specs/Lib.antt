pub use Rattle.kr_seen.specs.pr_base as pr_base
pub use Rattle.kr_seen.specs.law_lawful as law_lawful
pub use Rattle.kr_seen.specs as kr_seen
pub mod Above
pub mod Shelf
pub mod InUse
pub mod Rules
pub mod Calm
pub mod Questions
pub mod Prospects
pub mod Foreseen
pub mod Noted
pub mod Laws
