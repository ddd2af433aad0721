pub use Rattle.kr_text.specs as kr_text
pub mod Budget
pub mod Draft
pub mod Steps
pub mod Case
pub mod Draws
pub mod Guest
pub mod Listing
