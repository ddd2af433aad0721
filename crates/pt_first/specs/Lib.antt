pub use Rattle.pt_script.specs.kr_calls as kr_calls
pub use Rattle.pt_script.specs as pt_script
pub use Rattle.pr_words.specs as pr_words
pub mod GuestStart
pub mod FirstPeeks
pub mod Laws
