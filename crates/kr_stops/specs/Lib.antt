pub use Rattle.law_lawful.specs.kr_model as kr_model
pub use Rattle.law_lawful.specs as law_lawful
pub mod Stopped
pub mod Editing
pub mod Watching
pub mod Remembering
