pub use Rattle.law_lawful.specs.pr_base as pr_base
pub use Rattle.law_lawful.specs.rv_mem as rv_mem
pub use Rattle.law_lawful.specs.kr_tree as kr_tree
pub use Rattle.law_lawful.specs.kr_view as kr_view
pub use Rattle.law_lawful.specs.kr_files as kr_files
pub use Rattle.law_lawful.specs.kr_calls as kr_calls
pub use Rattle.law_lawful.specs.kr_model as kr_model
pub use Rattle.law_lawful.specs as law_lawful
pub mod Texts
pub mod Drawing
pub mod Lasting
pub mod Allowed
pub mod Resting
pub mod Calls
pub mod Told
pub mod Others
