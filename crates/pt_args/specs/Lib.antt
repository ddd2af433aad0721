pub use Rattle.pt_canon.specs.pr_base as pr_base
pub use Rattle.kr_calls.specs.rv_mem as rv_mem
pub use Rattle.kr_calls.specs as kr_calls
pub use Rattle.pt_canon.specs.pt_bind as pt_bind
pub use Rattle.pt_canon.specs as pt_canon
pub mod Bases
pub mod Edits
pub mod Laws
pub mod Parting
pub mod Plans
pub mod Points
pub mod Purposes
pub mod Shelving
pub mod Walks
