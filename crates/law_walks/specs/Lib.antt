pub use Rattle.kr_model.specs.rv_mem as rv_mem
pub use Rattle.kr_mounts.specs.kr_inode as kr_inode
pub use Rattle.kr_mounts.specs.kr_tree as kr_tree
pub use Rattle.kr_mounts.specs.kr_view as kr_view
pub use Rattle.kr_mounts.specs as kr_mounts
pub use Rattle.kr_model.specs.kr_procfs as kr_procfs
pub use Rattle.kr_model.specs.kr_files as kr_files
pub use Rattle.kr_model.specs.kr_calls as kr_calls
pub use Rattle.kr_model.specs as kr_model
pub use Rattle.pt_canon.specs.pt_bind as pt_bind
pub use Rattle.pt_canon.specs as pt_canon
pub mod Answers
pub mod Facts
pub mod Handed
pub mod Laws
pub mod Peeks
pub mod Scene
pub mod Settled
pub mod Standing
pub mod Start
pub mod States
pub mod Translation
pub mod Alike
pub mod BareFacts
pub mod OneMount
