pub use Rattle.kr_calls.specs.rv_mem as rv_mem
pub use Rattle.kr_inode.specs as kr_inode
pub use Rattle.kr_calls.specs as kr_calls
pub mod Identity
pub mod Answering
pub mod IdentityTable
pub mod Owners
pub mod Showing
pub mod Laws
