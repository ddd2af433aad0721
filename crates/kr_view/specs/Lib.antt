pub use Rattle.kr_tree.specs.kr_inode as kr_inode
pub use Rattle.kr_tree.specs as kr_tree
pub mod Answers
pub mod Begins
pub mod Component
pub mod GuestNames
pub mod HostReach
pub mod InTree
pub mod Laws
pub mod Leads
pub mod Living
pub mod Names
pub mod Processes
pub mod Reach
pub mod ReachLaws
pub mod Rows
pub mod View
pub mod Walk
