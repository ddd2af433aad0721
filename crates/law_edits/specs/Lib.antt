pub use Rattle.pt_tracer.specs.pr_base as pr_base
pub use Rattle.pt_tracer.specs.rv_mem as rv_mem
pub use Rattle.pt_tracer.specs.kr_inode as kr_inode
pub use Rattle.law_walks.specs.kr_tree as kr_tree
pub use Rattle.law_walks.specs.kr_view as kr_view
pub use Rattle.law_walks.specs.kr_mounts as kr_mounts
pub use Rattle.law_walks.specs.kr_files as kr_files
pub use Rattle.law_walks.specs.kr_calls as kr_calls
pub use Rattle.law_walks.specs.kr_model as kr_model
pub use Rattle.kr_turns.specs.law_allowed as law_allowed
pub use Rattle.law_walks.specs.pt_canon as pt_canon
pub use Rattle.kr_turns.specs as kr_turns
pub use Rattle.kr_turns.specs.kr_stops as kr_stops
pub use Rattle.pt_tracer.specs.pt_bind as pt_bind
pub use Rattle.pt_tracer.specs.pt_args as pt_args
pub use Rattle.pt_tracer.specs.pt_results as pt_results
pub use Rattle.pt_tracer.specs.pt_script as pt_script
pub use Rattle.pt_tracer.specs.pt_ident as pt_ident
pub use Rattle.pt_tracer.specs.pt_faker as pt_faker
pub use Rattle.pt_tracer.specs as pt_tracer
pub use Rattle.law_walks.specs as law_walks
pub mod Answered
pub mod Exits
pub mod Laws
pub mod Marking
pub mod NoCalls
pub mod Operations
pub mod Requests
pub mod Rewriting
pub mod Shelves
pub mod Stops
pub mod Swapped
pub mod Showing
pub mod Fresh
pub mod Reading
pub mod Answers
pub mod CallShelves
pub mod Short
