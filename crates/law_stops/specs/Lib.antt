pub use Rattle.law_edits.specs.kr_inode as kr_inode
pub use Rattle.law_edits.specs.kr_view as kr_view
pub use Rattle.law_edits.specs.pt_bind as pt_bind
pub use Rattle.law_turns.specs.kr_calls as kr_calls
pub use Rattle.law_edits.specs.kr_model as kr_model
pub use Rattle.law_turns.specs.law_allowed as law_allowed
pub use Rattle.law_turns.specs.pt_args as pt_args
pub use Rattle.law_turns.specs.kr_steps as kr_steps
pub use Rattle.law_turns.specs.kr_turns as kr_turns
pub use Rattle.law_turns.specs.kr_stops as kr_stops
pub use Rattle.law_turns.specs.law_kept as law_kept
pub use Rattle.law_turns.specs.pt_results as pt_results
pub use Rattle.law_edits.specs.pt_script as pt_script
pub use Rattle.law_edits.specs.pt_ident as pt_ident
pub use Rattle.law_edits.specs.pt_faker as pt_faker
pub use Rattle.law_edits.specs.pt_tracer as pt_tracer
pub use Rattle.law_edits.specs.law_walks as law_walks
pub use Rattle.law_edits.specs as law_edits
pub use Rattle.law_turns.specs as law_turns
pub mod Scene
pub mod Answering
pub mod Cancelling
pub mod Noting
pub mod Passing
pub mod Swapping
pub mod Together
pub mod Turning
pub mod Along
pub mod Beginning
pub mod Calls
pub mod Editing
pub mod Going
pub mod Kinds
pub mod Reading
pub mod Runs
pub mod Whole
