pub use Rattle.pr_start.specs.rv_mem as rv_mem
pub use Rattle.law_turns.specs.rv_cpu as rv_cpu
pub use Rattle.law_turns.specs.kr_files as kr_files
pub use Rattle.law_turns.specs.kr_calls as kr_calls
pub use Rattle.law_turns.specs.kr_model as kr_model
pub use Rattle.pr_start.specs.law_allowed as law_allowed
pub use Rattle.pr_start.specs.pt_canon as pt_canon
pub use Rattle.law_turns.specs.pt_args as pt_args
pub use Rattle.pr_start.specs.kr_exec as kr_exec
pub use Rattle.law_programs.specs.kr_first as kr_first
pub use Rattle.law_turns.specs.kr_calm as kr_calm
pub use Rattle.law_turns.specs.kr_steps as kr_steps
pub use Rattle.law_turns.specs.kr_turns as kr_turns
pub use Rattle.law_turns.specs.kr_stops as kr_stops
pub use Rattle.law_turns.specs.law_kept as law_kept
pub use Rattle.pr_start.specs.kr_start as kr_start
pub use Rattle.pr_start.specs.pt_bind as pt_bind
pub use Rattle.law_turns.specs.pt_results as pt_results
pub use Rattle.pr_start.specs.pt_script as pt_script
pub use Rattle.pr_start.specs.pt_ident as pt_ident
pub use Rattle.pr_start.specs.pt_faker as pt_faker
pub use Rattle.pr_start.specs.pt_tracer as pt_tracer
pub use Rattle.pr_start.specs.pt_first as pt_first
pub use Rattle.law_turns.specs.law_walks as law_walks
pub use Rattle.law_turns.specs as law_turns
pub use Rattle.pr_start.specs as pr_start
pub mod Commands
pub mod FirstStates
pub mod Openings
pub mod Plans
pub mod Programs
pub mod Running
pub mod Scripts
pub mod Spaces
pub mod Starts
pub mod Working
