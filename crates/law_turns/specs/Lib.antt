pub use Rattle.kr_core.specs.pr_base as pr_base
pub use Rattle.kr_core.specs.rv_cpu as rv_cpu
pub use Rattle.law_places.specs.kr_files as kr_files
pub use Rattle.pt_results.specs.kr_calls as kr_calls
pub use Rattle.law_places.specs.kr_model as kr_model
pub use Rattle.kr_core.specs.law_lawful as law_lawful
pub use Rattle.kr_core.specs.law_allowed as law_allowed
pub use Rattle.pt_results.specs.pt_args as pt_args
pub use Rattle.kr_core.specs.kr_seen as kr_seen
pub use Rattle.kr_core.specs.kr_execve as kr_execve
pub use Rattle.law_places.specs.kr_calm as kr_calm
pub use Rattle.kr_core.specs.kr_steps as kr_steps
pub use Rattle.kr_core.specs.kr_turns as kr_turns
pub use Rattle.kr_core.specs.kr_stops as kr_stops
pub use Rattle.law_kept.specs as law_kept
pub use Rattle.pt_results.specs as pt_results
pub use Rattle.law_places.specs.law_walks as law_walks
pub use Rattle.law_places.specs as law_places
pub mod Calls
pub mod Changing
pub mod Lasting
pub mod Operating
pub mod Pathless
pub mod Quiet
pub mod Registers
pub mod Runs
pub mod Sizes
pub mod Turning
pub mod PathCalls
