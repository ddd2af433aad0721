pub use Rattle.pr_start.proofs.law_allowed as law_allowed
pub use Rattle.law_programs.proofs.kr_perform as kr_perform
pub use Rattle.law_turns.proofs.law_kept as law_kept
pub use Rattle.pr_start.proofs.kr_start as kr_start
pub use Rattle.law_turns.proofs.law_walks as law_walks
pub use Rattle.law_turns.proofs as law_turns
pub mod BeforeLemmas
pub mod CommandLemmas
pub mod FirstLemmas
pub mod HeldLemmas
pub mod JumpLemmas
pub mod LaterLemmas
pub mod LawfulLemmas
pub mod LengthLemmas
pub mod PlanLemmas
pub mod ProgramLemmas
pub mod ReachLemmas
pub mod RunLemmas
pub mod SceneLemmas
pub mod ScriptLemmas
pub mod SourceLemmas
pub mod StartLemmas
pub mod TogetherLemmas
pub mod TrailLemmas
pub mod WellLemmas
pub mod WorkingLemmas
