pub use Rattle.law_starts.proofs.law_turns as law_turns
pub use Rattle.pr_top.proofs.pr_words as pr_words
pub use Rattle.pr_top.proofs.pr_sources as pr_sources
pub mod PieceLemmas
pub mod GivenLemmas
pub mod GrownLemmas
pub mod LocationLemmas
pub mod GivenOpeningLemmas
pub mod SourceLemmas
pub mod WordLemmas
pub mod BeginLemmas
pub mod FakedStartLemmas
pub mod GuestLemmas
pub mod TableLemmas
pub mod WatchedLemmas
pub mod LaunchLemmas
pub mod AgreeLemmas
pub mod CallLemmas
pub mod FakedCallLemmas
pub mod TurnLemmas
pub mod FakedAgreeLemmas
pub mod FakedLemmas
pub mod NobodyLemmas
pub mod ReportLemmas
pub mod OpeningLemmas
pub mod FakerLemmas
pub mod LookLemmas
pub mod PeekLemmas
pub mod PlanLemmas
pub mod ProgramLemmas
pub mod StopLemmas
pub mod TextLemmas
pub mod TracerLemmas
pub mod WalkLemmas
