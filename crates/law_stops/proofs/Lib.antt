pub use Rattle.law_edits.proofs.kr_view as kr_view
pub use Rattle.law_turns.proofs.kr_calls as kr_calls
pub use Rattle.law_edits.proofs.kr_model as kr_model
pub use Rattle.law_turns.proofs.law_allowed as law_allowed
pub use Rattle.law_turns.proofs.kr_turns as kr_turns
pub use Rattle.law_turns.proofs.kr_stops as kr_stops
pub use Rattle.law_turns.proofs.law_kept as law_kept
pub use Rattle.law_edits.proofs.law_walks as law_walks
pub use Rattle.law_edits.proofs as law_edits
pub use Rattle.law_turns.proofs as law_turns
pub mod AnsweredLemmas
pub mod CallLemmas
pub mod CallerLemmas
pub mod CarryLemmas
pub mod EmulateLemmas
pub mod EnterLemmas
pub mod NoteLemmas
pub mod PassLemmas
pub mod RegisterLemmas
pub mod SwapLemmas
pub mod TogetherLemmas
pub mod AlongLemmas
pub mod EditLemmas
pub mod EntryLemmas
pub mod GoingLemmas
pub mod IdentityLemmas
pub mod KernelLemmas
pub mod KindLemmas
pub mod PathlessLemmas
pub mod ProgramLemmas
pub mod ReadLemmas
pub mod RunLemmas
pub mod TakenLemmas
pub mod WholeLemmas
