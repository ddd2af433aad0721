pub use Rattle.pt_tracer.proofs.pr_base as pr_base
pub use Rattle.law_walks.proofs.kr_view as kr_view
pub use Rattle.law_walks.proofs.kr_files as kr_files
pub use Rattle.law_walks.proofs.kr_calls as kr_calls
pub use Rattle.law_walks.proofs.kr_model as kr_model
pub use Rattle.kr_turns.proofs.kr_perform as kr_perform
pub use Rattle.pt_tracer.proofs.pt_bind as pt_bind
pub use Rattle.law_walks.proofs as law_walks
pub mod AnsweredLemmas
pub mod DecodeLemmas
pub mod ExitLemmas
pub mod MarkLemmas
pub mod NoCallLemmas
pub mod OperationLemmas
pub mod RangeLemmas
pub mod RegisterLemmas
pub mod RewritingLemmas
pub mod RowLemmas
pub mod ShelfLemmas
pub mod StopLemmas
pub mod SwapLemmas
pub mod TextLemmas
pub mod ShowingLemmas
pub mod FreshLemmas
pub mod ReadLemmas
pub mod ListKeepLemmas
pub mod AnswerLemmas
mod CountLemmas
pub mod CwdLemmas
pub mod LandingLemmas
pub mod LinkLemmas
mod NamedLemmas
pub mod NumberLemmas
pub mod CallShelfLemmas
pub mod ShortLemmas
pub mod ShortSwapLemmas
