pub use Rattle.pt_args.proofs.pr_base as pr_base
pub use Rattle.pt_args.proofs.rv_mem as rv_mem
pub use Rattle.pt_args.proofs.kr_calls as kr_calls
pub use Rattle.pt_args.proofs.pt_canon as pt_canon
mod AnswerRows
mod LeadLemmas
pub mod UnmetLemmas
pub mod NoteLemmas
