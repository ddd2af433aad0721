pub use Rattle.pt_bind.proofs.pr_base as pr_base
pub use Rattle.pt_bind.proofs as pt_bind
pub mod AgreeLemmas
mod AlongLemmas
mod AnswerLemmas
mod EndingLemmas
mod FrontLemmas
mod GuestLemmas
mod KeyLemmas
mod LandingLemmas
mod LookLemmas
pub mod NotedLemmas
mod NumberLemmas
mod PlainLemmas
pub mod RememberLemmas
mod SteadyLemmas
mod StepLemmas
mod TextLemmas
mod WalkRows
