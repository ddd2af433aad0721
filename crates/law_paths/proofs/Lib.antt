pub use Rattle.law_stops.proofs as law_stops
pub mod AnswerLemmas
pub mod HereLemmas
pub mod IndexLemmas
pub mod JoinLemmas
pub mod NoteLemmas
pub mod OtherLemmas
pub mod PlanLemmas
pub mod ShelfLemmas
pub mod ToldLemmas
pub mod FakedOtherLemmas
pub mod RootLemmas
