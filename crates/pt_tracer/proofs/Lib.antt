pub use Rattle.law_steady.proofs.pr_base as pr_base
pub use Rattle.pt_results.proofs.rv_mem as rv_mem
pub use Rattle.pt_faker.proofs.law_lawful as law_lawful
pub use Rattle.pt_faker.proofs.kr_exec as kr_exec
pub use Rattle.pt_faker.proofs.kr_stops as kr_stops
pub use Rattle.law_steady.proofs.pt_bind as pt_bind
pub use Rattle.law_steady.proofs.pt_canon as pt_canon
pub use Rattle.law_steady.proofs as law_steady
pub mod AgreeLemmas
mod EntryLemmas
mod PauseLemmas
mod PlanLemmas
mod PokeLemmas
mod ShelfLemmas
mod TracerLemmas
mod UnmetLemmas
mod WatchedLemmas
