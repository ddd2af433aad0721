pub use Rattle.law_machines.proofs as law_machines
pub use Rattle.law_loose.proofs as law_loose
pub use Rattle.law_entries.proofs as law_entries
pub mod DirectoryLemmas
pub mod FreshLemmas
pub mod UserLemmas
pub mod StopLemmas
pub mod StateLemmas
pub mod TurnLemmas
pub mod StayLemmas
pub mod MidwayLemmas
pub mod JudgedLemmas
pub mod TurnwiseLemmas
pub mod ScheduleLemmas
pub mod FewLemmas
pub mod FreshStartLemmas
pub mod SceneLemmas
pub mod LooselyLemmas
pub mod LooseWordLemmas
