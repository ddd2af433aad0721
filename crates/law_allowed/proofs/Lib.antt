pub use Rattle.law_lawful.proofs.pr_base as pr_base
pub use Rattle.law_lawful.proofs.kr_tree as kr_tree
pub use Rattle.law_lawful.proofs.kr_view as kr_view
pub use Rattle.law_lawful.proofs.kr_model as kr_model
pub use Rattle.law_lawful.proofs as law_lawful
pub mod TreeLemmas
pub mod StateLemmas
pub mod ChangeLemmas
pub mod RoomLemmas
pub mod RowLemmas
pub mod KnownLemmas
pub mod DescriptorLemmas
pub mod ProcessLemmas
pub mod MemoryLemmas
pub mod PieceLemmas
pub mod FileLemmas
pub mod NodeLemmas
pub mod AttributeLemmas
pub mod SerialLemmas
pub mod DirectoryLemmas
pub mod AboveLemmas
pub mod NameLemmas
pub mod OpeningLemmas
pub mod SilentLemmas
pub mod OperationLemmas
pub mod ToldLemmas
pub mod DecodedLemmas
pub mod WalkLemmas
pub mod TargetLemmas
pub mod SourceLemmas
pub mod OthersLemmas
