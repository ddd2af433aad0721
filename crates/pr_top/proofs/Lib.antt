pub use Rattle.pr_start.proofs.pr_base as pr_base
pub use Rattle.pr_start.proofs.kr_tree as kr_tree
pub use Rattle.pr_start.proofs.kr_mounts as kr_mounts
pub use Rattle.pr_run.proofs.pr_words as pr_words
pub use Rattle.pr_run.proofs.pr_sources as pr_sources
pub mod OpeningLemmas
pub mod GeneratedLemmas
pub mod AgainLemmas
pub mod MarksLemmas
pub mod StepwiseLemmas
