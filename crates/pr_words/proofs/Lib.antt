pub use Rattle.pr_base.proofs as pr_base
pub mod CutLemmas
pub mod IndexLemmas
pub mod LoopLemmas
pub mod NumberLemmas
pub mod PositionLemmas
pub mod ReadBackLemmas
pub mod ReadLemmas
pub mod ScheduleLemmas
pub mod SoundLemmas
pub mod SpelledLemmas
pub mod ValueLemmas
pub mod VariableLemmas
pub mod WordRows
pub mod PathLemmas
pub mod TextLemmas
