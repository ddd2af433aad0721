pub use Rattle.rv_mem.proofs.pr_base as pr_base
pub use Rattle.rv_mem.proofs as rv_mem
pub mod TextLemmas
pub mod DecodingLemmas
pub mod ScriptLemmas
pub mod ScriptRows
pub mod TwoTextLemmas
pub mod ExpansionRows
