pub use Rattle.law_lawful.proofs as law_lawful
pub mod EditLemmas
