pub use Rattle.pr_base.proofs as pr_base
pub mod Formats
pub mod Masks
pub mod Matching
pub mod RoundTrip
pub mod SmallLemmas
pub mod TwosComplement
