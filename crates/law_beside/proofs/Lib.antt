pub use Rattle.kr_core.proofs as kr_core
pub use Rattle.law_kept.proofs as law_kept
pub mod ImagedLemmas
pub mod ShownLemmas
pub mod BesideLemmas
pub mod BetweenLemmas
pub mod ToldLemmas
pub mod BearLemmas
pub mod CallLemmas
pub mod PickLemmas
pub mod BehindLemmas
pub mod OpenLemmas
pub mod NodeWalks
pub mod PlaceRows
pub mod NodeLemmas
