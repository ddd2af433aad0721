pub use Rattle.pt_bind.specs.pr_base as pr_base
pub use Rattle.pt_bind.specs as pt_bind
pub mod Canon
pub mod Components
pub mod Kept
pub mod KeptAnswers
pub mod Keys
pub mod Laws
pub mod Leaving
pub mod LookedPaths
pub mod Looks
pub mod ProcessLinks
pub mod Remembering
pub mod Steadily
pub mod Steps
pub mod TextWalk
pub mod Walked
