pub use Rattle.kr_text.proofs as kr_text
pub mod Bounds
pub mod Budgets
pub mod Drafts
pub mod CaseLemmas
pub mod GuestLemmas
pub mod NameLemmas
pub mod PutLemmas
pub mod ReadLemmas
pub mod StepLemmas
pub mod TextLemmas
pub mod WholeLemmas
