pub use Rattle.rv_table.proofs.pr_base as pr_base
pub use Rattle.rv_table.proofs as rv_table
pub mod AccessLemmas
pub mod ActionLemmas
pub mod AddressLemmas
pub mod AlikeLemmas
pub mod ByteLemmas
pub mod ChangeLemmas
pub mod CodeLemmas
pub mod LayoutLemmas
pub mod MapLemmas
pub mod MarkLemmas
pub mod PageLemmas
pub mod PageListLemmas
pub mod PagesLemmas
pub mod PlaceLemmas
pub mod PlanLemmas
pub mod SharedLemmas
pub mod SpaceLemmas
pub mod TableLemmas
pub mod TextLemmas
