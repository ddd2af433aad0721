pub mod FoundLemmas
pub mod NodeLemmas
pub mod RowLemmas
pub mod TextLemmas
