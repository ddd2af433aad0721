mod ArgumentLemmas
mod ChainLemmas
mod GuestTextLemmas
mod ListLemmas
mod ProgramRows
pub mod RunLemmas
mod UnmetLemmas
