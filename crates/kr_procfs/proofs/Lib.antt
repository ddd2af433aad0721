pub use Rattle.kr_view.proofs as kr_view
pub mod DecimalLemmas
pub mod ObjectLemmas
