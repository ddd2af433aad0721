pub use Rattle.kr_view.specs as kr_view
pub mod Decimals
pub mod Objects
