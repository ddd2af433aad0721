pub use Rattle.pt_args.specs.kr_calls as kr_calls
pub use Rattle.pt_args.specs.pt_canon as pt_canon
pub use Rattle.pt_args.specs as pt_args
pub mod Chains
pub mod Expanding
pub mod Laws
pub mod Programs
