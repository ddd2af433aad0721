pub use Rattle.pt_args.specs.pr_base as pr_base
pub use Rattle.pt_args.specs.rv_mem as rv_mem
pub use Rattle.pt_args.specs.kr_calls as kr_calls
pub use Rattle.pt_args.specs.pt_bind as pt_bind
pub use Rattle.pt_args.specs.pt_canon as pt_canon
pub use Rattle.pt_args.specs as pt_args
pub mod Answers
pub mod Laws
pub mod Notes
pub mod Numbers
