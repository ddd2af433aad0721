pub use Rattle.law_edits.specs.pr_base as pr_base
pub use Rattle.law_edits.specs.rv_mem as rv_mem
pub use Rattle.law_places.specs.kr_tree as kr_tree
pub use Rattle.law_places.specs.kr_view as kr_view
pub use Rattle.law_places.specs.kr_mounts as kr_mounts
pub use Rattle.law_places.specs.kr_model as kr_model
pub use Rattle.law_places.specs.pt_canon as pt_canon
pub use Rattle.law_places.specs.kr_seen as kr_seen
pub use Rattle.law_places.specs.kr_calm as kr_calm
pub use Rattle.law_edits.specs.pt_ident as pt_ident
pub use Rattle.law_edits.specs.pt_faker as pt_faker
pub use Rattle.law_edits.specs.pt_tracer as pt_tracer
pub use Rattle.law_places.specs.law_walks as law_walks
pub use Rattle.law_places.specs as law_places
pub use Rattle.law_edits.specs as law_edits
pub mod Begins
pub mod OnePath
pub mod Plans
pub mod Decoded
pub mod Links
pub mod Short
