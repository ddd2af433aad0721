-- Lemmas of crates below on which definitions of crates above rest. No clause cites this module.
pub use Rattle.pr_base.proofs.KeptWalkLemmas.{path_well}
pub use Rattle.pr_base.proofs.MapLemmas.{get-mapped}
pub use Rattle.pr_base.proofs.PathLemmas.{components_seam, part_components, text_no_slash}
pub use Rattle.pr_base.proofs.TextLemmas.{texts_are_told_apart}
