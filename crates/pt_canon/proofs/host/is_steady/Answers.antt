use Rattle.std.proofs.Common.{◌∙◌, ap}
use Rattle.pt_bind.specs.pr_base.Paths.{is_absolute}
use Rattle.pt_bind.proofs.pr_base.PathLemmas.{text_absolute}
use Rattle.pt_canon.proofs.host.is_steady.Goals as goal

pub steady-requires : goal.steady-requires
steady-requires g c = ap is_absolute c.requires.written ∙ text_absolute c.requires.names
