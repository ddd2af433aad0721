use Rattle.std.proofs.Common.{◌∙◌, ap}
use Rattle.pt_bind.specs.pr_base.Paths.{is_absolute, dot}
use Rattle.pt_bind.proofs.pr_base.PathLemmas.{below_root_absolute}
use Rattle.pt_bind.specs.Binding.{names_of}
use Rattle.pt_canon.proofs.host.is_itself_steady.Goals as goal

pub steady-requires : goal.steady-requires
steady-requires g c = ap is_absolute (c.as_slice.ensures ∙ c.in_ok-itself.ensures) ∙ below_root_absolute (names_of c.args.host.now) dot
