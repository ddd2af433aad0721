use Rattle.std.proofs.Common.{◌∙◌, [], Some, ap, sym}
use Rattle.std.proofs.lemmas.List.Elements.{All-nil}
use Rattle.pt_bind.specs.pr_base.Paths.{IsPart}
use Rattle.pt_bind.specs.Binding.{names_of}
use Rattle.pt_bind.proofs.ByteLemmas.{names_written}
use Rattle.pt_canon.specs.ProcessLinks.{link_name}
use Rattle.pt_canon.proofs.translation.link_name.Goals as goal

pub returns-in_ok-copy-in-Root-clause-name : goal.returns-in_ok-copy-in-Root-clause-name
returns-in_ok-copy-in-Root-clause-name g c =
    ap Some (ap names_of c.in_ok-copy-in-Root.ensures ∙ names_written [] (All-nil IsPart)) ∙ ap (link_name (g.K.Peeks.peeked c.args.kernel.now)) (sym c.in-Root.is)
