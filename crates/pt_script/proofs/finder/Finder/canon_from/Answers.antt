use Rattle.std.proofs.Common.{◌∙◌, ap}
use Rattle.pt_args.specs.pr_base.Paths.{is_absolute}
use Rattle.pt_args.specs.pr_base.declared.path.WalkMode.TheVariants.{Look}
use Rattle.pt_args.proofs.pr_base.PathLemmas.{text_absolute}
use Rattle.pt_args.specs.pt_bind.Binding.{host_of, names_of}
use Rattle.pt_args.specs.pt_canon.Canon.{texts_by}
use Rattle.pt_script.proofs.finder.Finder.canon_from.Goals as goal

-- a host text that was reached begins at the root
pub returns-clause-host : goal.returns-clause-host
returns-clause-host g c =
    let texts = texts_by c.args.walker.now.table (g.K.Peeks.peeked c.args.kernel.now) c.args.self.now.tags.now in
    let own = c.answers_are_of_their_texts.ensures texts Look (names_of c.args.base.now) c.args.path.now c.in_ok-canon.canon c.in_ok-canon.ensures.answer in
    ap is_absolute own.2 ∙ text_absolute (host_of texts.bindings own.0)
