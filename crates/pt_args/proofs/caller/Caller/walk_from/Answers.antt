use Rattle.std.proofs.Common.{◌∙◌, ap}
use Rattle.pt_canon.specs.pr_base.Paths.{is_absolute}
use Rattle.pt_canon.proofs.pr_base.PathLemmas.{text_absolute}
use Rattle.pt_canon.specs.pt_bind.Binding.{host_of, names_of}
use Rattle.pt_canon.specs.Canon.{texts_by}
use Rattle.pt_args.proofs.caller.Caller.walk_from.Goals as goal

-- a host text that was reached begins at the root
pub returns-clause-written : goal.returns-clause-written
returns-clause-written g c =
    let texts = texts_by c.args.walker.now.table (g.K.Peeks.peeked c.args.kernel.now) c.args.self.now.tags.now in
    let own = c.answers_are_of_their_texts.ensures texts c.args.path.mode (names_of c.args.base.now) c.args.path.text.now c.in_ok-canon.canon c.in_ok-canon.ensures.answer in
    record { guest = c.in_ok-canon.ensures.written; host = ap is_absolute own.2 ∙ text_absolute (host_of texts.bindings own.0) }
