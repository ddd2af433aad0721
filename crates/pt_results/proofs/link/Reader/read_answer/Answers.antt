use Rattle.std.proofs.Common.{◌∙◌, ◌&&◌, Ok, ap, sym}
use Rattle.std.proofs.lemmas.Result.{on_ok_weaker}
use Rattle.pt_args.proofs.pt_canon.NotedLemmas.{never_steady}
use Rattle.pt_results.proofs.link.Reader.read_answer.Goals as goal

-- a link of the process directory is found by a name in it
pub returns-in-Ok-Jump-clause-noted : goal.returns-in-Ok-Jump-clause-noted
returns-in-Ok-Jump-clause-noted g c =
    let host = c.args.canon.now.host in
    let peeked = g.K.Peeks.peeked c.args.kernel.now in
    let old = g.K.Peeks.unmet c.args.kernel.now in
    let met = never_steady old (peeked.steady host) (λ steady. g.met.K.Peeks.steady_is_no_jump c.args.kernel.now host steady (ap peeked.kind (sym c.as_slice.ensures) ∙ c.in-Ok-Jump.ensures.answer ∙ ap Ok c.in-Ok-Jump.field-0-is)) in
    on_ok_weaker c.jump_answer.result (λ e. e ∙ sym met) (c.jump_answer.ensures.noted (c.in-Ok-Jump.ensures.noted ∙ ap (λ h. old && peeked.steady h) c.as_slice.ensures ∙ met))
