use Rattle.std.proofs.Common.{sym, ap, ◌∙◌}
use Rattle.kr_steps.specs.kr_model.Known.{Known}
use Rattle.kr_steps.specs.kr_model.State.{image_layout}
use Rattle.kr_hostview.specs.kr_ops.Meaning.{meaning}
use Rattle.kr_calm.proofs.kr_seen.LookLemmas.{known-numbered}
use Rattle.kr_turns.specs.Target.{target_of}
use Rattle.kr_turns.proofs.plain.handed_on.Goals as goal

pub returns : goal.returns
returns g c = λ answer are.
    let number = g.P.Places.number in
    let s = meaning c.args.state.now in
    let target = c.target_of.ensures number answer are ∙ ap (λ (k : Known). target_of c.args.request.now k answer) (sym (known-numbered number image_layout c.args.pid s)) in
    λ i. record { at_root = c.leads_to_root.ensures answer are i; target = target i }
