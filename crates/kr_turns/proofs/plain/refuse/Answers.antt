use Rattle.std.proofs.Common.{◌≡◌, None, refl, rules, ap, ◌∙◌, to_z, of_z, w64, ◌-ℤ◌, neg_ℤ, pos}
use Rattle.kr_hostview.specs.pr_base.Errno.{errno_number}
use Rattle.kr_hostview.specs.kr_ops.Meaning.{meaning}
use Rattle.kr_steps.specs.Answering.{answered}
use Rattle.kr_steps.specs.Calls.{nothing_altered}
use Rattle.kr_steps.specs.kr_stops.Stopped.{nothing_handed}
use Rattle.kr_turns.specs.declared.plain.CallEnd.TheVariants as end
use Rattle.kr_turns.proofs.AlteredLemmas.{meant-tree}
use Rattle.kr_turns.proofs.PlainLemmas.{refused}
use Rattle.kr_turns.proofs.plain.refuse.Goals as goal

pub returns-clause-came : goal.returns-clause-came
returns-clause-came g c = λ number.
    let value : to_z w64 (of_z w64 (pos 0 -ℤ to_z w64 (of_z w64 c.from.result))) ≡ neg_ℤ (pos (errno_number c.args.errno)) = search rules in
    refused number c.args.pid c.args.errno c.args.state.now c.answer.new.state
    (record { end = end.Answered; child = None; handed = nothing_handed; reach = c.args.reach; broken = c.idle_rule-broken.result; altered = nothing_altered })
    (c.answer.ensures.answers ∙ ap (λ v. answered c.args.pid v (meaning c.args.state.now)) value) refl refl refl

pub returns-clause-tree : goal.returns-clause-tree
returns-clause-tree g c = meant-tree c.answer.new.state _ c.answer.ensures.answers
