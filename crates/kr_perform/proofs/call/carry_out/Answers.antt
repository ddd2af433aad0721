use Rattle.std.proofs.Common.{rules, lit<, Err, subst}
use Rattle.law_allowed.specs.kr_view.declared.target.WalkFault.{WalkFault}
use Rattle.law_allowed.specs.kr_model.Walks.{targets_of}
use Rattle.kr_rows.specs.kr_ops.Meaning.{meaning}
use Rattle.kr_transfer.specs.kr_seen.Numbered.{state_numbered}
use Rattle.kr_transfer.specs.kr_seen.CallWalks.{AreTargets}
use Rattle.kr_perform.proofs.CallLemmas.{refused-call, runs-later}
use Rattle.kr_perform.proofs.call.carry_out.Goals as goal

pub returns-in-Err-Err-clause-called : goal.returns-in-Err-Err-clause-called
returns-in-Err-Err-clause-called g c = λ wanted.
    let number = g.P.Places.number in
    let table = g.P.Places.mounts c.args.places.now in
    let s = c.args.state.now in
    let fails = subst (λ (f : WalkFault). AreTargets number (targets_of table c.args.pid (state_numbered number (meaning s)) c.args.request.now) (Err f)) c.in-Err-Err.field-0-is c.in-Err-Err.ensures.answer in
    refused-call number table c.args.pid c.args.request.now s c.refused.result c.in-Err-Err.errno fails c.requires.caller.may.runs.lasts.lawful.pids (search rules)

pub returns-in-Err-Err-clause-runs : goal.returns-in-Err-Err-clause-runs
returns-in-Err-Err-clause-runs g c = λ calls few runs wanted. runs-later g.P.Places.number (g.P.Places.mounts c.args.places.now) calls c.args.state.now runs
