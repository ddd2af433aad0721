use Rattle.std.proofs.Common.{lit<, refl, sym, ap, subst, ◌∙◌}
use Rattle.std.proofs.lemmas.Result.{on_ok_weaker}
use Rattle.kr_steps.specs.law_allowed.Calls.{HasTextPaths}
use Rattle.kr_execve.specs.kr_calls.declared.request.Request.{Request}
use Rattle.kr_execve.specs.kr_calls.declared.request.Request.TheVariants as call
use Rattle.kr_steps.specs.law_allowed.Texts.{IsText}
use Rattle.kr_hostview.specs.kr_ops.Meaning.{meaning}
use Rattle.kr_calm.specs.kr_seen.Numbered.{state_numbered}
use Rattle.kr_execve.specs.kr_tree.Lawful.{AreBytes}
use Rattle.kr_turns.specs.Breaking.{nothing_reached}
use Rattle.kr_turns.specs.PlainCall.{request_reach, requested}
use Rattle.kr_turns.proofs.PlainLemmas.{if-ok, same-rule}
use Rattle.kr_turns.proofs.plain.carry_request.Goals as goal

pub replace-requires : goal.replace-requires
replace-requires g c =
    let texts = subst HasTextPaths c.in-Execve.is c.requires.request.paths 0 _ refl in
    (lit< tt, (subst IsText (sym c.as_slice.ensures) texts.0, (subst AreBytes (sym c.as_slice.ensures) texts.1, (c.requires.caller, c.requires.few_rows))))

pub returns-in-Execve-clause-came : goal.returns-in-Execve-clause-came
returns-in-Execve-clause-came g c =
    let table = g.P.Places.mounts c.args.places.now in
    let s = state_numbered g.P.Places.number (meaning c.args.state.now) in
    if-ok c.replace.result
    (λ plain came.
    came
    ∙ ap (λ path. requested table c.args.pid (call.Execve path c.in-Execve.args c.in-Execve.env) s) c.as_slice.ensures
    ∙ sym (ap (λ (r : Request). requested table c.args.pid r s) c.in-Execve.is))
    c.replace.ensures.came

pub returns-in-Execve-clause-reach : goal.returns-in-Execve-clause-reach
returns-in-Execve-clause-reach g c =
    let table = g.P.Places.mounts c.args.places.now in
    let s = state_numbered g.P.Places.number (meaning c.args.state.now) in
    if-ok c.replace.result
    (λ plain reaches.
    reaches
    ∙ ap (λ path. request_reach table c.args.pid (call.Execve path c.in-Execve.args c.in-Execve.env) s nothing_reached) c.as_slice.ensures
    ∙ sym (ap (λ (r : Request). request_reach table c.args.pid r s nothing_reached) c.in-Execve.is))
    c.replace.ensures.reach

pub returns-in-Execve-clause-rule : goal.returns-in-Execve-clause-rule
returns-in-Execve-clause-rule g c =
    same-rule g.row.M (g.P.Places.mounts c.args.places.now) c.args.pid c.args.no_shelf (state_numbered g.P.Places.number (meaning c.args.state.now)) (call.Execve c.as_slice.result.now c.in-Execve.args c.in-Execve.env) c.args.request.now
    (ap (λ path. call.Execve path c.in-Execve.args c.in-Execve.env) c.as_slice.ensures ∙ sym c.in-Execve.is) c.replace.result c.replace.ensures.rule

pub returns-in-Execve-clause-runs : goal.returns-in-Execve-clause-runs
returns-in-Execve-clause-runs g c = on_ok_weaker c.replace.result (λ runs calls few before. runs calls before) c.replace.ensures.runs
