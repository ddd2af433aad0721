use Rattle.std.proofs.Common.{lit<, Ok, Err, ap, refl, subst, ◌∙◌}
use Rattle.std.proofs.lemmas.Result.{on_ok_weaker}
use Rattle.kr_execve.specs.kr_calls.declared.fault.CallFault.{CallFault}
use Rattle.kr_hostview.specs.kr_ops.Meaning.{meaning}
use Rattle.kr_hostview.proofs.kr_ops.UseLemmas.{sound-of}
use Rattle.kr_calm.specs.kr_seen.Numbered.{state_numbered}
use Rattle.kr_steps.specs.Calls.{MayCall}
use Rattle.kr_steps.proofs.ComputingLemmas.{runs-later}
use Rattle.kr_steps.specs.Computing.{Requests}
use Rattle.kr_turns.specs.Breaking.{nothing_reached}
use Rattle.kr_turns.specs.PlainCall.{refusal_told}
use Rattle.kr_turns.proofs.AlteredLemmas.{altered-around, meant-tree, unaltered}
use Rattle.kr_turns.proofs.PlainLemmas.{call-refused, carried-left, if-ok, lives-mid, reach-carried, reach-refused, rule-carried, rule-refused}
use Rattle.kr_turns.proofs.plain.plain_call.Goals as goal

pub refuse-requires : goal.refuse-requires
refuse-requires g c =
    let runs = c.in-Err-Err.ensures.runs g.P.Places.number (g.P.Places.mounts c.args.places.now) c.requires.caller.may.calls c.requires.caller.may.runs in
    (lit< tt, sound-of g.P.Places.number (g.P.Places.mounts c.args.places.now) c.request.new.state runs.lasts.lawful runs.served)

pub returns-in-Err-Err-clause-came : goal.returns-in-Err-Err-clause-came
returns-in-Err-Err-clause-came g c =
    let number = g.P.Places.number in
    let table = g.P.Places.mounts c.args.places.now in
    let mid = c.request.new.state in
    let requested = subst (λ (f : CallFault). Requests c.args.pid c.args.state.now mid (Err f)) c.in-Err-Err.field-0-is c.in-Err-Err.ensures.requested in
    call-refused number table c.args.pid c.args.state.now mid _ requested c.in-Err-Err.errno requested.gives.0 _
    (c.refuse.ensures.came number ∙ ap (λ e. refusal_told c.args.pid e (state_numbered number (meaning mid))) c.in-Err-Err.errno-is)

pub returns-in-Err-Err-clause-reach : goal.returns-in-Err-Err-clause-reach
returns-in-Err-Err-clause-reach g c =
    let number = g.P.Places.number in
    let table = g.P.Places.mounts c.args.places.now in
    let mid = c.request.new.state in
    let requested = subst (λ (f : CallFault). Requests c.args.pid c.args.state.now mid (Err f)) c.in-Err-Err.field-0-is c.in-Err-Err.ensures.requested in
    c.refuse.ensures.reach ∙ reach-refused number table c.args.pid c.args.state.now mid _ requested c.in-Err-Err.errno requested.gives.0 nothing_reached

pub returns-in-Err-Err-clause-rule : goal.returns-in-Err-Err-clause-rule
returns-in-Err-Err-clause-rule g c =
    let number = g.P.Places.number in
    let table = g.P.Places.mounts c.args.places.now in
    let mid = c.request.new.state in
    let requested = subst (λ (f : CallFault). Requests c.args.pid c.args.state.now mid (Err f)) c.in-Err-Err.field-0-is c.in-Err-Err.ensures.requested in
    c.refuse.ensures.rule ∙ rule-refused number table c.args.pid c.args.state.now mid _ requested c.args.no_shelf c.in-Err-Err.errno requested.gives.0

pub returns-in-Err-Err-clause-runs : goal.returns-in-Err-Err-clause-runs
returns-in-Err-Err-clause-runs g c = λ calls few runs. runs-later _ _ calls c.refuse.new.state (c.refuse.ensures.runs _ _ calls (c.in-Err-Err.ensures.runs _ _ calls runs))

pub carry_request-requires : goal.carry_request-requires
carry_request-requires g c =
    let number = g.P.Places.number in
    let table = g.P.Places.mounts c.args.places.now in
    let mid = c.request.new.state in
    let requested = c.in-Ok.ensures.requested in
    let may : MayCall number table mid = record { calls = c.requires.caller.may.calls; few = c.requires.caller.may.few; runs = c.in-Ok.ensures.runs number table c.requires.caller.may.calls c.requires.caller.may.runs } in
    (lit< tt, (record { given = c.in-Ok.ensures.given; paths = c.in-Ok.ensures.paths }, (record { named = c.requires.caller.named; may = may; lives = lives-mid number table c.args.pid c.args.state.now mid _ requested }, c.requires.few_rows)))

pub returns-clause-came : goal.returns-clause-came
returns-clause-came g c =
    let number = g.P.Places.number in
    let table = g.P.Places.mounts c.args.places.now in
    let requested = c.in-Ok.ensures.requested in
    carried-left number table c.args.pid c.args.state.now c.request.new.state (Ok c.in-Ok.request) requested c.carry_request.new.state c.in-Ok.request requested.gives.0 c.carry_request.result c.carry_request.ensures.came

pub returns-clause-reach : goal.returns-clause-reach
returns-clause-reach g c =
    let number = g.P.Places.number in
    let table = g.P.Places.mounts c.args.places.now in
    let requested = c.in-Ok.ensures.requested in
    if-ok c.carry_request.result (λ plain reaches. reach-carried number table c.args.pid c.args.state.now c.request.new.state _ requested c.in-Ok.request requested.gives.0 nothing_reached plain.reach reaches) c.carry_request.ensures.reach

pub returns-clause-rule : goal.returns-clause-rule
returns-clause-rule g c =
    let number = g.P.Places.number in
    let table = g.P.Places.mounts c.args.places.now in
    let requested = c.in-Ok.ensures.requested in
    if-ok c.carry_request.result (λ plain rule. rule-carried number table c.args.pid c.args.state.now c.request.new.state _ requested c.args.no_shelf c.in-Ok.request requested.gives.0 plain.broken rule) c.carry_request.ensures.rule

pub returns-clause-runs : goal.returns-clause-runs
returns-clause-runs g c = on_ok_weaker c.carry_request.result (λ h calls few runs. h calls few (c.in-Ok.ensures.runs _ _ calls runs)) c.carry_request.ensures.runs

pub returns-in-Err-Err-clause-altered : goal.returns-in-Err-Err-clause-altered
returns-in-Err-Err-clause-altered g c =
    let mid = c.request.new.state in
    let requested = subst (λ (f : CallFault). Requests c.args.pid c.args.state.now mid (Err f)) c.in-Err-Err.field-0-is c.in-Err-Err.ensures.requested in
    unaltered c.refuse.result.altered c.args.state.now.tree c.refuse.new.state.tree c.refuse.ensures.altered (c.refuse.ensures.tree ∙ meant-tree mid _ requested.leaves)

pub returns-clause-altered : goal.returns-clause-altered
returns-clause-altered g c =
    let mid = c.request.new.state in
    let new = c.carry_request.new.state in
    if-ok c.carry_request.result (λ plain is. altered-around plain.altered c.args.state.now.tree mid.tree new.tree new.tree (meant-tree mid _ c.in-Ok.ensures.requested.leaves) refl is) c.carry_request.ensures.altered
