use Rattle.std.proofs.Common.{lit<, Err, sym, ap, subst, false, None, ◌||◌, ◌∙◌}
use Rattle.kr_steps.specs.rv_mem.Memory.{Memory}
use Rattle.kr_execve.specs.kr_view.declared.target.Reach.{Reach}
use Rattle.kr_execve.specs.kr_view.declared.target.WalkFault.{WalkFault}
use Rattle.kr_steps.specs.kr_model.Walks.{targets_of}
use Rattle.kr_hostview.specs.kr_ops.Meaning.{meaning}
use Rattle.kr_hostview.proofs.kr_ops.UseLemmas.{sound-of}
use Rattle.kr_calm.specs.kr_seen.Numbered.{state_numbered}
use Rattle.kr_calm.specs.kr_seen.CallWalks.{AreTargets, IsReachedTo, call_reach}
use Rattle.kr_calm.specs.kr_seen.declared.walks.Targets.{Targets}
use Rattle.kr_steps.specs.Calls.{MayCall}
use Rattle.kr_steps.proofs.ComputingLemmas.{runs-later}
use Rattle.kr_turns.specs.Breaking.{nothing_reached, rule_told}
use Rattle.kr_turns.specs.Looking.{judged}
use Rattle.kr_turns.specs.PlainCall.{refusal_told}
use Rattle.kr_turns.proofs.AlteredLemmas.{altered-around, noted-tree, settles-tree, unaltered}
use Rattle.kr_turns.proofs.BreakLemmas.{real-points, refused-told}
use Rattle.kr_turns.proofs.NotedLemmas.{along-kept, called-kept, lives-kept, runs-kept}
use Rattle.kr_turns.proofs.NumberLemmas.{memory-numbered}
use Rattle.kr_turns.proofs.PlainLemmas.{came-refused, lives-shown, no-exec-reach, no-exec-requested, no-exec-rule, operated-now, outcome-told, row-left}
use Rattle.kr_turns.proofs.plain.operate.Goals as goal

pub refuse-requires : goal.refuse-requires
refuse-requires g c =
    let runs = c.requires.caller.may.runs in
    (lit< tt, sound-of g.P.Places.number (g.P.Places.mounts c.args.places.now) c.args.state.now runs.lasts.lawful runs.served)

pub returns-in-Err-Err-clause-came : goal.returns-in-Err-Err-clause-came
returns-in-Err-Err-clause-came g c =
    let number = g.P.Places.number in
    let table = g.P.Places.mounts c.args.places.now in
    let s = c.args.state.now in
    let fails = subst (λ (f : WalkFault). AreTargets number (targets_of table c.args.pid (state_numbered number (meaning s)) c.args.request.now) (Err f)) c.in-Err-Err.field-0-is c.in-Err-Err.ensures.answer in
    came-refused number table c.args.pid c.args.request.now s c.in-Err-Err.errno fails c.requires.caller.may.runs.lasts.lawful.pids _
    (c.refuse.ensures.came number ∙ ap (λ e. refusal_told c.args.pid e (state_numbered number (meaning s))) c.in-Err-Err.errno-is)
    ∙ no-exec-requested table c.args.pid (state_numbered number (meaning s)) c.args.request.now c.requires.kind

pub returns-in-Err-Err-clause-reach : goal.returns-in-Err-Err-clause-reach
returns-in-Err-Err-clause-reach g c =
    let number = g.P.Places.number in
    let table = g.P.Places.mounts c.args.places.now in
    let s = state_numbered number (meaning c.args.state.now) in
    c.refuse.ensures.reach
    ∙ subst (λ (f : WalkFault). IsReachedTo {T = Targets g.row.P-Mount.Denot} (call_reach table c.args.pid s c.args.request.now nothing_reached) nothing_reached c.walk_paths.new.reach (Err f)) c.in-Err-Err.field-0-is c.in-Err-Err.ensures.reach
    ∙ no-exec-reach table c.args.pid s nothing_reached c.args.request.now c.requires.kind

pub returns-in-Err-Err-clause-rule : goal.returns-in-Err-Err-clause-rule
returns-in-Err-Err-clause-rule g c =
    let number = g.P.Places.number in
    let table = g.P.Places.mounts c.args.places.now in
    let s = state_numbered number (meaning c.args.state.now) in
    let fails = subst (λ (f : WalkFault). AreTargets number (targets_of table c.args.pid s c.args.request.now) (Err f)) c.in-Err-Err.field-0-is c.in-Err-Err.ensures.answer in
    let reaches =
    subst (λ (f : WalkFault). IsReachedTo {T = Targets g.row.P-Mount.Denot} (call_reach table c.args.pid s c.args.request.now nothing_reached) nothing_reached c.walk_paths.new.reach (Err f)) c.in-Err-Err.field-0-is c.in-Err-Err.ensures.reach
    in
    c.refuse.ensures.rule
    ∙ ap (λ (m : Memory). rule_told g.row.M (m.read_marked || c.args.no_shelf) false None c.walk_paths.new.reach) (sym (memory-numbered number c.args.pid (meaning c.args.state.now)))
    ∙ refused-told g.row.M table c.args.pid c.args.no_shelf s c.args.request.now c.in-Err-Err.errno fails c.walk_paths.new.reach reaches
    ∙ no-exec-rule g.row.M table c.args.pid c.args.no_shelf s c.args.request.now c.requires.kind

pub returns-in-Err-Err-clause-runs : goal.returns-in-Err-Err-clause-runs
returns-in-Err-Err-clause-runs g c = λ calls few runs. runs-later _ _ calls c.refuse.new.state (c.refuse.ensures.runs _ _ calls runs)

pub handed_on-handed-requires : goal.handed_on-handed-requires
handed_on-handed-requires g c =
    let runs = c.requires.caller.may.runs in
    (lit< tt, record { sound = sound-of g.P.Places.number (g.P.Places.mounts c.args.places.now) c.args.state.now runs.lasts.lawful runs.served; lives = c.requires.caller.lives })

pub look_ahead-ahead-requires : goal.look_ahead-ahead-requires
look_ahead-ahead-requires g c =
    let number = g.P.Places.number in
    let table = g.P.Places.mounts c.args.places.now in
    let runs = c.requires.caller.may.runs in
    let lawful = runs.lasts.lawful in (
      lit< tt,
      (record { points = real-points c.args.state.now.tree table lawful.tree lawful.mounts; few = c.requires.few_rows }, (record { sound = sound-of number table c.args.state.now lawful runs.served; lives = c.requires.caller.lives }, c.in-Ok.ensures.answer)),
    )

pub carry_out_along-carried-requires : goal.carry_out_along-carried-requires
carry_out_along-carried-requires g c =
    let number = g.P.Places.number in
    let table = g.P.Places.mounts c.args.places.now in
    let old = c.args.state.now in
    let mid = c.look_ahead-ahead.new.state in
    let r = c.args.request.now in
    let noted = c.look_ahead-ahead.ensures.noted in
    let before = c.requires.caller.may in
    let pids = before.runs.lasts.lawful.pids in
    let may : MayCall number table mid = record { calls = before.calls; few = before.few; runs = runs-kept number table c.args.pid old mid r noted c.requires.caller.lives before.calls before.runs } in (
      lit< tt,
      (
        c.requires.kind,
        (
          c.requires.request,
          (
            record { named = c.requires.caller.named; may = may; lives = lives-kept number table c.args.pid old mid r noted c.requires.caller.lives },
            along-kept number table c.args.pid old mid r pids noted c.in-Ok.targets c.in-Ok.ensures.answer,
          ),
        ),
      ),
    )

pub judge_call-broken-requires : goal.judge_call-broken-requires
judge_call-broken-requires g c =
    let number = g.P.Places.number in
    let table = g.P.Places.mounts c.args.places.now in
    let may = c.requires.caller.may in
    let mid-runs = runs-kept number table c.args.pid c.args.state.now c.look_ahead-ahead.new.state c.args.request.now c.look_ahead-ahead.ensures.noted c.requires.caller.lives may.calls may.runs in (
      lit< tt,
      λ wanted.
          let runs = c.carry_out_along-carried.ensures.runs may.calls may.few mid-runs wanted in
          sound-of number table c.carry_out_along-carried.new.state runs.lasts.lawful runs.served,
    )

pub settle-requires : goal.settle-requires
settle-requires g c =
    let number = g.P.Places.number in
    let table = g.P.Places.mounts c.args.places.now in
    let may = c.requires.caller.may in
    let mid-runs = runs-kept number table c.args.pid c.args.state.now c.look_ahead-ahead.new.state c.args.request.now c.look_ahead-ahead.ensures.noted c.requires.caller.lives may.calls may.runs in (
      lit< tt,
      λ wanted.
          let runs = c.carry_out_along-carried.ensures.runs may.calls may.few mid-runs wanted in
          sound-of number table c.carry_out_along-carried.new.state runs.lasts.lawful runs.served,
    )

pub returns-clause-came : goal.returns-clause-came
returns-clause-came g c =
    let number = g.P.Places.number in
    let table = g.P.Places.mounts c.args.places.now in
    let old = c.args.state.now in
    let after = c.carry_out_along-carried.new.state in
    let called = called-kept number table c.args.pid old c.look_ahead-ahead.new.state c.args.request.now c.requires.caller.may.runs.lasts.lawful.pids c.look_ahead-ahead.ensures.noted after c.carry_out_along-carried.result.outcome (c.carry_out_along-carried.ensures.called c.in_ok-end.ensures.want) in
    operated-now number table c.args.pid c.args.request.now old after c.carry_out_along-carried.result.outcome called c.settle.new.state
    (record { end = c.in_ok-end.end; child = c.child_of-child.result; handed = c.handed_on-handed.result; reach = c.walk_paths.new.reach; broken = c.judge_call-broken.result; altered = c.carry_out_along-carried.result.altered })
    c.in_ok-end.ensures.settles c.in_ok-end.ensures.end c.child_of-child.ensures
    (c.handed_on-handed.ensures _ c.in-Ok.ensures.answer)
    ∙ no-exec-requested table c.args.pid (state_numbered number (meaning old)) c.args.request.now c.requires.kind

pub returns-clause-reach : goal.returns-clause-reach
returns-clause-reach g c =
    c.in-Ok.ensures.reach
    ∙ no-exec-reach (g.P.Places.mounts c.args.places.now) c.args.pid (state_numbered g.P.Places.number (meaning c.args.state.now)) nothing_reached c.args.request.now c.requires.kind

pub returns-clause-rule : goal.returns-clause-rule
returns-clause-rule g c =
    let number = g.P.Places.number in
    let table = g.P.Places.mounts c.args.places.now in
    let old = c.args.state.now in
    let s = state_numbered number (meaning old) in
    let r = c.args.request.now in
    let after = c.carry_out_along-carried.new.state in
    let wanted = c.in_ok-end.ensures.want in
    let called = called-kept number table c.args.pid old c.look_ahead-ahead.new.state r c.requires.caller.may.runs.lasts.lawful.pids c.look_ahead-ahead.ensures.noted after c.carry_out_along-carried.result.outcome (c.carry_out_along-carried.ensures.called wanted) in
    c.judge_call-broken.ensures wanted number table r s c.look_ahead-ahead.ensures.ahead (lives-shown number c.args.pid old c.requires.caller.lives) (outcome-told number table c.args.pid r old after c.carry_out_along-carried.result.outcome called)
    (row-left number table c.args.pid r old after c.carry_out_along-carried.result.outcome called)
    ∙ ap (λ (reach : Reach). judged g.row.M table c.args.pid r s c.args.no_shelf reach) c.in-Ok.ensures.reach
    ∙ no-exec-rule g.row.M table c.args.pid c.args.no_shelf s r c.requires.kind

pub returns-clause-runs : goal.returns-clause-runs
returns-clause-runs g c = λ calls few runs.
    let number = g.P.Places.number in
    let table = g.P.Places.mounts c.args.places.now in
    c.in_ok-end.ensures.runs _ _ _
    (c.carry_out_along-carried.ensures.runs calls few (runs-kept number table c.args.pid c.args.state.now c.look_ahead-ahead.new.state c.args.request.now c.look_ahead-ahead.ensures.noted c.requires.caller.lives calls runs) c.in_ok-end.ensures.want)

pub returns-in-Err-Err-clause-altered : goal.returns-in-Err-Err-clause-altered
returns-in-Err-Err-clause-altered g c = unaltered c.refuse.result.altered c.args.state.now.tree c.refuse.new.state.tree c.refuse.ensures.altered c.refuse.ensures.tree

pub returns-clause-altered : goal.returns-clause-altered
returns-clause-altered g c =
    let old = c.args.state.now in
    let mid = c.look_ahead-ahead.new.state in
    let after = c.carry_out_along-carried.new.state in
    altered-around c.carry_out_along-carried.result.altered old.tree mid.tree after.tree c.settle.new.state.tree (noted-tree c.args.pid c.args.request.now old mid c.look_ahead-ahead.ensures.noted)
    (settles-tree c.args.pid c.carry_out_along-carried.result.outcome after c.settle.new.state c.in_ok-end.ensures.settles) (c.carry_out_along-carried.ensures.altered c.in_ok-end.ensures.want)
