use Rattle.std.proofs.Common.{lit<}
use Rattle.law_allowed.specs.kr_model.State as model
use Rattle.law_allowed.proofs.law_lawful.AfterLemmas.{some-of}
use Rattle.kr_rows.specs.kr_ops.Meaning.{meaning}
use Rattle.kr_perform.proofs.AlteringLemmas.{told-altered}
use Rattle.kr_perform.proofs.WalkedLemmas.{performed-last, walks_resolve, resolved_are_told}
use Rattle.kr_perform.proofs.CallLemmas.{are-texts, called, has-numbers}
use Rattle.kr_perform.proofs.call.carry_out_along.Goals as goal

pub perform_told-requires : goal.perform_told-requires
perform_told-requires g c =
    let number = g.P.Places.number in
    let table = g.P.Places.mounts c.args.places.now in
    let s = c.args.state.now in
    let runs = c.requires.caller.may.runs in
    let resolved = walks_resolve number table c.args.pid s c.args.request.now c.args.targets.now runs.lasts.lawful runs.served c.requires.caller.lives (are-texts number table s c.args.request.now c.requires.caller.may c.requires.request.paths) c.requires.along in
    (lit< tt, (c.requires.kind, (c.requires.request.given, (record { lawful = runs.lasts.lawful; served = runs.served; lives = c.requires.caller.lives }, (resolved, has-numbers number table s c.requires.caller.may)))))

pub returns-clause-called : goal.returns-clause-called
returns-clause-called g c =
    called g.P.Places.number (g.P.Places.mounts c.args.places.now) c.args.pid c.args.request.now c.args.state.now c.perform_told.new.state c.perform_told.result.outcome c.args.targets.now c.requires.along c.perform_told.ensures.performs

pub returns-clause-runs : goal.returns-clause-runs
returns-clause-runs g c = λ calls few runs wanted.
    let number = g.P.Places.number in
    let table = g.P.Places.mounts c.args.places.now in
    let s = c.args.state.now in
    let targets = c.args.targets.now in
    let own = some-of (model.process c.args.pid (meaning s)) c.requires.caller.lives in
    let told = resolved_are_told number table c.args.pid s c.args.request.now targets runs.lasts.lawful runs.lasts.lasts.texts c.requires.request.paths c.requires.caller.named c.requires.along in
    record {
      lasts = performed-last number table calls c.args.pid c.args.request.now targets.first targets.second s c.perform_told.new.state c.perform_told.result.outcome own.0 c.requires.kind c.perform_told.ensures.performs wanted few runs.lasts own.1 (c.memory_holds_bytes.ensures own.0 own.1) c.requires.request.given told;
      served = c.perform_told.ensures.served wanted;
    }

pub returns-clause-altered : goal.returns-clause-altered
returns-clause-altered g c = λ wanted.
    let number = g.P.Places.number in
    let table = g.P.Places.mounts c.args.places.now in
    let s = c.args.state.now in
    let targets = c.args.targets.now in
    let may = c.requires.caller.may in
    let runs = may.runs in
    let own = some-of (model.process c.args.pid (meaning s)) c.requires.caller.lives in
    let told = resolved_are_told number table c.args.pid s c.args.request.now targets runs.lasts.lawful runs.lasts.lasts.texts c.requires.request.paths c.requires.caller.named c.requires.along in
    told-altered number table c.args.pid c.args.request.now targets.first targets.second s may.calls c.perform_told.new.state c.perform_told.result.outcome c.perform_told.result.altered own.0 c.requires.kind c.perform_told.ensures.performs wanted may.few runs.lasts own.1
    (c.memory_holds_bytes.ensures own.0 own.1) c.requires.request.given told (c.perform_told.ensures.told wanted)
