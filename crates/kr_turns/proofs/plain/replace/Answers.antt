use Rattle.std.proofs.Common.{None, lit<, refl, sym, ap, ◌∙◌}
use Rattle.kr_hostview.specs.kr_ops.Meaning.{meaning}
use Rattle.kr_hostview.proofs.kr_ops.UseLemmas.{sound-of}
use Rattle.kr_calm.specs.kr_seen.Numbered.{state_numbered}
use Rattle.kr_execve.specs.Execution.{execution_reach}
use Rattle.kr_steps.specs.Calls.{nothing_altered}
use Rattle.kr_turns.specs.Breaking.{nothing_reached}
use Rattle.kr_steps.specs.kr_stops.Stopped.{nothing_handed}
use Rattle.kr_turns.specs.declared.plain.CallEnd.TheVariants as end
use Rattle.kr_turns.specs.declared.plain.Plain.{Plain}
use Rattle.kr_turns.proofs.AlteredLemmas.{executed-altered}
use Rattle.kr_turns.proofs.NumberLemmas.{memory-numbered}
use Rattle.kr_turns.proofs.PlainLemmas.{execution-left, refused-now, refused-rule, replaced-now, replaced-rule}
use Rattle.kr_turns.proofs.plain.replace.Goals as goal

pub resume-requires : goal.resume-requires
resume-requires g c =
    let may = c.requires.caller.may in
    let left = c.in-Replaced.ensures (λ e. absurd cc) in
    (lit< tt, sound-of g.P.Places.number (g.P.Places.mounts c.args.places.now) c.execute.new.state (left.lasts may.calls may.runs.lasts).lawful left.served)

pub refuse-requires : goal.refuse-requires
refuse-requires g c =
    let may = c.requires.caller.may in
    let left = c.in-Refused.ensures (λ e. absurd cc) in
    (lit< tt, sound-of g.P.Places.number (g.P.Places.mounts c.args.places.now) c.execute.new.state (left.lasts may.calls may.runs.lasts).lawful left.served)

pub returns-in-Replaced-clause-came : goal.returns-in-Replaced-clause-came
returns-in-Replaced-clause-came g c =
    let number = g.P.Places.number in
    let table = g.P.Places.mounts c.args.places.now in
    let left = c.in-Replaced.ensures (λ e. absurd cc) in
    replaced-now number table c.args.pid c.args.path.now c.args.args c.args.env c.args.state.now c.execute.new.state left.executed.told.0 c.resume.new.state
    (record { end = end.Replaced; child = None; handed = nothing_handed; reach = c.execute.new.reach; broken = c.rule_of.result; altered = nothing_altered })
    (execution-left number table c.args.pid c.args.path.now c.args.args c.args.env c.args.state.now c.execute.new.state _ left.executed) left.executed.told.1 c.resume.ensures.resumes refl refl refl

pub returns-in-Replaced-clause-reach : goal.returns-in-Replaced-clause-reach
returns-in-Replaced-clause-reach g c =
    let number = g.P.Places.number in
    let table = g.P.Places.mounts c.args.places.now in
    let s = meaning c.args.state.now in
    (c.in-Replaced.ensures (λ e. absurd cc)).reach
    ∙ ap (λ m. execution_reach table c.args.pid (state_numbered number s) c.args.path.now c.args.args c.args.env m nothing_reached) (sym (memory-numbered number c.args.pid s))

pub returns-in-Replaced-clause-rule : goal.returns-in-Replaced-clause-rule
returns-in-Replaced-clause-rule g c =
    let number = g.P.Places.number in
    let table = g.P.Places.mounts c.args.places.now in
    let s = meaning c.args.state.now in
    let left = c.in-Replaced.ensures (λ e. absurd cc) in
    c.rule_of.ensures
    ∙ replaced-rule number table c.args.pid c.args.path.now c.args.args c.args.env c.args.state.now c.execute.new.state c.args.no_shelf c.in-Replaced.marks_read c.execute.new.reach left.executed.told.2
    (left.reach ∙ ap (λ m. execution_reach table c.args.pid (state_numbered number s) c.args.path.now c.args.args c.args.env m nothing_reached) (sym (memory-numbered number c.args.pid s)))

pub returns-in-Replaced-clause-runs : goal.returns-in-Replaced-clause-runs
returns-in-Replaced-clause-runs g c = λ calls runs.
    let left = c.in-Replaced.ensures (λ e. absurd cc) in
    c.resume.ensures.runs _ _ _ (record { lasts = left.lasts calls runs.lasts; served = left.served })

pub returns-in-Refused-clause-came : goal.returns-in-Refused-clause-came
returns-in-Refused-clause-came g c =
    let number = g.P.Places.number in
    let table = g.P.Places.mounts c.args.places.now in
    let left = c.in-Refused.ensures (λ e. absurd cc) in
    refused-now number table c.args.pid c.args.path.now c.args.args c.args.env c.args.state.now c.execute.new.state c.in-Refused.errno _
    (execution-left number table c.args.pid c.args.path.now c.args.args c.args.env c.args.state.now c.execute.new.state _ left.executed) left.executed.told (c.refuse.ensures.came number)

pub returns-in-Refused-clause-reach : goal.returns-in-Refused-clause-reach
returns-in-Refused-clause-reach g c =
    let number = g.P.Places.number in
    let table = g.P.Places.mounts c.args.places.now in
    let s = meaning c.args.state.now in
    c.refuse.ensures.reach
    ∙ (c.in-Refused.ensures (λ e. absurd cc)).reach
    ∙ ap (λ m. execution_reach table c.args.pid (state_numbered number s) c.args.path.now c.args.args c.args.env m nothing_reached) (sym (memory-numbered number c.args.pid s))

pub returns-in-Refused-clause-rule : goal.returns-in-Refused-clause-rule
returns-in-Refused-clause-rule g c =
    let number = g.P.Places.number in
    let table = g.P.Places.mounts c.args.places.now in
    let s = meaning c.args.state.now in
    let left = c.in-Refused.ensures (λ e. absurd cc) in
    c.refuse.ensures.rule
    ∙ refused-rule number table c.args.pid c.args.path.now c.args.args c.args.env c.args.state.now c.execute.new.state c.in-Refused.errno
    (execution-left number table c.args.pid c.args.path.now c.args.args c.args.env c.args.state.now c.execute.new.state _ left.executed) left.executed.told c.requires.caller.lives c.args.no_shelf c.execute.new.reach
    (left.reach ∙ ap (λ m. execution_reach table c.args.pid (state_numbered number s) c.args.path.now c.args.args c.args.env m nothing_reached) (sym (memory-numbered number c.args.pid s)))

pub returns-in-Refused-clause-runs : goal.returns-in-Refused-clause-runs
returns-in-Refused-clause-runs g c = λ calls runs.
    let left = c.in-Refused.ensures (λ e. absurd cc) in
    c.refuse.ensures.runs _ _ _ (record { lasts = left.lasts calls runs.lasts; served = left.served })

pub returns-in-Replaced-clause-altered : goal.returns-in-Replaced-clause-altered
returns-in-Replaced-clause-altered g c =
    let plain : Plain = record { end = end.Replaced; child = None; handed = nothing_handed; reach = c.execute.new.reach; broken = None; altered = nothing_altered } in
    executed-altered (g.P.Places.mounts c.args.places.now) c.args.pid g.P.Places.number c.args.path.now c.args.args c.args.env c.args.state.now c.resume.new.state plain nothing_altered c.requires.caller.may.runs.lasts.lawful.tree
    (returns-in-Replaced-clause-came g c) refl

pub returns-in-Refused-clause-altered : goal.returns-in-Refused-clause-altered
returns-in-Refused-clause-altered g c =
    let plain = c.refuse.result in
    executed-altered (g.P.Places.mounts c.args.places.now) c.args.pid g.P.Places.number c.args.path.now c.args.args c.args.env c.args.state.now c.refuse.new.state plain plain.altered c.requires.caller.may.runs.lasts.lawful.tree
    (returns-in-Refused-clause-came g c) c.refuse.ensures.altered
