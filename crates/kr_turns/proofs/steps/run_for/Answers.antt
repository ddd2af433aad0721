use Rattle.std.proofs.Common.{◌+◌, ◌<◌, ◌∙◌, Option, None, arith, ap, lit<, refl, sym}
use Rattle.kr_steps.specs.rv_cpu.declared.event.Event.TheVariants.{Call, Killed, Next}
use Rattle.kr_steps.specs.rv_cpu.Run.{ran}
use Rattle.kr_calm.specs.kr_seen.Numbered.{state_numbered}
use Rattle.kr_hostview.specs.kr_ops.Meaning.{meaning}
use Rattle.kr_hostview.specs.kr_ops.Sound.{IsOfView}
use Rattle.kr_hostview.proofs.kr_ops.UseLemmas.{sound-of}
use Rattle.kr_calm.specs.declared.rule.Rule.{Rule}
use Rattle.kr_steps.specs.kr_stops.Watching.{watching}
use Rattle.kr_turns.specs.Making.{machine_of}
use Rattle.kr_turns.specs.Turn.{with_broken, with_status}
use Rattle.kr_turns.proofs.AgreeLemmas.{agrees-now, killed-agrees}
use Rattle.kr_turns.proofs.AlteredLemmas.{killed-both, meant-tree, same-both}
use Rattle.kr_turns.proofs.ApartLemmas.{killed-leaves, leaves-then}
use Rattle.kr_turns.proofs.BreakLemmas.{idle-here, killed-here}
use Rattle.kr_turns.proofs.MakingLemmas.{call_done, computed-others, computed-still, kept-none, killed-now, left-free, stretch-after}
use Rattle.kr_turns.proofs.steps.run_for.Goals as goal

-- ---- before calls

pub idle_rule-requires : goal.idle_rule-requires
idle_rule-requires g c =
    let caller = c.requires.caller in
    let runs = c.in_ok-event.ensures.runs caller.number caller.table caller.calls caller.runs in
    (lit< tt, sound-of caller.number caller.table c.compute.new.state runs.lasts.lawful runs.served)

pub marks_read-read-requires : goal.marks_read-read-requires
marks_read-read-requires g c =
    let caller = c.requires.caller in
    let runs = c.in_ok-event.ensures.runs caller.number caller.table caller.calls caller.runs in
    (lit< tt, sound-of caller.number caller.table c.compute.new.state runs.lasts.lawful runs.served)

pub kill-requires : goal.kill-requires
kill-requires g c =
    let caller = c.requires.caller in
    let runs = c.in_ok-event.ensures.runs caller.number caller.table caller.calls caller.runs in
    let view : IsOfView c.compute.new.state = record { number = caller.number; table = caller.table; lawful = runs.lasts.lawful; served = runs.served } in
    (lit< tt, record { view = view; lives = computed-still c.args.pid c.args.fuel c.args.state.now c.compute.new.state _ _ c.in_ok-event.ensures.computes })

pub killed_rule-requires : goal.killed_rule-requires
killed_rule-requires g c =
    let caller = c.requires.caller in
    (lit< tt, (c.in_ok-kill-in-Killed.ensures.runs caller.number caller.table caller.calls (c.in_ok-event.ensures.runs caller.number caller.table caller.calls caller.runs)).served)

pub overflow_sub-before : goal.overflow_sub-before
overflow_sub-before g c =
    let computes = c.in_ok-event.ensures.computes in
    let own = computes.process.image in
    let some : 0 < (ran c.args.fuel own.regs own.memory).done = call_done c.args.fuel None own.regs own.memory (sym computes.ends ∙ c.in-Call.is) in
    let counts = computes.counts in
    omega arith

-- ---- what the instructions came to

pub returns-in-Next-clause-stretch : goal.returns-in-Next-clause-stretch
returns-in-Next-clause-stretch g c = λ number. record {
  ends = λ table p found tally.
      let mid = c.compute.new.state in
      stretch-after (watching g.S.Stops.enters g.S.Stops.exits g.S.Stops.bears g.S.Stops.forgets) number c.args.pid c.args.fuel c.args.state.now mid c.in_ok-event.event Next c.in_ok-event.done c.in_ok-event.ensures.computes c.in-Next.is table p found c.args.stops.now tally _ _ (
        refl,
        refl,
        ap (λ (broken : Option Rule). machine_of number mid c.args.stops.now (with_broken broken tally)) (c.idle_rule.ensures ∙ idle-here number table c.args.pid _ mid),
      );
}

pub returns-in-Call-clause-stretch : goal.returns-in-Call-clause-stretch
returns-in-Call-clause-stretch g c = λ number. record {
  ends = λ table p found tally.
      let mid = c.compute.new.state in
      stretch-after (watching g.S.Stops.enters g.S.Stops.exits g.S.Stops.bears g.S.Stops.forgets) number c.args.pid c.args.fuel c.args.state.now mid c.in_ok-event.event Call c.in_ok-event.done c.in_ok-event.ensures.computes c.in-Call.is table p found c.args.stops.now tally _ _ (
        refl,
        refl,
        ap (λ (broken : Option Rule). machine_of number mid c.args.stops.now (record { status = tally.status; broken = broken })) (kept-none tally.broken),
      );
}

pub returns-in_ok-kill-in-Killed-clause-stretch : goal.returns-in_ok-kill-in-Killed-clause-stretch
returns-in_ok-kill-in-Killed-clause-stretch g c = λ number. record {
  ends = λ table p found tally.
      let mid = c.compute.new.state in
      let now = killed-now number c.args.pid c.in-Killed.signal mid c.kill.new.state c.in_ok-kill-in-Killed.ensures.ends in
      stretch-after (watching g.S.Stops.enters g.S.Stops.exits g.S.Stops.bears g.S.Stops.forgets) number c.args.pid c.args.fuel c.args.state.now mid c.in_ok-event.event (Killed c.in-Killed.signal) c.in_ok-event.done c.in_ok-event.ensures.computes c.in-Killed.is table p found c.args.stops.now tally _ _ (
        refl,
        refl,
        now,
        c.gone.ensures.forgets,
        ap (λ (broken : Option Rule). with_status (128 + c.in-Killed.signal) (with_broken broken tally))
            (c.killed_rule.ensures ∙ killed-here number table c.args.pid c.in-Killed.signal mid c.kill.new.state _ c.marks_read-read.ensures now),
      );
}

-- ---- what lasts

pub returns-in-Next-clause-runs : goal.returns-in-Next-clause-runs
returns-in-Next-clause-runs g c = c.in_ok-event.ensures.runs

pub returns-in-Call-clause-runs : goal.returns-in-Call-clause-runs
returns-in-Call-clause-runs g c = c.in_ok-event.ensures.runs

pub returns-in_ok-kill-in-Killed-clause-runs : goal.returns-in_ok-kill-in-Killed-clause-runs
returns-in_ok-kill-in-Killed-clause-runs g c = λ number table calls runs. c.in_ok-kill-in-Killed.ensures.runs number table calls (c.in_ok-event.ensures.runs number table calls runs)

pub returns-in-Next-clause-agrees : goal.returns-in-Next-clause-agrees
returns-in-Next-clause-agrees g c = agrees-now g.S.Stops.agrees c.args.stops.now c.compute.new.state _ c.in_ok-event.ensures.computes.leaves c.requires.agrees

pub returns-in-Call-clause-agrees : goal.returns-in-Call-clause-agrees
returns-in-Call-clause-agrees g c = agrees-now g.S.Stops.agrees c.args.stops.now c.compute.new.state _ c.in_ok-event.ensures.computes.leaves c.requires.agrees

pub returns-in_ok-kill-in-Killed-clause-agrees : goal.returns-in_ok-kill-in-Killed-clause-agrees
returns-in_ok-kill-in-Killed-clause-agrees g c =
    let caller = c.requires.caller in
    let runs = c.in_ok-event.ensures.runs caller.number caller.table caller.calls caller.runs in
    let before = agrees-now g.S.Stops.agrees c.args.stops.now c.compute.new.state _ c.in_ok-event.ensures.computes.leaves c.requires.agrees in
    c.gone.ensures.agrees _ _
    (killed-agrees g.S.Stops.agrees g.met.S.Stops.lasts_with_shape c.args.pid c.in-Killed.signal c.compute.new.state c.kill.new.state c.args.stops.now runs.lasts.lawful.tree c.in_ok-kill-in-Killed.ensures.ends before)

pub returns-in-Next-clause-free : goal.returns-in-Next-clause-free
returns-in-Next-clause-free g c = left-free g.S.Stops.is_free c.args.pid c.args.stops.now

pub returns-in-Call-clause-free : goal.returns-in-Call-clause-free
returns-in-Call-clause-free g c = left-free g.S.Stops.is_free c.args.pid c.args.stops.now

pub returns-in_ok-kill-in-Killed-clause-free : goal.returns-in_ok-kill-in-Killed-clause-free
returns-in_ok-kill-in-Killed-clause-free g c = c.gone.ensures.others

pub returns-in-Next-clause-others : goal.returns-in-Next-clause-others
returns-in-Next-clause-others g c = λ number. computed-others number c.args.pid c.args.fuel c.args.state.now c.compute.new.state c.in_ok-event.event c.in_ok-event.done c.in_ok-event.ensures.computes

pub returns-in-Call-clause-others : goal.returns-in-Call-clause-others
returns-in-Call-clause-others g c = λ number. computed-others number c.args.pid c.args.fuel c.args.state.now c.compute.new.state c.in_ok-event.event c.in_ok-event.done c.in_ok-event.ensures.computes

pub returns-in_ok-kill-in-Killed-clause-others : goal.returns-in_ok-kill-in-Killed-clause-others
returns-in_ok-kill-in-Killed-clause-others g c = λ number.
    let old = state_numbered number (meaning c.args.state.now) in
    let mid = state_numbered number (meaning c.compute.new.state) in
    let new = state_numbered number (meaning c.kill.new.state) in
    leaves-then c.args.pid old mid new (computed-others number c.args.pid c.args.fuel c.args.state.now c.compute.new.state c.in_ok-event.event c.in_ok-event.done c.in_ok-event.ensures.computes)
    (killed-leaves c.args.pid c.in-Killed.signal mid new (killed-now number c.args.pid c.in-Killed.signal c.compute.new.state c.kill.new.state c.in_ok-kill-in-Killed.ensures.ends))

-- ---- the tree

pub returns-in-Next-clause-leaves : goal.returns-in-Next-clause-leaves
returns-in-Next-clause-leaves g c = same-both c.args.state.now.tree c.compute.new.state.tree (meant-tree c.compute.new.state _ c.in_ok-event.ensures.computes.leaves)

pub returns-in-Call-clause-leaves : goal.returns-in-Call-clause-leaves
returns-in-Call-clause-leaves g c = same-both c.args.state.now.tree c.compute.new.state.tree (meant-tree c.compute.new.state _ c.in_ok-event.ensures.computes.leaves)

pub returns-in_ok-kill-in-Killed-clause-leaves : goal.returns-in_ok-kill-in-Killed-clause-leaves
returns-in_ok-kill-in-Killed-clause-leaves g c =
    let caller = c.requires.caller in
    let runs = c.in_ok-event.ensures.runs caller.number caller.table caller.calls caller.runs in
    killed-both c.args.pid c.in-Killed.signal c.args.state.now c.compute.new.state c.kill.new.state runs.lasts.lawful.tree (meant-tree c.compute.new.state _ c.in_ok-event.ensures.computes.leaves) c.in_ok-kill-in-Killed.ensures.ends
