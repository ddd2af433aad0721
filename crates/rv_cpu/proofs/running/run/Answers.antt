use Rattle.std.proofs.Common.{◌≡◌, ◌≢◌, ◌+◌, ◌-◌, sym, ap, ◌∙◌, arith}
use Rattle.rv_mem.specs.Actions.{carried_out}
use Rattle.rv_cpu.specs.declared.event.Event.TheVariants.{Next}
use Rattle.rv_cpu.specs.Step.{step}
use Rattle.rv_cpu.specs.Run.{Ran, counted, ran_holding}
use Rattle.rv_cpu.proofs.RunLemmas.{ran-below_next, ran-below_stop, ran-past}
use Rattle.rv_cpu.proofs.running.run.Goals as goal

pub returns-in_default : goal.returns-in_default
returns-in_default g c =
    let isnt : (carried_out (step c.loop-done.regs c.loop-done.held) c.loop-done.mem).reply.event ≢ Next = λ e. c.in_default.not-Next (c.in_ok-event.ensures.event ∙ e) in
    let whole = sym (ran-below_stop c.args.fuel c.loop-done.done c.loop-done.held c.loop-done.regs c.loop-done.mem c.loop-done-test.true isnt) ∙ c.loop-done.invariant.whole in
    record {
      event = c.in_ok-event.ensures.event ∙ ap (λ (r : Ran). r.event) whole;
      done = ap (λ (r : Ran). r.done) whole;
      regs = c.in_ok-event.ensures.regs ∙ ap (λ (r : Ran). r.regs) whole;
      memory = c.in_ok-event.ensures.memory ∙ ap (λ (r : Ran). r.memory) whole;
      signal = c.in_ok-event.ensures.signal;
      count = c.in_ok-event.ensures.count ∙ c.loop-done.invariant.count;
    }

pub loop-done-preserved : goal.loop-done-preserved
loop-done-preserved g c =
    let is = sym c.in_ok-event.ensures.event ∙ c.in-Next.is in
    let first = carried_out (step c.loop-done.regs c.loop-done.held) c.loop-done.mem in
    let onward = sym (ran-below_next c.args.fuel c.loop-done.done c.loop-done.held c.loop-done.regs c.loop-done.mem c.loop-done-test.true is) ∙ c.loop-done.invariant.whole in
    record {
      whole =
          ap (λ held. counted (c.loop-done.done + 1) (ran_holding (c.args.fuel - (c.loop-done.done + 1)) held c.step.new.regs c.step.new.mem)) c.in_ok-event.ensures.held
          ∙ ap (λ s. counted (c.loop-done.done + 1) (ran_holding (c.args.fuel - (c.loop-done.done + 1)) first.reply.held s c.step.new.mem)) c.in_ok-event.ensures.regs
          ∙ ap (λ m. counted (c.loop-done.done + 1) (ran_holding (c.args.fuel - (c.loop-done.done + 1)) first.reply.held first.reply.regs m)) c.in_ok-event.ensures.memory
          ∙ onward;
      count = c.in_ok-event.ensures.count ∙ c.loop-done.invariant.count;
    }

pub returns-clause-event : goal.returns-clause-event
returns-clause-event g c =
    ap (λ (r : Ran). r.event) (sym (ran-past c.args.fuel c.loop-done.done c.loop-done.held c.loop-done.regs c.loop-done.mem c.loop-done-test.false) ∙ c.loop-done.invariant.whole)

pub returns-clause-done : goal.returns-clause-done
returns-clause-done g c =
    let last = ap (λ (r : Ran). r.done) (sym (ran-past c.args.fuel c.loop-done.done c.loop-done.held c.loop-done.regs c.loop-done.mem c.loop-done-test.false) ∙ c.loop-done.invariant.whole) in
    let all : c.args.fuel ≡ c.loop-done.done + 0 = omega arith in
    all ∙ last

pub returns-clause-regs : goal.returns-clause-regs
returns-clause-regs g c =
    ap (λ (r : Ran). r.regs) (sym (ran-past c.args.fuel c.loop-done.done c.loop-done.held c.loop-done.regs c.loop-done.mem c.loop-done-test.false) ∙ c.loop-done.invariant.whole)

pub returns-clause-memory : goal.returns-clause-memory
returns-clause-memory g c =
    ap (λ (r : Ran). r.memory) (sym (ran-past c.args.fuel c.loop-done.done c.loop-done.held c.loop-done.regs c.loop-done.mem c.loop-done-test.false) ∙ c.loop-done.invariant.whole)
