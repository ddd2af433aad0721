use Rattle.std.proofs.Common.{sym, ap, ◌∙◌}
use Rattle.rv_cpu.specs.Step.{register}
use Rattle.rv_cpu.specs.Run.{Ran}
use Rattle.rv_loops.proofs.PassLemmas.{passed, amo_is, registers_are, pc_is}
use Rattle.rv_loops.proofs.pass.turn.Goals as goal

pub returns-clause-event : goal.returns-clause-event
returns-clause-event g c = c.in_ok-event.ensures.event ∙ ap (λ (r : Ran). r.event) (passed c.args.op c.args.wide c.args.r c.args.regs.now c.args.mem.now c.requires c.counted.ensures)

pub returns-clause-amo : goal.returns-clause-amo
returns-clause-amo g c = ap (λ d. d.reply.event) (amo_is c.args.op c.args.wide c.args.r c.args.regs.now c.args.mem.now c.requires c.counted.ensures)

pub returns-clause-memory : goal.returns-clause-memory
returns-clause-memory g c =
    c.in_ok-event.ensures.memory
    ∙ ap (λ (r : Ran). r.memory) (passed c.args.op c.args.wide c.args.r c.args.regs.now c.args.mem.now c.requires c.counted.ensures)
    ∙ ap (λ d. d.memory) (sym (amo_is c.args.op c.args.wide c.args.r c.args.regs.now c.args.mem.now c.requires c.counted.ensures))

pub returns-clause-registers : goal.returns-clause-registers
returns-clause-registers g c =
    λ k value failed.
    ap (λ s. register s k) (c.in_ok-event.ensures.regs ∙ ap (λ (r : Ran). r.regs) (passed c.args.op c.args.wide c.args.r c.args.regs.now c.args.mem.now c.requires c.counted.ensures))
    ∙ registers_are c.args.op c.args.wide c.args.r c.args.regs.now c.args.mem.now c.requires c.counted.ensures k value failed
    ∙ ap (λ d. register d.reply.regs k) (sym (amo_is c.args.op c.args.wide c.args.r c.args.regs.now c.args.mem.now c.requires c.counted.ensures))

pub returns-clause-pc : goal.returns-clause-pc
returns-clause-pc g c =
    ap (λ s. s.pc) (c.in_ok-event.ensures.regs ∙ ap (λ (r : Ran). r.regs) (passed c.args.op c.args.wide c.args.r c.args.regs.now c.args.mem.now c.requires c.counted.ensures))
    ∙ pc_is c.args.op c.args.wide c.args.r c.args.regs.now c.args.mem.now c.requires c.counted.ensures
