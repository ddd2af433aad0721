-- Instructions on a memory without its marks.
use Rattle.std.proofs.Common.{◌≡◌, ℕ, zero, suc, refl, ap, ◌∙◌}
use Rattle.std.specs.Prelude.{Option, None}
use Rattle.kr_turns.specs.rv_cpu.declared.event.Event.{Event}
use Rattle.kr_turns.specs.rv_cpu.declared.event.Event.TheVariants.{Next, Call, Killed}
use Rattle.kr_turns.specs.rv_cpu.declared.reservation.Held.{Held}
use Rattle.kr_turns.specs.rv_cpu.Run.{counted, ran_holding}
use Rattle.kr_turns.specs.rv_cpu.Step.{Stepped, step}
use Rattle.kr_turns.proofs.rv_cpu.RunLemmas.{by_event}
use Rattle.kr_turns.specs.kr_model.rv_mem.Actions.{CarriedOut, carried_out}
use Rattle.kr_turns.specs.kr_model.rv_mem.Memory.{Memory}
use Rattle.kr_turns.specs.kr_model.rv_mem.declared.regs.Regs.{Regs}
use Rattle.law_marks.specs.Laws.{InstructionsSeeNoMarks}
use Rattle.law_marks.specs.Unmarked.{unmarked, unmarked_done, unmarked_end}
use Rattle.law_marks.proofs.MemoryLemmas.{done-unmarked}

-- the rest of a run, by the event of its first instruction
rest-unmarked : (fuel : ℕ) → ((held : Option Held) (s : Regs) (m : Memory) → ran_holding fuel held s (unmarked m) ≡ unmarked_end (ran_holding fuel held s m))
    → (e : Event) (first : CarriedOut Stepped) → by_event e fuel (unmarked_done first) ≡ unmarked_end (by_event e fuel first)
rest-unmarked fuel same Next first = ap (counted 1) (same first.reply.held first.reply.regs first.memory)
rest-unmarked fuel same Call first = refl
rest-unmarked fuel same (Killed signal) first = refl

run-unmarked : (fuel : ℕ) (held : Option Held) (s : Regs) (m : Memory) → ran_holding fuel held s (unmarked m) ≡ unmarked_end (ran_holding fuel held s m)
unfolding ran_holding
run-unmarked zero held s m = refl
run-unmarked (suc fuel) held s m =
    let first : CarriedOut Stepped = carried_out (step s held) m in
    ap (λ (d : CarriedOut Stepped). by_event d.reply.event fuel d) (done-unmarked (step s held) m) ∙ rest-unmarked fuel (run-unmarked fuel) first.reply.event first

pub instructions_see_no_marks : InstructionsSeeNoMarks
instructions_see_no_marks fuel s m = run-unmarked fuel None s m
