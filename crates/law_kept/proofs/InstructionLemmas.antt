-- Instructions store bytes alone.
use Rattle.std.proofs.Common.{ℕ, zero, suc, Bool, true, false, Option, Some, None}
use Rattle.kr_first.specs.pr_base.Fields.{little_endian}
use Rattle.kr_turns.specs.rv_table.Rows.{decoded}
use Rattle.kr_turns.specs.rv_table.declared.instr.Instr.{Instr}
use Rattle.kr_turns.specs.rv_table.declared.instr.Instr.TheVariants.{Lb, Lh, Lw, Ld, Lbu, Lhu, Lwu, Sb, Sh, Sw, Sd, LrW, LrD, ScW, ScD, AmoswapW, AmoswapD, AmoaddW, AmoaddD, AmoxorW, AmoxorD, AmoandW, AmoandD, AmoorW, AmoorD, AmominW, AmominD, AmomaxW, AmomaxD, AmominuW, AmominuD, AmomaxuW, AmomaxuD}
use Rattle.kr_first.specs.rv_mem.Actions.{CarriedOut, carried_out}
use Rattle.kr_first.specs.rv_mem.Memory.{Memory}
use Rattle.kr_first.specs.rv_mem.Pages.{HoldsBytes}
use Rattle.kr_first.specs.rv_mem.declared.regs.Regs.{Regs}
use Rattle.kr_turns.specs.rv_cpu.Run.{Ran, after_one, counted, ran_holding}
use Rattle.kr_turns.specs.rv_cpu.Step.{Stepped, address, executed, executed_word, loads, lowest_bytes, register, replaces, reserves, step, stores, stores_if_held}
use Rattle.kr_turns.specs.rv_cpu.Words.{both, either, exactly_one, greatest, greatest_unsigned, least, least_unsigned, sign_extended, sign_extended_byte, sign_extended_half, sum, word_greatest, word_greatest_unsigned, word_least, word_least_unsigned}
use Rattle.kr_turns.specs.rv_cpu.declared.event.Event.TheVariants.{Call, Killed, Next}
use Rattle.kr_turns.specs.rv_cpu.declared.reservation.Held.{Held}
use Rattle.law_kept.specs.Laws.{InstructionsKeepBytes}
use Rattle.law_kept.proofs.ActionLemmas.{PutsBytes, either_way, puts, read, tested, told, wrote}
use Rattle.law_kept.proofs.ListLemmas.{number-bytes}

-- whatever it leaves of the registers
abbrev Any : Stepped → Type 0
Any _ = Unit {0}

module _ (s : Regs) (held : Option Held) where
  loads-puts : (rd at n : ℕ) (extend : ℕ → ℕ) → PutsBytes Any (loads s held rd at n extend)
  loads-puts rd at n extend = tested (λ b. either_way b (read (λ bytes are. told tt)) (told tt))

  stores-puts : (at n value : ℕ) → PutsBytes Any (stores s held at (lowest_bytes n value))
  stores-puts at n value = tested (λ b. either_way b (wrote (number-bytes 0 n value) (told tt)) (told tt))

  reserves-puts : (wide : Bool) (rd at : ℕ) → PutsBytes Any (reserves s held wide rd at)
  reserves-puts wide rd at = either_way _ (tested (λ b. either_way b (read (λ bytes are. told tt)) (told tt))) (told tt)

  stores-if-held-puts : (wide : Bool) (rd at n value : ℕ) → PutsBytes Any (stores_if_held s held wide rd at (lowest_bytes n value))
  stores-if-held-puts wide rd at n value = either_way _ (either_way _ (tested (λ b. either_way b (wrote (number-bytes 0 n value) (told tt)) (told tt))) (told tt)) (told tt)

  replaces-puts : (wide : Bool) (rd at value : ℕ) (combine : ℕ → ℕ → ℕ) → PutsBytes Any (replaces s held wide rd at value combine)
  replaces-puts wide rd at value combine = either_way _ (tested (λ b. either_way b (read (λ bytes are. wrote (number-bytes 0 _ _) (told tt))) (told tt))) (told tt)

  executed-puts : (i : Instr) → PutsBytes Any (executed s held i)
  executed-puts (Lb rd rs1 imm) = loads-puts rd (address s rs1 imm) 1 sign_extended_byte
  executed-puts (Lh rd rs1 imm) = loads-puts rd (address s rs1 imm) 2 sign_extended_half
  executed-puts (Lw rd rs1 imm) = loads-puts rd (address s rs1 imm) 4 sign_extended
  executed-puts (Ld rd rs1 imm) = loads-puts rd (address s rs1 imm) 8 (λ n. n)
  executed-puts (Lbu rd rs1 imm) = loads-puts rd (address s rs1 imm) 1 (λ n. n)
  executed-puts (Lhu rd rs1 imm) = loads-puts rd (address s rs1 imm) 2 (λ n. n)
  executed-puts (Lwu rd rs1 imm) = loads-puts rd (address s rs1 imm) 4 (λ n. n)
  executed-puts (Sb rs1 rs2 imm) = stores-puts (address s rs1 imm) 1 (register s rs2)
  executed-puts (Sh rs1 rs2 imm) = stores-puts (address s rs1 imm) 2 (register s rs2)
  executed-puts (Sw rs1 rs2 imm) = stores-puts (address s rs1 imm) 4 (register s rs2)
  executed-puts (Sd rs1 rs2 imm) = stores-puts (address s rs1 imm) 8 (register s rs2)
  executed-puts (LrW rd rs1 order) = reserves-puts false rd (register s rs1)
  executed-puts (LrD rd rs1 order) = reserves-puts true rd (register s rs1)
  executed-puts (ScW rd rs1 rs2 order) = stores-if-held-puts false rd (register s rs1) 4 (register s rs2)
  executed-puts (ScD rd rs1 rs2 order) = stores-if-held-puts true rd (register s rs1) 8 (register s rs2)
  executed-puts (AmoswapW rd rs1 rs2 order) = replaces-puts false rd (register s rs1) (register s rs2) (λ old value. value)
  executed-puts (AmoswapD rd rs1 rs2 order) = replaces-puts true rd (register s rs1) (register s rs2) (λ old value. value)
  executed-puts (AmoaddW rd rs1 rs2 order) = replaces-puts false rd (register s rs1) (register s rs2) sum
  executed-puts (AmoaddD rd rs1 rs2 order) = replaces-puts true rd (register s rs1) (register s rs2) sum
  executed-puts (AmoxorW rd rs1 rs2 order) = replaces-puts false rd (register s rs1) (register s rs2) exactly_one
  executed-puts (AmoxorD rd rs1 rs2 order) = replaces-puts true rd (register s rs1) (register s rs2) exactly_one
  executed-puts (AmoandW rd rs1 rs2 order) = replaces-puts false rd (register s rs1) (register s rs2) both
  executed-puts (AmoandD rd rs1 rs2 order) = replaces-puts true rd (register s rs1) (register s rs2) both
  executed-puts (AmoorW rd rs1 rs2 order) = replaces-puts false rd (register s rs1) (register s rs2) either
  executed-puts (AmoorD rd rs1 rs2 order) = replaces-puts true rd (register s rs1) (register s rs2) either
  executed-puts (AmominW rd rs1 rs2 order) = replaces-puts false rd (register s rs1) (register s rs2) word_least
  executed-puts (AmominD rd rs1 rs2 order) = replaces-puts true rd (register s rs1) (register s rs2) least
  executed-puts (AmomaxW rd rs1 rs2 order) = replaces-puts false rd (register s rs1) (register s rs2) word_greatest
  executed-puts (AmomaxD rd rs1 rs2 order) = replaces-puts true rd (register s rs1) (register s rs2) greatest
  executed-puts (AmominuW rd rs1 rs2 order) = replaces-puts false rd (register s rs1) (register s rs2) word_least_unsigned
  executed-puts (AmominuD rd rs1 rs2 order) = replaces-puts true rd (register s rs1) (register s rs2) least_unsigned
  executed-puts (AmomaxuW rd rs1 rs2 order) = replaces-puts false rd (register s rs1) (register s rs2) word_greatest_unsigned
  executed-puts (AmomaxuD rd rs1 rs2 order) = replaces-puts true rd (register s rs1) (register s rs2) greatest_unsigned
  executed-puts _ = told tt

  word-puts : (o : Option Instr) → PutsBytes Any (executed_word s held o)
  word-puts None = told tt
  word-puts (Some i) = executed-puts i

  step-puts : PutsBytes Any (step s held)
  step-puts = either_way _ (tested (λ b. either_way b (read (λ bytes are. word-puts (decoded (little_endian bytes)))) (told tt))) (told tt)

ran-holds : (fuel : ℕ) (held : Option Held) (regs : Regs) (m : Memory) → HoldsBytes m.pages → HoldsBytes (ran_holding fuel held regs m).memory.pages
unfolding ran_holding
ran-holds zero held regs m holds = holds
ran-holds (suc fuel) held regs m holds =
    let first : CarriedOut Stepped = carried_out (step regs held) m in
    let one : HoldsBytes first.memory.pages = (puts (step regs held) (step-puts regs held) m holds).1 in
    let rest : Ran = ran_holding fuel first.reply.held first.reply.regs first.memory in
    let more : HoldsBytes rest.memory.pages = ran-holds fuel first.reply.held first.reply.regs first.memory one in
    elim first.reply.event as (λ event. HoldsBytes (elim event as (λ e. Ran) [ Next ↦ counted 1 rest | Call ↦ after_one first | Killed signal ↦ after_one first ]).memory.pages) [
      | Next ↦ more
      | Call ↦ one
      | Killed signal ↦ one
    ]

pub instructions-keep-bytes : InstructionsKeepBytes
instructions-keep-bytes fuel regs memory holds = ran-holds fuel None regs memory holds
