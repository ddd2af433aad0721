-- Where instructions end with a call, the process stands at it in a page.
use Rattle.std.proofs.Common.{◌≡◌, ℕ, zero, suc, ◌+◌, ◌*◌, ◌/◌, ◌%◌, ◌<◌, Bool, true, false, ℤ, List, [], ◌∷◌, refl, cond, arith}
use Rattle.std.specs.Prelude.{Option, Some, None, ◌==◌, not}
use Rattle.rv_mem.specs.pr_base.Fields.{little_endian}
use Rattle.rv_mem.specs.declared.regs.Regs.{Regs}
use Rattle.rv_mem.specs.declared.rights.Use.{Use}
use Rattle.rv_mem.specs.declared.rights.Use.TheVariants.{Read, Write, Execute}
use Rattle.rv_mem.specs.Memory.{Memory, with_pages, after_read}
use Rattle.rv_mem.specs.Pages.{bytes_from, written, IsPlaced}
use Rattle.rv_mem.specs.Actions.{Action, Done, MayUse, ReadBytes, WriteBytes, CarriedOut, carried_out, allows_uses, read_if_allowed, write_if_allowed}
use Rattle.rv_mem.proofs.AccessLemmas.{HasPagesAt-allowed}
use Rattle.rv_mem.proofs.SpaceLemmas.{IsPlaced-written}
use Rattle.rv_mem.specs.rv_table.Rows.{decoded}
use Rattle.rv_mem.specs.rv_table.declared.instr.Instr.{Instr}
use Rattle.rv_mem.specs.rv_table.declared.instr.Instr.TheVariants.{Lb, Lh, Lw, Ld, Lbu, Lhu, Lwu, Sb, Sh, Sw, Sd, Beq, Bne, Blt, Bge, Bltu, Bgeu, Jalr, Jal, Ecall, Ebreak, LrW, LrD, ScW, ScD, AmoswapW, AmoswapD, AmoaddW, AmoaddD, AmoxorW, AmoxorD, AmoandW, AmoandD, AmoorW, AmoorD, AmominW, AmominD, AmomaxW, AmomaxD, AmominuW, AmominuD, AmomaxuW, AmomaxuD}
use Rattle.rv_cpu.specs.declared.event.Event.{Event}
use Rattle.rv_cpu.specs.declared.event.Event.TheVariants.{Next, Call, Killed}
use Rattle.rv_cpu.specs.declared.reservation.Held.{Held}
use Rattle.rv_cpu.specs.Step.{Stepped, address, at_pc, branches, ends, executed, executed_word, gives, holds, if_aligned, is_held, jumps, kills, loads, lowest_bytes, moved_on, register, replaces, reserves, step, stores, stores_if_held, widened, width, with_register}
use Rattle.rv_cpu.specs.Words.{both, either, exactly_one, greatest, greatest_unsigned, is_less, is_less_unsigned, least, least_unsigned, sign_extended, sign_extended_byte, sign_extended_half, sum, word_greatest, word_greatest_unsigned, word_least, word_least_unsigned, wrapped}
use Rattle.rv_cpu.specs.Run.{Ran, ran_holding}
use Rattle.rv_cpu.specs.Laws.{CallsStandInPages}
use Rattle.rv_cpu.proofs.RunLemmas.{by_event}

-- ---- instructions that end with a call only where they stood

-- a call is one at the pc that was before
abbrev IsFrom : Regs → Event → Regs → Type 0
IsFrom s event regs = event ≡ Call → regs.pc ≡ s.pc

-- so is that of every end of an instruction
abbrev StaysAtCalls : Regs → Action Stepped → Type 0
StaysAtCalls s (Done end) = IsFrom s end.event end.regs
StaysAtCalls s (MayUse at n uses next) = (b : Bool) → StaysAtCalls s (next b)
StaysAtCalls s (ReadBytes at n next) = (bytes : List ℕ) → StaysAtCalls s (next bytes)
StaysAtCalls s (WriteBytes at bytes next) = StaysAtCalls s next

goes-on : {A : Type 0} → Next ≡ Call → A
goes-on e = absurd cc

killed : {A : Type 0} {signal : ℕ} → Killed signal ≡ Call → A
killed e = absurd cc

by-test : (s : Regs) (one other : Action Stepped) → StaysAtCalls s one → StaysAtCalls s other → (b : Bool) → StaysAtCalls s (cond b one other)
by-test s one other first second true = first
by-test s one other first second false = second

module _ (s : Regs) (h : Option Held) where
  read-stays : (at n : ℕ) (uses : List Use) (next : List ℕ → Action Stepped) → ((bytes : List ℕ) → StaysAtCalls s (next bytes)) → StaysAtCalls s (read_if_allowed at n uses (holds h (kills 11 s)) next)
  read-stays at n uses next stays = by-test s (ReadBytes at n next) (holds h (kills 11 s)) stays killed

  write-stays : (at : ℕ) (bytes : List ℕ) (next : Action Stepped) → StaysAtCalls s next → StaysAtCalls s (write_if_allowed at bytes (holds h (kills 11 s)) next)
  write-stays at bytes next stays = by-test s (WriteBytes at bytes next) (holds h (kills 11 s)) stays killed

  aligned-stays : (wide : Bool) (at : ℕ) (next : Action Stepped) → StaysAtCalls s next → StaysAtCalls s (if_aligned s h wide at next)
  aligned-stays wide at next stays = by-test s next (holds h (kills 7 s)) stays killed (at % width wide == 0)

  jump-stays : (rd target : ℕ) → StaysAtCalls s (holds h (jumps s rd target))
  jump-stays rd target = by (target % 4 == 0)
    where
      by : (b : Bool) → StaysAtCalls s (holds h (cond b (ends Next (at_pc target (with_register s rd (sum s.pc 4)))) (kills 7 s)))
      by true = goes-on
      by false = killed

  branch-stays : (taken : Bool) (imm : ℤ) → StaysAtCalls s (holds h (branches s taken imm))
  branch-stays false imm = goes-on
  branch-stays true imm = by (sum s.pc (wrapped imm) % 4 == 0)
    where
      by : (b : Bool) → StaysAtCalls s (holds h (cond b (ends Next (at_pc (sum s.pc (wrapped imm)) s)) (kills 7 s)))
      by true = goes-on
      by false = killed

  load-stays : (rd at n : ℕ) (extend : ℕ → ℕ) → StaysAtCalls s (loads s h rd at n extend)
  load-stays rd at n extend = read-stays at n (Read ∷ []) (λ bytes. holds h (gives s rd (extend (little_endian bytes)))) (λ bytes. goes-on)

  store-stays : (at : ℕ) (bytes : List ℕ) → StaysAtCalls s (stores s h at bytes)
  store-stays at bytes = write-stays at bytes (holds h (ends Next (moved_on s))) goes-on

  reserve-stays : (wide : Bool) (rd at : ℕ) → StaysAtCalls s (reserves s h wide rd at)
  reserve-stays wide rd at =
      let reserved : List ℕ → Action Stepped = λ bytes. holds (Some (record { at = at; wide = wide })) (gives s rd (widened wide (little_endian bytes))) in
      aligned-stays wide at (read_if_allowed at (width wide) (Read ∷ []) (holds h (kills 11 s)) reserved) (read-stays at (width wide) (Read ∷ []) reserved (λ bytes. goes-on))

  store-held-stays : (wide : Bool) (rd at : ℕ) (bytes : List ℕ) → StaysAtCalls s (stores_if_held s h wide rd at bytes)
  store-held-stays wide rd at bytes =
      let stored : Action Stepped = write_if_allowed at bytes (holds h (kills 11 s)) (holds None (gives s rd 0)) in
      let other : Action Stepped = holds None (gives s rd 1) in
      aligned-stays wide at (cond (is_held h wide at) stored other) (by-test s stored other (write-stays at bytes (holds None (gives s rd 0)) goes-on) goes-on (is_held h wide at))

  replace-stays : (wide : Bool) (rd at value : ℕ) (combine : ℕ → ℕ → ℕ) → StaysAtCalls s (replaces s h wide rd at value combine)
  replace-stays wide rd at value combine =
      let old : List ℕ → Action Stepped = λ bytes. WriteBytes at (lowest_bytes (width wide) (combine (little_endian bytes) value)) (holds h (gives s rd (widened wide (little_endian bytes)))) in
      aligned-stays wide at (read_if_allowed at (width wide) (Read ∷ Write ∷ []) (holds h (kills 11 s)) old) (read-stays at (width wide) (Read ∷ Write ∷ []) old (λ bytes. goes-on))

  instruction-stays : (i : Instr) → StaysAtCalls s (executed s h i)
  instruction-stays (Lb rd rs1 imm) = load-stays rd (address s rs1 imm) 1 sign_extended_byte
  instruction-stays (Lh rd rs1 imm) = load-stays rd (address s rs1 imm) 2 sign_extended_half
  instruction-stays (Lw rd rs1 imm) = load-stays rd (address s rs1 imm) 4 sign_extended
  instruction-stays (Ld rd rs1 imm) = load-stays rd (address s rs1 imm) 8 (λ n. n)
  instruction-stays (Lbu rd rs1 imm) = load-stays rd (address s rs1 imm) 1 (λ n. n)
  instruction-stays (Lhu rd rs1 imm) = load-stays rd (address s rs1 imm) 2 (λ n. n)
  instruction-stays (Lwu rd rs1 imm) = load-stays rd (address s rs1 imm) 4 (λ n. n)
  instruction-stays (Sb rs1 rs2 imm) = store-stays (address s rs1 imm) (lowest_bytes 1 (register s rs2))
  instruction-stays (Sh rs1 rs2 imm) = store-stays (address s rs1 imm) (lowest_bytes 2 (register s rs2))
  instruction-stays (Sw rs1 rs2 imm) = store-stays (address s rs1 imm) (lowest_bytes 4 (register s rs2))
  instruction-stays (Sd rs1 rs2 imm) = store-stays (address s rs1 imm) (lowest_bytes 8 (register s rs2))
  instruction-stays (Beq rs1 rs2 imm) = branch-stays (register s rs1 == register s rs2) imm
  instruction-stays (Bne rs1 rs2 imm) = branch-stays (not (register s rs1 == register s rs2)) imm
  instruction-stays (Blt rs1 rs2 imm) = branch-stays (is_less (register s rs1) (register s rs2)) imm
  instruction-stays (Bge rs1 rs2 imm) = branch-stays (not (is_less (register s rs1) (register s rs2))) imm
  instruction-stays (Bltu rs1 rs2 imm) = branch-stays (is_less_unsigned (register s rs1) (register s rs2)) imm
  instruction-stays (Bgeu rs1 rs2 imm) = branch-stays (not (is_less_unsigned (register s rs1) (register s rs2))) imm
  instruction-stays (Jal rd imm) = jump-stays rd (sum s.pc (wrapped imm))
  instruction-stays (Jalr rd rs1 imm) = jump-stays rd (address s rs1 imm / 2 * 2)
  instruction-stays Ecall = λ e. refl
  instruction-stays Ebreak = killed
  instruction-stays (LrW rd rs1 order) = reserve-stays false rd (register s rs1)
  instruction-stays (LrD rd rs1 order) = reserve-stays true rd (register s rs1)
  instruction-stays (ScW rd rs1 rs2 order) = store-held-stays false rd (register s rs1) (lowest_bytes 4 (register s rs2))
  instruction-stays (ScD rd rs1 rs2 order) = store-held-stays true rd (register s rs1) (lowest_bytes 8 (register s rs2))
  instruction-stays (AmoswapW rd rs1 rs2 order) = replace-stays false rd (register s rs1) (register s rs2) (λ old value. value)
  instruction-stays (AmoswapD rd rs1 rs2 order) = replace-stays true rd (register s rs1) (register s rs2) (λ old value. value)
  instruction-stays (AmoaddW rd rs1 rs2 order) = replace-stays false rd (register s rs1) (register s rs2) sum
  instruction-stays (AmoaddD rd rs1 rs2 order) = replace-stays true rd (register s rs1) (register s rs2) sum
  instruction-stays (AmoxorW rd rs1 rs2 order) = replace-stays false rd (register s rs1) (register s rs2) exactly_one
  instruction-stays (AmoxorD rd rs1 rs2 order) = replace-stays true rd (register s rs1) (register s rs2) exactly_one
  instruction-stays (AmoandW rd rs1 rs2 order) = replace-stays false rd (register s rs1) (register s rs2) both
  instruction-stays (AmoandD rd rs1 rs2 order) = replace-stays true rd (register s rs1) (register s rs2) both
  instruction-stays (AmoorW rd rs1 rs2 order) = replace-stays false rd (register s rs1) (register s rs2) either
  instruction-stays (AmoorD rd rs1 rs2 order) = replace-stays true rd (register s rs1) (register s rs2) either
  instruction-stays (AmominW rd rs1 rs2 order) = replace-stays false rd (register s rs1) (register s rs2) word_least
  instruction-stays (AmominD rd rs1 rs2 order) = replace-stays true rd (register s rs1) (register s rs2) least
  instruction-stays (AmomaxW rd rs1 rs2 order) = replace-stays false rd (register s rs1) (register s rs2) word_greatest
  instruction-stays (AmomaxD rd rs1 rs2 order) = replace-stays true rd (register s rs1) (register s rs2) greatest
  instruction-stays (AmominuW rd rs1 rs2 order) = replace-stays false rd (register s rs1) (register s rs2) word_least_unsigned
  instruction-stays (AmominuD rd rs1 rs2 order) = replace-stays true rd (register s rs1) (register s rs2) least_unsigned
  instruction-stays (AmomaxuW rd rs1 rs2 order) = replace-stays false rd (register s rs1) (register s rs2) word_greatest_unsigned
  instruction-stays (AmomaxuD rd rs1 rs2 order) = replace-stays true rd (register s rs1) (register s rs2) greatest_unsigned
  instruction-stays _ = goes-on

  word-stays : (word : Option Instr) → StaysAtCalls s (executed_word s h word)
  word-stays None = killed
  word-stays (Some i) = instruction-stays i

  -- what is so of every end is so of the one that is reached
  stays-carried : (action : Action Stepped) → StaysAtCalls s action → (m : Memory) → (carried_out action m).reply.event ≡ Call → (carried_out action m).reply.regs.pc ≡ s.pc
  stays-carried (Done end) stays m e = stays e
  stays-carried (MayUse at n uses next) stays m e = stays-carried (next (allows_uses m.pages at n uses)) (stays (allows_uses m.pages at n uses)) m e
  stays-carried (ReadBytes at n next) stays m e = stays-carried (next (bytes_from m.pages at n)) (stays (bytes_from m.pages at n)) (after_read m at n) e
  stays-carried (WriteBytes at bytes next) stays m e = stays-carried next stays (with_pages m (written m.pages at bytes)) e

  -- ---- a call was fetched, so its page is there

  abbrev StandsInPage : Memory → Action Stepped → Type 0
  StandsInPage m action = (carried_out action m).reply.event ≡ Call → (carried_out action m).reply.regs.pc < 0x3F_FFFF_F000

  abbrev fetched : List ℕ → Action Stepped
  fetched bytes = executed_word s h (decoded (little_endian bytes))

  abbrev refused : Action Stepped
  refused = holds h (kills 11 s)

  step-stands : (m : Memory) → IsPlaced m.pages → StandsInPage m (step s h)
  step-stands m placed = aligned (s.pc % 4 == 0)
    where
      allowed : (b : Bool) → allows_uses m.pages s.pc 4 (Execute ∷ []) ≡ b → StandsInPage m (cond b (ReadBytes s.pc 4 fetched) refused)
      allowed false is e = killed e
      allowed true is e =
          let same = stays-carried (ReadBytes s.pc 4 fetched) (λ bytes. word-stays (decoded (little_endian bytes))) m e in
          let there : (s.pc + 0) / 4096 < 67108863 = placed ((s.pc + 0) / 4096) (HasPagesAt-allowed m.pages s.pc 4 Execute is 0 (omega arith)) in
          omega arith

      aligned : (b : Bool) → StandsInPage m (cond b (read_if_allowed s.pc 4 (Execute ∷ []) refused fetched) (holds h (kills 7 s)))
      aligned false e = killed e
      aligned true e = allowed (allows_uses m.pages s.pc 4 (Execute ∷ [])) refl e

-- ---- and so after many instructions

-- only bytes of pages change
placed-after : {A : Type 0} (action : Action A) (m : Memory) → IsPlaced m.pages → IsPlaced (carried_out action m).memory.pages
placed-after (Done reply) m placed = placed
placed-after (MayUse at n uses next) m placed = placed-after (next (allows_uses m.pages at n uses)) m placed
placed-after (ReadBytes at n next) m placed = placed-after (next (bytes_from m.pages at n)) (after_read m at n) placed
placed-after (WriteBytes at bytes next) m placed = placed-after next (with_pages m (written m.pages at bytes)) (IsPlaced-written m.pages at bytes placed)

abbrev EndsInPage : Ran → Type 0
EndsInPage end = end.event ≡ Call → end.regs.pc < 0x3F_FFFF_F000

-- after the first instruction, by its event
rest-stands : (fuel : ℕ) → ((held : Option Held) (s : Regs) (m : Memory) → IsPlaced m.pages → EndsInPage (ran_holding fuel held s m))
    → (event : Event) (first : CarriedOut Stepped) → IsPlaced first.memory.pages → (first.reply.event ≡ Call → first.reply.regs.pc < 0x3F_FFFF_F000)
    → EndsInPage (by_event event fuel first)
rest-stands fuel stands Next first placed one e = stands first.reply.held first.reply.regs first.memory placed e
rest-stands fuel stands Call first placed one e = one e
rest-stands fuel stands (Killed signal) first placed one e = one e

run-stands : (fuel : ℕ) (held : Option Held) (s : Regs) (m : Memory) → IsPlaced m.pages → EndsInPage (ran_holding fuel held s m)
unfolding ran_holding
run-stands zero held s m placed e = goes-on e
run-stands (suc fuel) held s m placed e =
    let first = carried_out (step s held) m in
    rest-stands fuel (run-stands fuel) first.reply.event first (placed-after (step s held) m placed) (step-stands s held m placed) e

pub calls-stand-in-pages : CallsStandInPages
calls-stand-in-pages fuel regs memory placed e = run-stands fuel None regs memory placed e
