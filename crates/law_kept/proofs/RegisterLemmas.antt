-- Instructions leave as many registers as there were, and so does a fork.
use Rattle.std.proofs.Common.{◌≡◌, ℕ, zero, suc, Bool, true, false, cond, List, length, length-set, Option, Some, None, refl, ◌∙◌, ◌*◌, ◌/◌, ◌%◌, ℤ}
use Rattle.std.specs.Prelude.{◌==◌, not, slice_set}
use Rattle.kr_first.specs.pr_base.Fields.{little_endian}
use Rattle.kr_turns.specs.rv_table.Rows.{decoded}
use Rattle.kr_turns.specs.rv_table.declared.instr.Instr.{Instr}
use Rattle.kr_turns.specs.rv_table.declared.instr.Instr.TheVariants.{Lb, Lh, Lw, Ld, Lbu, Lhu, Lwu, Fence, Addi, Slti, Sltiu, Xori, Ori, Andi, Slli, Srli, Srai, Auipc, Addiw, Slliw, Srliw, Sraiw, Sb, Sh, Sw, Sd, Add, Sub, Sll, Slt, Sltu, Xor, Srl, Sra, Or, And, Mul, Mulh, Mulhsu, Mulhu, Div, Divu, Rem, Remu, Lui, Addw, Subw, Sllw, Srlw, Sraw, Mulw, Divw, Divuw, Remw, Remuw, Beq, Bne, Blt, Bge, Bltu, Bgeu, Jalr, Jal, Ecall, Ebreak, LrW, LrD, ScW, ScD, AmoswapW, AmoswapD, AmoaddW, AmoaddD, AmoxorW, AmoxorD, AmoandW, AmoandD, AmoorW, AmoorD, AmominW, AmominD, AmomaxW, AmomaxD, AmominuW, AmominuD, AmomaxuW, AmomaxuD}
use Rattle.kr_first.specs.rv_mem.Actions.{Action, CarriedOut, Done, MayUse, ReadBytes, WriteBytes, allows_uses, carried_out}
use Rattle.kr_first.specs.rv_mem.Memory.{Memory, after_read, with_pages}
use Rattle.kr_first.specs.rv_mem.Pages.{bytes_from, written}
use Rattle.kr_first.specs.rv_mem.declared.regs.Regs.{Regs}
use Rattle.kr_first.specs.rv_mem.declared.rights.Use.{Use}
use Rattle.kr_turns.specs.rv_cpu.Run.{Ran, after_one, counted, ran_holding}
use Rattle.kr_turns.specs.rv_cpu.Step.{Stepped, address, at_pc, branches, ends, executed, executed_word, holds, jumps, kills, loads, lowest_bytes, moved_on, register, replaces, reserves, step, stores, stores_if_held, with_register}
use Rattle.kr_turns.specs.rv_cpu.Words.{both, either, exactly_one, greatest, greatest_unsigned, is_less, is_less_unsigned, least, least_unsigned, sign_extended, sign_extended_byte, sign_extended_half, sum, word_greatest, word_greatest_unsigned, word_least, word_least_unsigned, wrapped}
use Rattle.kr_turns.specs.rv_cpu.declared.event.Event.TheVariants.{Call, Killed, Next}
use Rattle.kr_turns.specs.rv_cpu.declared.reservation.Held.{Held}
use Rattle.kr_first.specs.kr_model.Applied.{child_regs}
use Rattle.law_kept.specs.Laws.{InstructionsKeepRegisters}

-- an action that comes to a good reply, whatever it reads
data Comes {A : Type 0} (Good : A → Type 0) : Action A → Type 0 where
  told : {reply : A} → Good reply → Comes Good (Done reply)
  tested : {at n : ℕ} {uses : List Use} {next : Bool → Action A} → ((b : Bool) → Comes Good (next b)) → Comes Good (MayUse at n uses next)
  read : {at n : ℕ} {next : List ℕ → Action A} → ((bytes : List ℕ) → Comes Good (next bytes)) → Comes Good (ReadBytes at n next)
  wrote : {at : ℕ} {bytes : List ℕ} {next : Action A} → Comes Good next → Comes Good (WriteBytes at bytes next)
  either_way : (b : Bool) {x y : Action A} → Comes Good x → Comes Good y → Comes Good (cond b x y)

module _ {A : Type 0} {Good : A → Type 0} where
  comes : (action : Action A) → Comes Good action → (m : Memory) → Good (carried_out action m).reply
  comes action (told good) m = good
  comes action (tested {at = at} {n = n} {uses = uses} {next = next} each) m = comes (next (allows_uses m.pages at n uses)) (each (allows_uses m.pages at n uses)) m
  comes action (read {at = at} {n = n} {next = next} each) m = comes (next (bytes_from m.pages at n)) (each (bytes_from m.pages at n)) (after_read m at n)
  comes action (wrote {at = at} {bytes = bytes} {next = next} rest) m = comes next rest (with_pages m (written m.pages at bytes))
  comes action (either_way true {x = x} first second) m = comes x first m
  comes action (either_way false {y = y} first second) m = comes y second m

module _ (s : Regs) (held : Option Held) where
  abbrev Keeps : Stepped → Type 0
  Keeps e = length e.regs.x ≡ length s.x

  -- a register that takes a value
  register-same : (rd value : ℕ) → length (with_register s rd value).x ≡ length s.x
  register-same rd value = by (rd == 0)
    where
      by : (b : Bool) → length (cond b s (record { x = slice_set s.x rd value; pc = s.pc })).x ≡ length s.x
      by true = refl
      by false = length-set s.x rd value

  loads-keeps : (rd at n : ℕ) (extend : ℕ → ℕ) → Comes Keeps (loads s held rd at n extend)
  loads-keeps rd at n extend = tested (λ b. either_way b (read (λ bytes. told (register-same rd (extend (little_endian bytes))))) (told refl))

  stores-keeps : (at : ℕ) (bytes : List ℕ) → Comes Keeps (stores s held at bytes)
  stores-keeps at bytes = tested (λ b. either_way b (wrote (told refl)) (told refl))

  reserves-keeps : (wide : Bool) (rd at : ℕ) → Comes Keeps (reserves s held wide rd at)
  reserves-keeps wide rd at = either_way _ (tested (λ b. either_way b (read (λ bytes. told (register-same rd _))) (told refl))) (told refl)

  stores-if-held-keeps : (wide : Bool) (rd at : ℕ) (bytes : List ℕ) → Comes Keeps (stores_if_held s held wide rd at bytes)
  stores-if-held-keeps wide rd at bytes = either_way _ (either_way _ (tested (λ b. either_way b (wrote (told (register-same rd 0))) (told refl))) (told (register-same rd 1))) (told refl)

  replaces-keeps : (wide : Bool) (rd at value : ℕ) (combine : ℕ → ℕ → ℕ) → Comes Keeps (replaces s held wide rd at value combine)
  replaces-keeps wide rd at value combine = either_way _ (tested (λ b. either_way b (read (λ bytes. wrote (told (register-same rd _)))) (told refl))) (told refl)

  branches-keeps : (taken : Bool) (imm : ℤ) → Comes Keeps (holds held (branches s taken imm))
  branches-keeps taken imm = told (by taken (sum s.pc (wrapped imm) % 4 == 0))
    where
      by : (t a : Bool) → length (cond t (cond a (ends Next (at_pc (sum s.pc (wrapped imm)) s)) (kills 7 s)) (ends Next (moved_on s))).regs.x ≡ length s.x
      by true true = refl
      by true false = refl
      by false a = refl

  jumps-keeps : (rd target : ℕ) → Comes Keeps (holds held (jumps s rd target))
  jumps-keeps rd target = told (by (target % 4 == 0))
    where
      by : (a : Bool) → length (cond a (ends Next (at_pc target (with_register s rd (sum s.pc 4)))) (kills 7 s)).regs.x ≡ length s.x
      by true = register-same rd (sum s.pc 4)
      by false = refl

  executed-keeps : (i : Instr) → Comes Keeps (executed s held i)
  executed-keeps (Lb rd rs1 imm) = loads-keeps rd (address s rs1 imm) 1 sign_extended_byte
  executed-keeps (Lh rd rs1 imm) = loads-keeps rd (address s rs1 imm) 2 sign_extended_half
  executed-keeps (Lw rd rs1 imm) = loads-keeps rd (address s rs1 imm) 4 sign_extended
  executed-keeps (Ld rd rs1 imm) = loads-keeps rd (address s rs1 imm) 8 (λ n. n)
  executed-keeps (Lbu rd rs1 imm) = loads-keeps rd (address s rs1 imm) 1 (λ n. n)
  executed-keeps (Lhu rd rs1 imm) = loads-keeps rd (address s rs1 imm) 2 (λ n. n)
  executed-keeps (Lwu rd rs1 imm) = loads-keeps rd (address s rs1 imm) 4 (λ n. n)
  executed-keeps (Sb rs1 rs2 imm) = stores-keeps (address s rs1 imm) (lowest_bytes 1 (register s rs2))
  executed-keeps (Sh rs1 rs2 imm) = stores-keeps (address s rs1 imm) (lowest_bytes 2 (register s rs2))
  executed-keeps (Sw rs1 rs2 imm) = stores-keeps (address s rs1 imm) (lowest_bytes 4 (register s rs2))
  executed-keeps (Sd rs1 rs2 imm) = stores-keeps (address s rs1 imm) (lowest_bytes 8 (register s rs2))
  executed-keeps (Beq rs1 rs2 imm) = branches-keeps (register s rs1 == register s rs2) imm
  executed-keeps (Bne rs1 rs2 imm) = branches-keeps (not (register s rs1 == register s rs2)) imm
  executed-keeps (Blt rs1 rs2 imm) = branches-keeps (is_less (register s rs1) (register s rs2)) imm
  executed-keeps (Bge rs1 rs2 imm) = branches-keeps (not (is_less (register s rs1) (register s rs2))) imm
  executed-keeps (Bltu rs1 rs2 imm) = branches-keeps (is_less_unsigned (register s rs1) (register s rs2)) imm
  executed-keeps (Bgeu rs1 rs2 imm) = branches-keeps (not (is_less_unsigned (register s rs1) (register s rs2))) imm
  executed-keeps (Jal rd imm) = jumps-keeps rd (sum s.pc (wrapped imm))
  executed-keeps (Jalr rd rs1 imm) = jumps-keeps rd (address s rs1 imm / 2 * 2)
  executed-keeps Ecall = told refl
  executed-keeps Ebreak = told refl
  executed-keeps Fence = told refl
  executed-keeps (Lui rd imm) = told (register-same rd _)
  executed-keeps (Auipc rd imm) = told (register-same rd _)
  executed-keeps (Addi rd rs1 imm) = told (register-same rd _)
  executed-keeps (Slti rd rs1 imm) = told (register-same rd _)
  executed-keeps (Sltiu rd rs1 imm) = told (register-same rd _)
  executed-keeps (Xori rd rs1 imm) = told (register-same rd _)
  executed-keeps (Ori rd rs1 imm) = told (register-same rd _)
  executed-keeps (Andi rd rs1 imm) = told (register-same rd _)
  executed-keeps (Slli rd rs1 imm) = told (register-same rd _)
  executed-keeps (Srli rd rs1 imm) = told (register-same rd _)
  executed-keeps (Srai rd rs1 imm) = told (register-same rd _)
  executed-keeps (Addiw rd rs1 imm) = told (register-same rd _)
  executed-keeps (Slliw rd rs1 imm) = told (register-same rd _)
  executed-keeps (Srliw rd rs1 imm) = told (register-same rd _)
  executed-keeps (Sraiw rd rs1 imm) = told (register-same rd _)
  executed-keeps (Add rd rs1 rs2) = told (register-same rd _)
  executed-keeps (Sub rd rs1 rs2) = told (register-same rd _)
  executed-keeps (Sll rd rs1 rs2) = told (register-same rd _)
  executed-keeps (Slt rd rs1 rs2) = told (register-same rd _)
  executed-keeps (Sltu rd rs1 rs2) = told (register-same rd _)
  executed-keeps (Xor rd rs1 rs2) = told (register-same rd _)
  executed-keeps (Srl rd rs1 rs2) = told (register-same rd _)
  executed-keeps (Sra rd rs1 rs2) = told (register-same rd _)
  executed-keeps (Or rd rs1 rs2) = told (register-same rd _)
  executed-keeps (And rd rs1 rs2) = told (register-same rd _)
  executed-keeps (Mul rd rs1 rs2) = told (register-same rd _)
  executed-keeps (Mulh rd rs1 rs2) = told (register-same rd _)
  executed-keeps (Mulhsu rd rs1 rs2) = told (register-same rd _)
  executed-keeps (Mulhu rd rs1 rs2) = told (register-same rd _)
  executed-keeps (Div rd rs1 rs2) = told (register-same rd _)
  executed-keeps (Divu rd rs1 rs2) = told (register-same rd _)
  executed-keeps (Rem rd rs1 rs2) = told (register-same rd _)
  executed-keeps (Remu rd rs1 rs2) = told (register-same rd _)
  executed-keeps (Addw rd rs1 rs2) = told (register-same rd _)
  executed-keeps (Subw rd rs1 rs2) = told (register-same rd _)
  executed-keeps (Sllw rd rs1 rs2) = told (register-same rd _)
  executed-keeps (Srlw rd rs1 rs2) = told (register-same rd _)
  executed-keeps (Sraw rd rs1 rs2) = told (register-same rd _)
  executed-keeps (Mulw rd rs1 rs2) = told (register-same rd _)
  executed-keeps (Divw rd rs1 rs2) = told (register-same rd _)
  executed-keeps (Divuw rd rs1 rs2) = told (register-same rd _)
  executed-keeps (Remw rd rs1 rs2) = told (register-same rd _)
  executed-keeps (Remuw rd rs1 rs2) = told (register-same rd _)
  executed-keeps (LrW rd rs1 order) = reserves-keeps false rd (register s rs1)
  executed-keeps (LrD rd rs1 order) = reserves-keeps true rd (register s rs1)
  executed-keeps (ScW rd rs1 rs2 order) = stores-if-held-keeps false rd (register s rs1) (lowest_bytes 4 (register s rs2))
  executed-keeps (ScD rd rs1 rs2 order) = stores-if-held-keeps true rd (register s rs1) (lowest_bytes 8 (register s rs2))
  executed-keeps (AmoswapW rd rs1 rs2 order) = replaces-keeps false rd (register s rs1) (register s rs2) (λ old value. value)
  executed-keeps (AmoswapD rd rs1 rs2 order) = replaces-keeps true rd (register s rs1) (register s rs2) (λ old value. value)
  executed-keeps (AmoaddW rd rs1 rs2 order) = replaces-keeps false rd (register s rs1) (register s rs2) sum
  executed-keeps (AmoaddD rd rs1 rs2 order) = replaces-keeps true rd (register s rs1) (register s rs2) sum
  executed-keeps (AmoxorW rd rs1 rs2 order) = replaces-keeps false rd (register s rs1) (register s rs2) exactly_one
  executed-keeps (AmoxorD rd rs1 rs2 order) = replaces-keeps true rd (register s rs1) (register s rs2) exactly_one
  executed-keeps (AmoandW rd rs1 rs2 order) = replaces-keeps false rd (register s rs1) (register s rs2) both
  executed-keeps (AmoandD rd rs1 rs2 order) = replaces-keeps true rd (register s rs1) (register s rs2) both
  executed-keeps (AmoorW rd rs1 rs2 order) = replaces-keeps false rd (register s rs1) (register s rs2) either
  executed-keeps (AmoorD rd rs1 rs2 order) = replaces-keeps true rd (register s rs1) (register s rs2) either
  executed-keeps (AmominW rd rs1 rs2 order) = replaces-keeps false rd (register s rs1) (register s rs2) word_least
  executed-keeps (AmominD rd rs1 rs2 order) = replaces-keeps true rd (register s rs1) (register s rs2) least
  executed-keeps (AmomaxW rd rs1 rs2 order) = replaces-keeps false rd (register s rs1) (register s rs2) word_greatest
  executed-keeps (AmomaxD rd rs1 rs2 order) = replaces-keeps true rd (register s rs1) (register s rs2) greatest
  executed-keeps (AmominuW rd rs1 rs2 order) = replaces-keeps false rd (register s rs1) (register s rs2) word_least_unsigned
  executed-keeps (AmominuD rd rs1 rs2 order) = replaces-keeps true rd (register s rs1) (register s rs2) least_unsigned
  executed-keeps (AmomaxuW rd rs1 rs2 order) = replaces-keeps false rd (register s rs1) (register s rs2) word_greatest_unsigned
  executed-keeps (AmomaxuD rd rs1 rs2 order) = replaces-keeps true rd (register s rs1) (register s rs2) greatest_unsigned

  word-keeps : (o : Option Instr) → Comes Keeps (executed_word s held o)
  word-keeps None = told refl
  word-keeps (Some i) = executed-keeps i

  step-keeps : Comes Keeps (step s held)
  step-keeps = either_way _ (tested (λ b. either_way b (read (λ bytes. word-keeps (decoded (little_endian bytes)))) (told refl))) (told refl)

ran-keeps : (fuel : ℕ) (held : Option Held) (regs : Regs) (m : Memory) → length (ran_holding fuel held regs m).regs.x ≡ length regs.x
unfolding ran_holding
ran-keeps zero held regs m = refl
ran-keeps (suc fuel) held regs m =
    let first : CarriedOut Stepped = carried_out (step regs held) m in
    let one : length first.reply.regs.x ≡ length regs.x = comes (step regs held) (step-keeps regs held) m in
    let rest : Ran = ran_holding fuel first.reply.held first.reply.regs first.memory in
    let more : length rest.regs.x ≡ length regs.x = ran-keeps fuel first.reply.held first.reply.regs first.memory ∙ one in
    elim first.reply.event as (λ event. length (elim event as (λ e. Ran) [ Next ↦ counted 1 rest | Call ↦ after_one first | Killed signal ↦ after_one first ]).regs.x ≡ length regs.x) [
      | Next ↦ more
      | Call ↦ one
      | Killed signal ↦ one
    ]

pub instructions-keep-registers : InstructionsKeepRegisters
instructions-keep-registers fuel regs memory = ran-keeps fuel None regs memory

-- a child has as many as its parent
pub child-registers : (sp : ℕ) (regs : Regs) → length (child_regs sp regs).x ≡ length regs.x
child-registers sp regs = by (sp == 0)
  where
    by : (b : Bool) → length (cond b (slice_set regs.x 10 0) (slice_set (slice_set regs.x 10 0) 2 sp)) ≡ length regs.x
    by true = length-set regs.x 10 0
    by false = length-set (slice_set regs.x 10 0) 2 sp ∙ length-set regs.x 10 0
