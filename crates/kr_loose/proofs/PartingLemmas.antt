-- Instructions that end with a call are parted at it: where the next instruction is a call, it is one whatever is reserved.
use Rattle.std.proofs.Common.{◌≡◌, ℕ, zero, suc, ◌+◌, ◌-◌, ◌*◌, ◌/◌, ◌%◌, ◌<◌, ◌==◌, Bool, true, false, not, ℤ, List, [], ◌∷◌, Option, Some, None, cond, refl, sym, ap, subst, ◌∙◌, arith}
use Rattle.kr_core.specs.pr_base.Fields.{little_endian}
use Rattle.kr_core.specs.rv_mem.declared.regs.Regs.{Regs}
use Rattle.kr_core.specs.rv_mem.declared.rights.Use.{Use}
use Rattle.kr_core.specs.rv_mem.declared.rights.Use.TheVariants.{Read, Write, Execute}
use Rattle.kr_core.specs.rv_mem.Actions.{Action, CarriedOut, Done, MayUse, ReadBytes, WriteBytes, allows_uses, carried_out, read_if_allowed, write_if_allowed}
use Rattle.kr_core.specs.rv_mem.Memory.{Memory, after_read, with_pages}
use Rattle.kr_core.specs.rv_mem.Pages.{bytes_from, written}
use Rattle.kr_core.specs.rv_table.Rows.{decoded}
use Rattle.kr_core.specs.rv_table.declared.instr.Instr.{Instr}
use Rattle.kr_core.specs.rv_table.declared.instr.Instr.TheVariants.{Lb, Lh, Lw, Ld, Lbu, Lhu, Lwu, Sb, Sh, Sw, Sd, Beq, Bne, Blt, Bge, Bltu, Bgeu, Jalr, Jal, Ecall, Ebreak, LrW, LrD, ScW, ScD, AmoswapW, AmoswapD, AmoaddW, AmoaddD, AmoxorW, AmoxorD, AmoandW, AmoandD, AmoorW, AmoorD, AmominW, AmominD, AmomaxW, AmomaxD, AmominuW, AmominuD, AmomaxuW, AmomaxuD}
use Rattle.kr_core.specs.rv_cpu.declared.event.Event.{Event}
use Rattle.kr_core.specs.rv_cpu.declared.event.Event.TheVariants.{Next, Call, Killed}
use Rattle.kr_core.specs.rv_cpu.declared.reservation.Held.{Held}
use Rattle.kr_core.specs.rv_cpu.Run.{Ran, after_one, counted, ran, ran_holding}
use Rattle.kr_core.specs.rv_cpu.Step.{Stepped, address, at_pc, branches, ends, executed, executed_word, gives, holds, if_aligned, is_held, jumps, kills, loads, lowest_bytes, moved_on, register, replaces, reserves, step, stores, stores_if_held, widened, width, with_register}
use Rattle.kr_core.specs.rv_cpu.Words.{both, either, exactly_one, greatest, greatest_unsigned, is_less, is_less_unsigned, least, least_unsigned, sign_extended, sign_extended_byte, sign_extended_half, sum, word_greatest, word_greatest_unsigned, word_least, word_least_unsigned, wrapped}
use Rattle.kr_core.proofs.rv_cpu.RunLemmas.{by_event, ran-next, ran-stop, ran-zero}
use Rattle.kr_loose.specs.Marks.{HasNoMarks}
use Rattle.kr_loose.specs.Parting.{PartsAtCall, RunsPartAtCalls}
use Rattle.kr_loose.proofs.UnmarkedLemmas.{action-unmarked, unread}

-- ---- the one instruction that is a call

abbrev is_call : Instr → Bool
is_call Ecall = true
is_call _ = false

call-is : (i : Instr) → is_call i ≡ true → i ≡ Ecall
call-is Ecall e = refl
call-is _ e = absurd cc

-- an action that doesn't end in a call, whatever it sees
abbrev NeverCalls : Action Stepped → Type 0
NeverCalls (Done end) = end.event ≡ Call → ⊥
NeverCalls (MayUse at n uses next) = (b : Bool) → NeverCalls (next b)
NeverCalls (ReadBytes at n next) = (bytes : List ℕ) → NeverCalls (next bytes)
NeverCalls (WriteBytes at bytes next) = NeverCalls next

goes-on : {A : Type 0} → Next ≡ Call → A
goes-on e = absurd cc

killed : {A : Type 0} {signal : ℕ} → Killed signal ≡ Call → A
killed e = absurd cc

never-carried : (action : Action Stepped) → NeverCalls action → (m : Memory) → (carried_out action m).reply.event ≡ Call → ⊥
never-carried (Done end) never m e = never e
never-carried (MayUse at n uses next) never m e = never-carried (next (allows_uses m.pages at n uses)) (never (allows_uses m.pages at n uses)) m e
never-carried (ReadBytes at n next) never m e = never-carried (next (bytes_from m.pages at n)) (never (bytes_from m.pages at n)) (after_read m at n) e
never-carried (WriteBytes at bytes next) never m e = never-carried next never (with_pages m (written m.pages at bytes)) e

by-test : (one other : Action Stepped) → NeverCalls one → NeverCalls other → (b : Bool) → NeverCalls (cond b one other)
by-test one other first second true = first
by-test one other first second false = second

module _ (s : Regs) (h : Option Held) where
  read-never : (at n : ℕ) (uses : List Use) (next : List ℕ → Action Stepped) → ((bytes : List ℕ) → NeverCalls (next bytes)) → NeverCalls (read_if_allowed at n uses (holds h (kills 11 s)) next)
  read-never at n uses next never = by-test (ReadBytes at n next) (holds h (kills 11 s)) never killed

  write-never : (at : ℕ) (bytes : List ℕ) (next : Action Stepped) → NeverCalls next → NeverCalls (write_if_allowed at bytes (holds h (kills 11 s)) next)
  write-never at bytes next never = by-test (WriteBytes at bytes next) (holds h (kills 11 s)) never killed

  aligned-never : (wide : Bool) (at : ℕ) (next : Action Stepped) → NeverCalls next → NeverCalls (if_aligned s h wide at next)
  aligned-never wide at next never = by-test next (holds h (kills 7 s)) never killed (at % width wide == 0)

  jump-never : (rd target : ℕ) → NeverCalls (holds h (jumps s rd target))
  jump-never rd target = by (target % 4 == 0)
    where
      by : (b : Bool) → NeverCalls (holds h (cond b (ends Next (at_pc target (with_register s rd (sum s.pc 4)))) (kills 7 s)))
      by true = goes-on
      by false = killed

  branch-never : (taken : Bool) (imm : ℤ) → NeverCalls (holds h (branches s taken imm))
  branch-never false imm = goes-on
  branch-never true imm = by (sum s.pc (wrapped imm) % 4 == 0)
    where
      by : (b : Bool) → NeverCalls (holds h (cond b (ends Next (at_pc (sum s.pc (wrapped imm)) s)) (kills 7 s)))
      by true = goes-on
      by false = killed

  load-never : (rd at n : ℕ) (extend : ℕ → ℕ) → NeverCalls (loads s h rd at n extend)
  load-never rd at n extend = read-never at n (Read ∷ []) (λ bytes. holds h (gives s rd (extend (little_endian bytes)))) (λ bytes. goes-on)

  store-never : (at : ℕ) (bytes : List ℕ) → NeverCalls (stores s h at bytes)
  store-never at bytes = write-never at bytes (holds h (ends Next (moved_on s))) goes-on

  reserve-never : (wide : Bool) (rd at : ℕ) → NeverCalls (reserves s h wide rd at)
  reserve-never wide rd at =
      let reserved : List ℕ → Action Stepped = λ bytes. holds (Some (record { at = at; wide = wide })) (gives s rd (widened wide (little_endian bytes))) in
      aligned-never wide at (read_if_allowed at (width wide) (Read ∷ []) (holds h (kills 11 s)) reserved) (read-never at (width wide) (Read ∷ []) reserved (λ bytes. goes-on))

  store-held-never : (wide : Bool) (rd at : ℕ) (bytes : List ℕ) → NeverCalls (stores_if_held s h wide rd at bytes)
  store-held-never wide rd at bytes =
      let stored : Action Stepped = write_if_allowed at bytes (holds h (kills 11 s)) (holds None (gives s rd 0)) in
      let other : Action Stepped = holds None (gives s rd 1) in
      aligned-never wide at (cond (is_held h wide at) stored other) (by-test stored other (write-never at bytes (holds None (gives s rd 0)) goes-on) goes-on (is_held h wide at))

  replace-never : (wide : Bool) (rd at value : ℕ) (combine : ℕ → ℕ → ℕ) → NeverCalls (replaces s h wide rd at value combine)
  replace-never wide rd at value combine =
      let old : List ℕ → Action Stepped = λ bytes. WriteBytes at (lowest_bytes (width wide) (combine (little_endian bytes) value)) (holds h (gives s rd (widened wide (little_endian bytes)))) in
      aligned-never wide at (read_if_allowed at (width wide) (Read ∷ Write ∷ []) (holds h (kills 11 s)) old) (read-never at (width wide) (Read ∷ Write ∷ []) old (λ bytes. goes-on))

  instruction-never : (i : Instr) → is_call i ≡ false → NeverCalls (executed s h i)
  instruction-never (Lb rd rs1 imm) is = load-never rd (address s rs1 imm) 1 sign_extended_byte
  instruction-never (Lh rd rs1 imm) is = load-never rd (address s rs1 imm) 2 sign_extended_half
  instruction-never (Lw rd rs1 imm) is = load-never rd (address s rs1 imm) 4 sign_extended
  instruction-never (Ld rd rs1 imm) is = load-never rd (address s rs1 imm) 8 (λ n. n)
  instruction-never (Lbu rd rs1 imm) is = load-never rd (address s rs1 imm) 1 (λ n. n)
  instruction-never (Lhu rd rs1 imm) is = load-never rd (address s rs1 imm) 2 (λ n. n)
  instruction-never (Lwu rd rs1 imm) is = load-never rd (address s rs1 imm) 4 (λ n. n)
  instruction-never (Sb rs1 rs2 imm) is = store-never (address s rs1 imm) (lowest_bytes 1 (register s rs2))
  instruction-never (Sh rs1 rs2 imm) is = store-never (address s rs1 imm) (lowest_bytes 2 (register s rs2))
  instruction-never (Sw rs1 rs2 imm) is = store-never (address s rs1 imm) (lowest_bytes 4 (register s rs2))
  instruction-never (Sd rs1 rs2 imm) is = store-never (address s rs1 imm) (lowest_bytes 8 (register s rs2))
  instruction-never (Beq rs1 rs2 imm) is = branch-never (register s rs1 == register s rs2) imm
  instruction-never (Bne rs1 rs2 imm) is = branch-never (not (register s rs1 == register s rs2)) imm
  instruction-never (Blt rs1 rs2 imm) is = branch-never (is_less (register s rs1) (register s rs2)) imm
  instruction-never (Bge rs1 rs2 imm) is = branch-never (not (is_less (register s rs1) (register s rs2))) imm
  instruction-never (Bltu rs1 rs2 imm) is = branch-never (is_less_unsigned (register s rs1) (register s rs2)) imm
  instruction-never (Bgeu rs1 rs2 imm) is = branch-never (not (is_less_unsigned (register s rs1) (register s rs2))) imm
  instruction-never (Jal rd imm) is = jump-never rd (sum s.pc (wrapped imm))
  instruction-never (Jalr rd rs1 imm) is = jump-never rd (address s rs1 imm / 2 * 2)
  instruction-never Ecall is = absurd cc
  instruction-never Ebreak is = killed
  instruction-never (LrW rd rs1 order) is = reserve-never false rd (register s rs1)
  instruction-never (LrD rd rs1 order) is = reserve-never true rd (register s rs1)
  instruction-never (ScW rd rs1 rs2 order) is = store-held-never false rd (register s rs1) (lowest_bytes 4 (register s rs2))
  instruction-never (ScD rd rs1 rs2 order) is = store-held-never true rd (register s rs1) (lowest_bytes 8 (register s rs2))
  instruction-never (AmoswapW rd rs1 rs2 order) is = replace-never false rd (register s rs1) (register s rs2) (λ old value. value)
  instruction-never (AmoswapD rd rs1 rs2 order) is = replace-never true rd (register s rs1) (register s rs2) (λ old value. value)
  instruction-never (AmoaddW rd rs1 rs2 order) is = replace-never false rd (register s rs1) (register s rs2) sum
  instruction-never (AmoaddD rd rs1 rs2 order) is = replace-never true rd (register s rs1) (register s rs2) sum
  instruction-never (AmoxorW rd rs1 rs2 order) is = replace-never false rd (register s rs1) (register s rs2) exactly_one
  instruction-never (AmoxorD rd rs1 rs2 order) is = replace-never true rd (register s rs1) (register s rs2) exactly_one
  instruction-never (AmoandW rd rs1 rs2 order) is = replace-never false rd (register s rs1) (register s rs2) both
  instruction-never (AmoandD rd rs1 rs2 order) is = replace-never true rd (register s rs1) (register s rs2) both
  instruction-never (AmoorW rd rs1 rs2 order) is = replace-never false rd (register s rs1) (register s rs2) either
  instruction-never (AmoorD rd rs1 rs2 order) is = replace-never true rd (register s rs1) (register s rs2) either
  instruction-never (AmominW rd rs1 rs2 order) is = replace-never false rd (register s rs1) (register s rs2) word_least
  instruction-never (AmominD rd rs1 rs2 order) is = replace-never true rd (register s rs1) (register s rs2) least
  instruction-never (AmomaxW rd rs1 rs2 order) is = replace-never false rd (register s rs1) (register s rs2) word_greatest
  instruction-never (AmomaxD rd rs1 rs2 order) is = replace-never true rd (register s rs1) (register s rs2) greatest
  instruction-never (AmominuW rd rs1 rs2 order) is = replace-never false rd (register s rs1) (register s rs2) word_least_unsigned
  instruction-never (AmominuD rd rs1 rs2 order) is = replace-never true rd (register s rs1) (register s rs2) least_unsigned
  instruction-never (AmomaxuW rd rs1 rs2 order) is = replace-never false rd (register s rs1) (register s rs2) word_greatest_unsigned
  instruction-never (AmomaxuD rd rs1 rs2 order) is = replace-never true rd (register s rs1) (register s rs2) greatest_unsigned
  instruction-never _ is = goes-on

-- ---- a call is met again

-- what is left where a call is met
abbrev met : Regs → Option Held → Memory → CarriedOut Stepped
met s held m = record { reply = record { event = Call; regs = s; held = held }; memory = m }

abbrev fetched : Regs → Option Held → List ℕ → Action Stepped
fetched s held bytes = executed_word s held (decoded (little_endian bytes))

abbrev refused : Regs → Option Held → Action Stepped
refused s held = holds held (kills 11 s)

module _ (s : Regs) (h other : Option Held) where
  word-meets : (word : Option Instr) (m : Memory) → (carried_out (executed_word s h word) m).reply.event ≡ Call → carried_out (executed_word s other word) m ≡ met s other m
  word-meets None m e = killed e
  word-meets (Some i) m e = by (is_call i) refl
    where
      by : (b : Bool) → is_call i ≡ b → carried_out (executed s other i) m ≡ met s other m
      by true is = ap (λ (j : Instr). carried_out (executed s other j) m) (call-is i is)
      by false is = absurd (never-carried (executed s h i) (instruction-never s h i is) m e)

  step-meets : (m : Memory) → (carried_out (step s h) m).reply.event ≡ Call → carried_out (step s other) m ≡ met s other (after_read m s.pc 4)
  step-meets m = aligned (s.pc % 4 == 0)
    where
      allowed : (b : Bool) → (carried_out (cond b (ReadBytes s.pc 4 (fetched s h)) (refused s h)) m).reply.event ≡ Call
          → carried_out (cond b (ReadBytes s.pc 4 (fetched s other)) (refused s other)) m ≡ met s other (after_read m s.pc 4)
      allowed false e = killed e
      allowed true e = word-meets (decoded (little_endian (bytes_from m.pages s.pc 4))) (after_read m s.pc 4) e

      aligned : (b : Bool) → (carried_out (cond b (read_if_allowed s.pc 4 (Execute ∷ []) (refused s h) (fetched s h)) (holds h (kills 7 s))) m).reply.event ≡ Call
          → carried_out (cond b (read_if_allowed s.pc 4 (Execute ∷ []) (refused s other) (fetched s other)) (holds other (kills 7 s))) m ≡ met s other (after_read m s.pc 4)
      aligned false e = killed e
      aligned true e = allowed (allows_uses m.pages s.pc 4 (Execute ∷ [])) e

-- ---- instructions before a call

-- the next instruction is a call, whatever is reserved, and leaves registers and memory
abbrev StandsAtCall : Regs → Memory → Type 0
StandsAtCall s m = (other : Option Held) → carried_out (step s other) m ≡ met s other m

abbrev ended_after : Regs → Memory → ℕ → Ran
ended_after s m n = record { event = Next; regs = s; memory = m; done = n }

-- so many instructions came before the call
record PartedFrom (held : Option Held) (s : Regs) (m : Memory) (end : Ran) : Type 0 where
  count : ℕ
  total : end.done ≡ suc count
  before : ran_holding count held s m ≡ ended_after end.regs end.memory count
  stands : StandsAtCall end.regs end.memory

-- the first one is the call
first-parts : (held : Option Held) (s : Regs) (m : Memory) → HasNoMarks m.pages → (carried_out (step s held) m).reply.event ≡ Call → PartedFrom held s m (after_one (carried_out (step s held) m))
first-parts held s m clear e =
    let here : StandsAtCall s m = λ (other : Option Held). step-meets s held other m e ∙ ap (met s other) (unread m s.pc 4 clear) in
    let same : carried_out (step s held) m ≡ met s held m = here held in
    record {
      count = zero;
      total = refl;
      before = ran-zero held s m ∙ ap (λ (c : CarriedOut Stepped). ended_after c.reply.regs c.memory zero) (sym same);
      stands = subst (λ (c : CarriedOut Stepped). StandsAtCall c.reply.regs c.memory) (sym same) here;
    }

-- or one of those behind it
abbrev Parts : ℕ → Type 0
Parts fuel = (held : Option Held) (s : Regs) (m : Memory) → HasNoMarks m.pages → (ran_holding fuel held s m).event ≡ Call → PartedFrom held s m (ran_holding fuel held s m)

later-parts : (fuel : ℕ) (held : Option Held) (s : Regs) (m : Memory) (first : CarriedOut Stepped) → carried_out (step s held) m ≡ first → first.reply.event ≡ Next
    → PartedFrom first.reply.held first.reply.regs first.memory (ran_holding fuel first.reply.held first.reply.regs first.memory)
    → PartedFrom held s m (counted 1 (ran_holding fuel first.reply.held first.reply.regs first.memory))
later-parts fuel held s m first same is rest =
    let end : Ran = ran_holding fuel first.reply.held first.reply.regs first.memory in
    let goes : (carried_out (step s held) m).reply.event ≡ Next = ap (λ (c : CarriedOut Stepped). c.reply.event) same ∙ is in
    let far : end.done ≡ suc rest.count = rest.total in
    let one : 1 + rest.count ≡ suc rest.count = omega arith in
    let all : 1 + end.done ≡ suc (suc rest.count) = omega (arith, far) in
    record {
      count = suc rest.count;
      total = all;
      before =
          ran-next rest.count held s m goes
          ∙ ap (λ (c : CarriedOut Stepped). counted 1 (ran_holding rest.count c.reply.held c.reply.regs c.memory)) same
          ∙ ap (counted 1) rest.before
          ∙ ap (ended_after end.regs end.memory) one;
      stands = rest.stands;
    }

rest-parts : (fuel : ℕ) → Parts fuel → (held : Option Held) (s : Regs) (m : Memory) → HasNoMarks m.pages → (event : Event) → (carried_out (step s held) m).reply.event ≡ event
    → (by_event event fuel (carried_out (step s held) m)).event ≡ Call → PartedFrom held s m (by_event event fuel (carried_out (step s held) m))
rest-parts fuel parts held s m clear Next is e =
    let first : CarriedOut Stepped = carried_out (step s held) m in
    later-parts fuel held s m first refl is (parts first.reply.held first.reply.regs first.memory (action-unmarked (step s held) m clear) e)
rest-parts fuel parts held s m clear Call is e = first-parts held s m clear is
rest-parts fuel parts held s m clear (Killed signal) is e = killed (sym is ∙ e)

run-parts : (fuel : ℕ) → Parts fuel
unfolding ran_holding
run-parts zero held s m clear e = goes-on e
run-parts (suc fuel) held s m clear e = rest-parts fuel (run-parts fuel) held s m clear (carried_out (step s held) m).reply.event refl e

-- ---- the law

stops : Call ≡ Next → ⊥
stops e = cc

module _ (s : Regs) (m : Memory) (end : Ran) (parted : PartedFrom None s m end) where
  met-again : (more : ℕ) → ran (suc more) end.regs end.memory ≡ record { event = Call; regs = end.regs; memory = end.memory; done = 1 }
  met-again more =
      let here : carried_out (step end.regs None) end.memory ≡ met end.regs None end.memory = parted.stands None in
      ran-stop more None end.regs end.memory (λ next. stops (sym (ap (λ (c : CarriedOut Stepped). c.reply.event) here) ∙ next)) ∙ ap after_one here

  parts-at-call : PartsAtCall end s m
  parts-at-call =
      let far : end.done ≡ suc parted.count = parted.total in
      let back : parted.count ≡ end.done - 1 = omega (arith, far) in
      record {
        some = omega (arith, far);
        before = subst (λ (n : ℕ). ran n s m ≡ ended_after end.regs end.memory n) back parted.before;
        again = met-again;
      }

pub runs-part-at-calls : RunsPartAtCalls
runs-part-at-calls fuel regs memory clear e = parts-at-call regs memory (ran fuel regs memory) (run-parts fuel None regs memory clear e)
