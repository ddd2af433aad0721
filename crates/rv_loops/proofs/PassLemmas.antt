-- A pass of a loop is the AMO of its operation.
use Rattle.std.proofs.Common.{◌≡◌, ◌≢◌, ℕ, zero, suc, ◌+◌, ◌%◌, ◌<◌, Bool, true, false, ◌&&◌, List, [], ◌∷◌, length, Some, None, refl, sym, ap, ◌∙◌, arith, lit<, eq-eqb, subst}
use Rattle.std.specs.Prelude.{Option, not, ◌==◌, negsuc, if◌then◌else◌}
use Rattle.std.proofs.lemmas.List.{length-set}
use Rattle.rv_asm.specs.pr_base.Fields.{little_endian}
use Rattle.rv_asm.specs.rv_table.declared.instr.Instr.{Instr}
use Rattle.rv_asm.specs.rv_table.Encoding.{IsValid}
use Rattle.rv_cpu.specs.rv_mem.declared.regs.Regs.{Regs}
use Rattle.rv_cpu.specs.rv_mem.declared.rights.Use.TheVariants.{Read, Write}
use Rattle.rv_cpu.specs.rv_mem.Pages.{allows_all, bytes_from, written}
use Rattle.rv_cpu.specs.rv_mem.Memory.{Memory, after_read, with_pages}
use Rattle.rv_cpu.specs.rv_mem.Actions.{CarriedOut, WriteBytes, carried_out, allows_uses, read_if_allowed, write_if_allowed}
use Rattle.rv_cpu.specs.declared.event.Event.TheVariants.{Next}
use Rattle.rv_cpu.specs.declared.reservation.Held.{Held}
use Rattle.rv_cpu.specs.Words.{sum}
use Rattle.rv_cpu.specs.Step.{Stepped, register, with_register, moved_on, lowest_bytes, width, widened, is_held, holds, kills, gives, branches, reserves, stores_if_held, replaces, executed, step}
use Rattle.rv_cpu.specs.Run.{counted, ran_holding, ran}
use Rattle.rv_cpu.proofs.RunLemmas.{ran-zero, ran-next}
use Rattle.rv_loops.specs.declared.code.LoopOp.{LoopOp}
use Rattle.rv_loops.specs.declared.code.LoopOp.TheVariants.{Swap, Add, Xor, And, Or}
use Rattle.rv_loops.specs.declared.code.LoopRegs.{LoopRegs}
use Rattle.rv_loops.specs.Loops.{AreUsable, reserve, operate, conclude, again, Stands, CanPass, after_amo}
use Rattle.rv_loops.proofs.Carried.{met, read_is, write_is}
use Rattle.rv_loops.proofs.Fetch.{fetched}
use Rattle.rv_loops.proofs.Operations.{computed, combined, reserve-executed, operate-executed, conclude-executed, amo-executed, same_bytes}
use Rattle.rv_loops.proofs.Outside.{Stands-written}
use Rattle.rv_loops.proofs.Registers.{set_register, with_register-set, register-set_same, register-set_other}

-- an instruction that went on
abbrev pub ended : Regs → Option Held → Memory → CarriedOut Stepped
ended s held m = record { reply = record { event = Next; regs = s; held = held }; memory = m }

-- a register set, and on to the next instruction
abbrev pub set_on : Regs → ℕ → ℕ → Regs
set_on s r value = moved_on (set_register s r value)

on_set : (s : Regs) (r value : ℕ) → 0 ≢ r → moved_on (with_register s r value) ≡ set_on s r value
on_set s r value some = ap moved_on (with_register-set s r value some)

-- ---- the instructions

reserved : (s : Regs) (held : Option Held) (m : Memory) (wide : Bool) (rd at : ℕ) → 0 ≢ rd → at % width wide ≡ 0 → allows_all m.pages at (width wide) Read ≡ true
    → carried_out (reserves s held wide rd at) m
    ≡ ended (set_on s rd (widened wide (little_endian (bytes_from m.pages at (width wide))))) (Some (record { at = at; wide = wide })) (after_read m at (width wide))
reserved s held m wide rd at some aligned allowed =
    let after = Some (record { at = at; wide = wide }) in
    let next = λ (bytes : List ℕ). holds after (gives s rd (widened wide (little_endian bytes))) in
    met (eq-eqb _ _ aligned) (read_if_allowed at (width wide) (Read ∷ []) (holds held (kills 11 s)) next) (holds held (kills 7 s)) m
    ∙ read_is m at (width wide) (Read ∷ []) (holds held (kills 11 s)) next allowed
    ∙ ap (λ t. ended t after (after_read m at (width wide))) (on_set s rd (widened wide (little_endian (bytes_from m.pages at (width wide)))) some)

is_held-same : (wide : Bool) (at : ℕ) → is_held (Some (record { at = at; wide = wide })) wide at ≡ true
is_held-same true at = rw (eq-eqb at at refl) refl
is_held-same false at = rw (eq-eqb at at refl) refl

concluded : (s : Regs) (m : Memory) (wide : Bool) (rd at : ℕ) (bytes : List ℕ) → 0 ≢ rd → at % width wide ≡ 0 → allows_all m.pages at (length bytes) Write ≡ true
    → carried_out (stores_if_held s (Some (record { at = at; wide = wide })) wide rd at bytes) m ≡ ended (set_on s rd 0) None (with_pages m (written m.pages at bytes))
concluded s m wide rd at bytes some aligned allowed =
    let before = Some (record { at = at; wide = wide }) in
    let refused = holds before (kills 11 s) in
    let stored = write_if_allowed at bytes refused (holds None (gives s rd 0)) in
    let lost = holds None (gives s rd 1) in
    met (eq-eqb _ _ aligned) (if is_held before wide at then stored else lost) (holds before (kills 7 s)) m
    ∙ met (is_held-same wide at) stored lost m
    ∙ write_is m at bytes refused (holds None (gives s rd 0)) allowed
    ∙ ap (λ t. ended t None (with_pages m (written m.pages at bytes))) (on_set s rd 0 some)

replaced : (s : Regs) (held : Option Held) (m : Memory) (wide : Bool) (rd at value : ℕ) (f : ℕ → ℕ → ℕ) → 0 ≢ rd → at % width wide ≡ 0
    → allows_all m.pages at (width wide) Read ≡ true → allows_all m.pages at (width wide) Write ≡ true
    → carried_out (replaces s held wide rd at value f) m
    ≡ ended (set_on s rd (widened wide (little_endian (bytes_from m.pages at (width wide))))) held
    (with_pages (after_read m at (width wide)) (written m.pages at (lowest_bytes (width wide) (f (little_endian (bytes_from m.pages at (width wide))) value))))
replaced s held m wide rd at value f some aligned readable writable =
    let old = little_endian (bytes_from m.pages at (width wide)) in
    let after = with_pages (after_read m at (width wide)) (written m.pages at (lowest_bytes (width wide) (f old value))) in
    let refused = holds held (kills 11 s) in
    let next = λ (bytes : List ℕ). WriteBytes at (lowest_bytes (width wide) (f (little_endian bytes) value)) (holds held (gives s rd (widened wide (little_endian bytes)))) in
    let allowed : allows_uses m.pages at (width wide) (Read ∷ Write ∷ []) ≡ true = ap (λ b. b && allows_all m.pages at (width wide) Read) writable ∙ readable in
    met (eq-eqb _ _ aligned) (read_if_allowed at (width wide) (Read ∷ Write ∷ []) refused next) (holds held (kills 7 s)) m
    ∙ read_is m at (width wide) (Read ∷ Write ∷ []) refused next allowed
    ∙ ap (λ t. ended t held after) (on_set s rd (widened wide old) some)

-- ---- one instruction of a run

one_step : (fuel : ℕ) (held after : Option Held) (s t : Regs) (m w : Memory) → carried_out (step s held) m ≡ ended t after w
    → ran_holding (suc fuel) held s m ≡ counted 1 (ran_holding fuel after t w)
one_step fuel held after s t m w e =
    ran-next fuel held s m (ap (λ d. d.reply.event) e) ∙ ap (λ d. counted 1 (ran_holding fuel d.reply.held d.reply.regs d.memory)) e

-- an instruction that stands at the pc
stepped : (s t : Regs) (held after : Option Held) (m w : Memory) (at n : ℕ) (i : Instr) (is : List Instr) → s.pc % 4 ≡ 0 → Stands m.pages at n s.pc (i ∷ is) → IsValid i
    → carried_out (executed s held i) m ≡ ended t after w → carried_out (step s held) m ≡ ended t after w
stepped s t held after m w at n i is start stands valid e = fetched s held m i start stands.0 stands.1 stands.2 valid ∙ e

-- ---- a pass

next_start : (pc : ℕ) → pc % 4 ≡ 0 → sum pc 4 % 4 ≡ 0
next_start pc start = omega arith

length-lowest_bytes : (wide : Bool) (n : ℕ) → length (lowest_bytes (width wide) n) ≡ width wide
length-lowest_bytes true n = refl
length-lowest_bytes false n = refl

module _ (r : LoopRegs) (usable : AreUsable r) where
  pub reserve-valid : (wide : Bool) → IsValid (reserve wide r)
  reserve-valid true = (usable.below.0, usable.below.1.0, lit< tt)
  reserve-valid false = (usable.below.0, usable.below.1.0, lit< tt)

  pub operate-valid : (op : LoopOp) → IsValid (operate op r)
  operate-valid Swap = (usable.below.1.1.1.0, usable.below.1.1.0, lit< tt)
  operate-valid Add = (usable.below.1.1.1.0, usable.below.0, usable.below.1.1.0)
  operate-valid Xor = (usable.below.1.1.1.0, usable.below.0, usable.below.1.1.0)
  operate-valid And = (usable.below.1.1.1.0, usable.below.0, usable.below.1.1.0)
  operate-valid Or = (usable.below.1.1.1.0, usable.below.0, usable.below.1.1.0)

  pub conclude-valid : (wide : Bool) → IsValid (conclude wide r)
  conclude-valid true = (usable.below.1.1.1.1.0, usable.below.1.0, usable.below.1.1.1.0, lit< tt)
  conclude-valid false = (usable.below.1.1.1.1.0, usable.below.1.0, usable.below.1.1.1.0, lit< tt)

  pub again-valid : IsValid (again r)
  again-valid = (usable.below.1.1.1.1.0, lit< tt, lit< tt, refl)

-- what the loop reads, and what it stores
abbrev pub read_number : Bool → LoopRegs → Regs → Memory → ℕ
read_number wide r s m = little_endian (bytes_from m.pages (register s r.rs1) (width wide))

abbrev pub stored_bytes : LoopOp → Bool → LoopRegs → Regs → Memory → List ℕ
stored_bytes op wide r s m = lowest_bytes (width wide) (combined op (read_number wide r s m) (register s r.rs2))

-- the registers after each instruction, and the memory after the last
abbrev pub after_reserve : Bool → LoopRegs → Regs → Memory → Regs
after_reserve wide r s m = set_on s r.rd (widened wide (read_number wide r s m))

abbrev pub after_operate : LoopOp → LoopRegs → Regs → Regs
after_operate op r t = set_on t r.value (computed op (register t r.rd) (register t r.rs2))

abbrev pub after_conclude : LoopOp → Bool → LoopRegs → Regs → Memory → Regs
after_conclude op wide r s m = set_on (after_operate op r (after_reserve wide r s m)) r.failed 0

abbrev pub memory_after : LoopOp → Bool → LoopRegs → Regs → Memory → Memory
memory_after op wide r s m =
    with_pages (after_read m (register s r.rs1) (width wide)) (written m.pages (register s r.rs1) (stored_bytes op wide r s m))

module _ (op : LoopOp) (wide : Bool) (r : LoopRegs) (s : Regs) (m : Memory) (can : CanPass op wide r s m) (whole : length s.x ≡ 32) where
  read_back : register (after_reserve wide r s m) r.rd ≡ widened wide (read_number wide r s m)
  read_back = register-set_same s r.rd (widened wide (read_number wide r s m)) (can.usable.distinct 0 1 (lit< tt) (lit< tt)) (omega (arith, whole, can.usable.below.0))

  length_after_reserve : length (after_reserve wide r s m).x ≡ 32
  length_after_reserve = length-set s.x r.rd (widened wide (read_number wide r s m)) ∙ whole

  value_is : register (after_operate op r (after_reserve wide r s m)) r.value ≡ computed op (widened wide (read_number wide r s m)) (register s r.rs2)
  value_is =
      let t = after_reserve wide r s m in
      let other = register-set_other s r.rd (widened wide (read_number wide r s m)) r.rs2 (λ e. can.usable.distinct 1 3 (lit< tt) (lit< tt) (sym e)) in
      register-set_same t r.value (computed op (register t r.rd) (register t r.rs2)) (can.usable.distinct 0 4 (lit< tt) (lit< tt)) (omega (arith, length_after_reserve, can.usable.below.1.1.1.0))
      ∙ ap (λ n. computed op n (register t r.rs2)) read_back
      ∙ ap (computed op (widened wide (read_number wide r s m))) other

  address_is : register (after_operate op r (after_reserve wide r s m)) r.rs1 ≡ register s r.rs1
  address_is =
      let t = after_reserve wide r s m in
      register-set_other t r.value (computed op (register t r.rd) (register t r.rs2)) r.rs1 (can.usable.distinct 2 4 (lit< tt) (lit< tt))
      ∙ register-set_other s r.rd (widened wide (read_number wide r s m)) r.rs1 (λ e. can.usable.distinct 1 2 (lit< tt) (lit< tt) (sym e))

  stored_are : lowest_bytes (width wide) (register (after_operate op r (after_reserve wide r s m)) r.value) ≡ stored_bytes op wide r s m
  stored_are = ap (lowest_bytes (width wide)) value_is ∙ same_bytes op wide (read_number wide r s m) (register s r.rs2)

  failed_is : register (after_conclude op wide r s m) r.failed ≡ 0
  failed_is =
      let t = after_reserve wide r s m in
      let u = after_operate op r t in
      let long : length u.x ≡ 32 = length-set t.x r.value (computed op (register t r.rd) (register t r.rs2)) ∙ length_after_reserve in
      register-set_same u r.failed 0 (can.usable.distinct 0 5 (lit< tt) (lit< tt)) (omega (arith, long, can.usable.below.1.1.1.1.0))

  length-stored : length (stored_bytes op wide r s m) ≡ width wide
  length-stored = length-lowest_bytes wide (combined op (read_number wide r s m) (register s r.rs2))

  abbrev here : Option Held
  here = Some (record { at = register s r.rs1; wide = wide })

  first : carried_out (step s None) m ≡ ended (after_reserve wide r s m) here (after_read m (register s r.rs1) (width wide))
  first =
      let at = register s r.rs1 in
      stepped s (after_reserve wide r s m) None here m (after_read m at (width wide)) at (width wide) (reserve wide r) (operate op r ∷ conclude wide r ∷ again r ∷ [])
      can.start can.stands (reserve-valid r can.usable wide)
      (ap (λ a. carried_out a m) (reserve-executed s None r wide) ∙ reserved s None m wide r.rd at (can.usable.distinct 0 1 (lit< tt) (lit< tt)) can.aligned can.readable)

  second : carried_out (step (after_reserve wide r s m) here) (after_read m (register s r.rs1) (width wide))
      ≡ ended (after_operate op r (after_reserve wide r s m)) here (after_read m (register s r.rs1) (width wide))
  second =
      let at = register s r.rs1 in
      let w = after_read m at (width wide) in
      let t = after_reserve wide r s m in
      stepped t (after_operate op r t) here here w w at (width wide) (operate op r) (conclude wide r ∷ again r ∷ [])
      (next_start s.pc can.start) can.stands.4 (operate-valid r can.usable op)
      (ap (λ a. carried_out a w) (operate-executed t here r op) ∙ ap (λ u. ended u here w) (on_set t r.value (computed op (register t r.rd) (register t r.rs2)) (can.usable.distinct 0 4 (lit< tt) (lit< tt))))

  third : carried_out (step (after_operate op r (after_reserve wide r s m)) here) (after_read m (register s r.rs1) (width wide))
      ≡ ended (after_conclude op wide r s m) None (memory_after op wide r s m)
  third =
      let at = register s r.rs1 in
      let w = after_read m at (width wide) in
      let u = after_operate op r (after_reserve wide r s m) in
      let bytes = stored_bytes op wide r s m in
      let allowed : allows_all m.pages at (length bytes) Write ≡ true = ap (λ n. allows_all m.pages at n Write) length-stored ∙ can.writable in
      stepped u (after_conclude op wide r s m) here None w (memory_after op wide r s m) at (width wide) (conclude wide r) (again r ∷ [])
      (next_start (sum s.pc 4) (next_start s.pc can.start)) can.stands.4.4 (conclude-valid r can.usable wide)
      (
      ap (λ a. carried_out a w) (conclude-executed u here r wide)
      ∙ ap (λ a. carried_out (stores_if_held u here wide r.failed a (lowest_bytes (width wide) (register u r.value))) w) address_is
      ∙ ap (λ bs. carried_out (stores_if_held u here wide r.failed at bs) w) stored_are
      ∙ concluded u w wide r.failed at bytes (can.usable.distinct 0 5 (lit< tt) (lit< tt)) can.aligned allowed
      )

  fourth : carried_out (step (after_conclude op wide r s m) None) (memory_after op wide r s m) ≡ ended (moved_on (after_conclude op wide r s m)) None (memory_after op wide r s m)
  fourth =
      let at = register s r.rs1 in
      let t = after_conclude op wide r s m in
      let w = memory_after op wide r s m in
      let bytes = stored_bytes op wide r s m in
      let before : Stands m.pages at (length bytes) t.pc (again r ∷ []) = subst (λ n. Stands m.pages at n t.pc (again r ∷ [])) (sym length-stored) can.stands.4.4.4 in
      stepped t (moved_on t) None None w w at (length bytes) (again r) []
      (next_start (sum (sum s.pc 4) 4) (next_start (sum s.pc 4) (next_start s.pc can.start))) (Stands-written m.pages at bytes t.pc (again r ∷ []) before) (again-valid r can.usable)
      (ap (λ n. carried_out (holds None (branches t (not (n == register t 0)) (negsuc 11))) w) failed_is)

  pub passed : ran 4 s m ≡ record { event = Next; regs = moved_on (after_conclude op wide r s m); memory = memory_after op wide r s m; done = 4 }
  passed =
      let t = after_reserve wide r s m in
      let u = after_operate op r t in
      let v = after_conclude op wide r s m in
      let w = after_read m (register s r.rs1) (width wide) in
      let x = memory_after op wide r s m in
      one_step 3 None here s t m w first
      ∙ ap (counted 1) (one_step 2 here here t u w w second ∙ ap (counted 1) (one_step 1 here None u v w x third ∙ ap (counted 1) (one_step 0 None None v (moved_on v) x x fourth ∙ ap (counted 1) (ran-zero None (moved_on v) x))))

  pub amo_is : after_amo op wide r s m ≡ ended (after_reserve wide r s m) None (memory_after op wide r s m)
  amo_is =
      let at = register s r.rs1 in
      ap (λ a. carried_out a m) (amo-executed s None r op wide)
      ∙ replaced s None m wide r.rd at (register s r.rs2) (combined op) (can.usable.distinct 0 1 (lit< tt) (lit< tt)) can.aligned can.readable can.writable

  pub registers_are : (k : ℕ) → k ≢ r.value → k ≢ r.failed → register (moved_on (after_conclude op wide r s m)) k ≡ register (after_reserve wide r s m) k
  registers_are k value failed =
      let t = after_reserve wide r s m in
      register-set_other (after_operate op r t) r.failed 0 k failed ∙ register-set_other t r.value (computed op (register t r.rd) (register t r.rs2)) k value

  pub pc_is : (moved_on (after_conclude op wide r s m)).pc ≡ sum s.pc 16
  pc_is = omega arith
