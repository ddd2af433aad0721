-- A loop of LR and SC: its four instructions, and what a pass of it needs.
use Rattle.std.specs.Prelude.{◌≡◌, ◌≢◌, ℕ, ◌+◌, ◌%◌, ◌<◌, ◌≤◌, ◌⊎◌, Bool, true, false, if◌then◌else◌, pos, negsuc, List, [], ◌∷◌, length, map, slice_index, None}
use Rattle.rv_asm.specs.rv_table.declared.instr.Instr.{Instr}
use Rattle.rv_asm.specs.rv_table.declared.instr.Instr.TheVariants.{LrW, LrD, ScW, ScD, Addi, Add as Plus, Xor as ExclusiveOr, And as Both, Or as Either, Bne, AmoswapW, AmoswapD, AmoaddW, AmoaddD, AmoxorW, AmoxorD, AmoandW, AmoandD, AmoorW, AmoorD}
use Rattle.rv_cpu.specs.rv_mem.declared.regs.Regs.{Regs}
use Rattle.rv_cpu.specs.rv_mem.declared.rights.Use.TheVariants.{Read, Write, Execute}
use Rattle.rv_cpu.specs.rv_mem.Pages.{Pages, allows_all, bytes_from, any_marked}
use Rattle.rv_cpu.specs.rv_mem.Memory.{Memory}
use Rattle.rv_cpu.specs.rv_mem.Actions.{CarriedOut, carried_out}
use Rattle.rv_cpu.specs.Words.{sum}
use Rattle.rv_cpu.specs.Step.{Stepped, register, width, executed}
pub use Rattle.rv_asm.specs.Program.{with_code}
use Rattle.rv_asm.specs.Assembly.{word}
use Rattle.rv_loops.specs.declared.code.LoopOp.{LoopOp}
use Rattle.rv_loops.specs.declared.code.LoopOp.TheVariants.{Swap, Add, Xor, And, Or}
use Rattle.rv_loops.specs.declared.code.LoopRegs.{LoopRegs}

-- ---- the registers

abbrev pub AreDistinct : List ℕ → Type 0
AreDistinct ns = (i j : ℕ) → i < j → j < length ns → slice_index ns i ≢ slice_index ns j

abbrev pub AreBelow : ℕ → List ℕ → Type 0
AreBelow limit [] = Unit {0}
AreBelow limit (n ∷ ns) = (n < limit) × AreBelow limit ns

abbrev pub registers : LoopRegs → List ℕ
registers r = r.rd ∷ r.rs1 ∷ r.rs2 ∷ r.value ∷ r.failed ∷ []

-- they are registers, they differ, and none of them is register 0
pub record AreUsable (r : LoopRegs) : Type 0 where
  pub below : AreBelow 32 (registers r)
  pub distinct : AreDistinct (0 ∷ registers r)

-- ---- the code

abbrev pub reserve : Bool → LoopRegs → Instr
reserve wide r = if wide then LrD r.rd r.rs1 0 else LrW r.rd r.rs1 0

abbrev pub operate : LoopOp → LoopRegs → Instr
operate Swap r = Addi r.value r.rs2 (pos 0)
operate Add r = Plus r.value r.rd r.rs2
operate Xor r = ExclusiveOr r.value r.rd r.rs2
operate And r = Both r.value r.rd r.rs2
operate Or r = Either r.value r.rd r.rs2

abbrev pub conclude : Bool → LoopRegs → Instr
conclude wide r = if wide then ScD r.failed r.rs1 r.value 0 else ScW r.failed r.rs1 r.value 0

-- three instructions back, where the SC failed; `negsuc 11` is -12
abbrev pub again : LoopRegs → Instr
again r = Bne r.failed 0 (negsuc 11)

abbrev pub code : LoopOp → Bool → LoopRegs → List Instr
code op wide r = reserve wide r ∷ operate op r ∷ conclude wide r ∷ again r ∷ []

-- ---- a pass

-- the instructions stand from an address on, readable as code; none of their bytes is marked, and none is
-- among the n bytes at another address
abbrev pub Stands : Pages → ℕ → ℕ → ℕ → List Instr → Type 0
Stands m at n pc [] = Unit {0}
Stands m at n pc (i ∷ is) =
    (allows_all m pc 4 Execute ≡ true) × (bytes_from m pc 4 ≡ word i) × (any_marked m pc 4 ≡ false)
    × ((pc + 4 ≤ at) ⊎ (at + n ≤ pc)) × Stands m at n (sum pc 4) is

-- the pc is at the loop, and the address is aligned, may be read and written, and lies outside of the loop
pub record CanPass (op : LoopOp) (wide : Bool) (r : LoopRegs) (s : Regs) (m : Memory) : Type 0 where
  pub usable : AreUsable r
  pub start : s.pc % 4 ≡ 0
  pub stands : Stands m.pages (register s r.rs1) (width wide) s.pc (code op wide r)
  pub aligned : register s r.rs1 % width wide ≡ 0
  pub readable : allows_all m.pages (register s r.rs1) (width wide) Read ≡ true
  pub writable : allows_all m.pages (register s r.rs1) (width wide) Write ≡ true

-- ---- the AMO of the same operation

abbrev pub amo : LoopOp → Bool → LoopRegs → Instr
amo Swap wide r = if wide then AmoswapD r.rd r.rs1 r.rs2 0 else AmoswapW r.rd r.rs1 r.rs2 0
amo Add wide r = if wide then AmoaddD r.rd r.rs1 r.rs2 0 else AmoaddW r.rd r.rs1 r.rs2 0
amo Xor wide r = if wide then AmoxorD r.rd r.rs1 r.rs2 0 else AmoxorW r.rd r.rs1 r.rs2 0
amo And wide r = if wide then AmoandD r.rd r.rs1 r.rs2 0 else AmoandW r.rd r.rs1 r.rs2 0
amo Or wide r = if wide then AmoorD r.rd r.rs1 r.rs2 0 else AmoorW r.rd r.rs1 r.rs2 0

abbrev pub after_amo : LoopOp → Bool → LoopRegs → Regs → Memory → CarriedOut Stepped
after_amo op wide r s m = carried_out (executed s None (amo op wide r)) m
