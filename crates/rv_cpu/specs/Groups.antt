-- Which instructions a part of the processor has to expect.
use Rattle.rv_mem.specs.rv_table.declared.instr.Instr.{Instr}
use Rattle.rv_mem.specs.rv_table.declared.instr.Instr.TheVariants.{LrW, LrD, ScW, ScD, AmoswapW, AmoswapD, AmoaddW, AmoaddD, AmoxorW, AmoxorD, AmoandW, AmoandD, AmoorW, AmoorD, AmominW, AmominD, AmomaxW, AmomaxD, AmominuW, AmominuD, AmomaxuW, AmomaxuD}

-- an atomic memory operation
abbrev pub IsReplacement : Instr → Type 0
IsReplacement (AmoswapW rd rs1 rs2 order) = Unit {0}
IsReplacement (AmoswapD rd rs1 rs2 order) = Unit {0}
IsReplacement (AmoaddW rd rs1 rs2 order) = Unit {0}
IsReplacement (AmoaddD rd rs1 rs2 order) = Unit {0}
IsReplacement (AmoxorW rd rs1 rs2 order) = Unit {0}
IsReplacement (AmoxorD rd rs1 rs2 order) = Unit {0}
IsReplacement (AmoandW rd rs1 rs2 order) = Unit {0}
IsReplacement (AmoandD rd rs1 rs2 order) = Unit {0}
IsReplacement (AmoorW rd rs1 rs2 order) = Unit {0}
IsReplacement (AmoorD rd rs1 rs2 order) = Unit {0}
IsReplacement (AmominW rd rs1 rs2 order) = Unit {0}
IsReplacement (AmominD rd rs1 rs2 order) = Unit {0}
IsReplacement (AmomaxW rd rs1 rs2 order) = Unit {0}
IsReplacement (AmomaxD rd rs1 rs2 order) = Unit {0}
IsReplacement (AmominuW rd rs1 rs2 order) = Unit {0}
IsReplacement (AmominuD rd rs1 rs2 order) = Unit {0}
IsReplacement (AmomaxuW rd rs1 rs2 order) = Unit {0}
IsReplacement (AmomaxuD rd rs1 rs2 order) = Unit {0}
IsReplacement i = ⊥

-- one, or an instruction that reserves or needs a reservation
abbrev pub IsAtomic : Instr → Type 0
IsAtomic (LrW rd rs1 order) = Unit {0}
IsAtomic (LrD rd rs1 order) = Unit {0}
IsAtomic (ScW rd rs1 rs2 order) = Unit {0}
IsAtomic (ScD rd rs1 rs2 order) = Unit {0}
IsAtomic i = IsReplacement i
