use Rattle.std.proofs.Common.{◌≡◌, subst, sym}
use Rattle.std.specs.Prelude.{IfOk, Result, Ok, Err}
use Rattle.elf_write.proofs.Accepted.{written_accepted, written_entry, written_segments, written_table, written_count}
use Rattle.elf_write.proofs.Written.{code_stands, init_stands}
use Rattle.elf_write.proofs.layout.write.Goals as goal

-- what holds of the bytes holds of the file that has them
of_the_file : {E F : Type 0} (P : F → Type 0) (bytes : F) (r : Result F E) → IfOk r (λ file. file ≡ bytes) → P bytes → IfOk r P
of_the_file P bytes (Ok file) is here = subst P (sym is) here
of_the_file P bytes (Err e) is here = tt

pub returns-clause-accepted : goal.returns-clause-accepted
returns-clause-accepted c = of_the_file _ _ c.lay_out.result c.lay_out.ensures (written_accepted c.args.code.now c.args.init.now c.args.bss c.requires.some_code c.requires.within)

pub returns-clause-entry : goal.returns-clause-entry
returns-clause-entry c = of_the_file _ _ c.lay_out.result c.lay_out.ensures (written_entry c.args.code.now c.args.init.now c.args.bss c.requires.within)

pub returns-clause-segments : goal.returns-clause-segments
returns-clause-segments c = of_the_file _ _ c.lay_out.result c.lay_out.ensures (written_segments c.args.code.now c.args.init.now c.args.bss c.requires.some_code c.requires.within)

pub returns-clause-code : goal.returns-clause-code
returns-clause-code c = of_the_file _ _ c.lay_out.result c.lay_out.ensures (code_stands c.args.code.now c.args.init.now c.args.bss)

pub returns-clause-init : goal.returns-clause-init
returns-clause-init c = of_the_file _ _ c.lay_out.result c.lay_out.ensures (init_stands c.args.code.now c.args.init.now c.args.bss)

pub returns-clause-table : goal.returns-clause-table
returns-clause-table c =
    of_the_file _ _ c.lay_out.result c.lay_out.ensures (written_table c.args.code.now c.args.init.now c.args.bss c.requires.some_code c.requires.within)

pub returns-clause-headers : goal.returns-clause-headers
returns-clause-headers c =
    of_the_file _ _ c.lay_out.result c.lay_out.ensures (written_count c.args.code.now c.args.init.now c.args.bss c.requires.within)
