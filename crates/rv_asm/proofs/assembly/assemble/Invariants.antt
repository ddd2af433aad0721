use Rattle.std.proofs.Common.{◌≡◌, ◌+◌, ◌%◌, ◌++◌, None, drop}
use Rattle.rv_asm.specs.Program.{total}
use Rattle.rv_asm.specs.Assembly.{first_far, code_from}
use Rattle.rv_asm.proofs.assembly.assemble.Given as goal

-- the code so far is the front of all, and what is left has no fault
abbrev pub invariant-loop-item : goal.invariant-loop-item
invariant-loop-item l = record {
  front : l.code.items ++ code_from l.places l.at (drop l.item-index l.items) ≡ code_from l.places 0 l.items;
  counted : l.at + total (drop l.item-index l.items) ≡ total l.items;
  aligned : l.at % 4 ≡ 0;
  reached : first_far l.places l.at (drop l.item-index l.items) ≡ None;
}
