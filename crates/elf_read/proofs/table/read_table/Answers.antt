use Rattle.std.proofs.Common.{◌≡◌, ◌+◌, ◌*◌, ◌<◌, ◌≤◌, ℕ, List, length, drop, set, arith, length-drop, add-one}
use Rattle.std.proofs.lemmas.List.{drop-drop, take_more_set}
use Rattle.std.proofs.lemmas.Grind.{common_steps}
use Rattle.elf_read.specs.Headers.{program_header}
use Rattle.elf_read.specs.declared.headers.ProgramHeader.{ProgramHeader}
use Rattle.elf_read.proofs.table.read_table.Invariants.{ReadSoFar}
use Rattle.elf_read.proofs.table.read_table.Goals as goal

-- one more entry is read
read_one_more : (file : List ℕ) (start : ℕ) (table : List ProgramHeader) (k : ℕ) (h : ProgramHeader) (entry : List ℕ) → ReadSoFar file start table k → k < length table → entry ≡ drop (k * 56) (drop start file) → h ≡ program_header entry → 56 ≤ length entry → ReadSoFar file start (set table k h) (k + 1)
read_one_more file start table k h entry so_far room begins is wide =
    let times : k * 56 ≡ 56 * k = omega arith in
    let place : entry ≡ drop (start + 56 * k) file = rw (begins, times) (drop-drop (56 * k) start file) in
    let far : 56 ≤ length (drop (start + 56 * k) file) = rw place at wide in
    record {
      read = rw (take_more_set table k h room, add-one) (let e = so_far.read in rw (is, place) cc);
      inside = λ _. omega (arith, length-drop (start + 56 * k) file);
    }

pub loop-k-preserved : goal.loop-k-preserved
loop-k-preserved c =
    let begins : c.in_ok-entry.entry.now ≡ drop (c.loop-k.k * 56) (drop c.args.start c.args.file.now) = grind (arith, common_steps) in
    read_one_more _ _ _ _ _ c.in_ok-entry.entry.now c.loop-k.invariant (omega arith) begins c.in_ok-header.ensures.1 c.in_ok-header.ensures.0
