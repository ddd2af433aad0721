use Rattle.std.proofs.Common.{◌≡◌, ◌≤◌, length, vec_len}
use Rattle.kr_files.specs.OpenFiles.{HasCopies}
use Rattle.kr_files.proofs.renames.copies_for.Given as goal

abbrev pub invariant-loop-key : goal.invariant-loop-key
invariant-loop-key g l = record {
  count : vec_len l.copies ≡ l.key;
  copies : HasCopies l.dir l.name l.new l.slab l.copies.items l.key;
  whole : length l.slab.slots ≤ l.key-end;
}
