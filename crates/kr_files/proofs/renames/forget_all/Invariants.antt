use Rattle.std.proofs.Common.{◌≡◌, ◌<◌, ◌≤◌, ℕ, length}
use Rattle.std.specs.Option.{option_map}
use Rattle.slab.specs.Slab.{get}
use Rattle.kr_files.specs.OpenFiles.{on_file}
use Rattle.kr_files.specs.Opened.{after_removal}
use Rattle.kr_files.proofs.renames.forget_all.Given as goal

abbrev pub invariant-loop-key : goal.invariant-loop-key
invariant-loop-key g l = record {
  below : (q : ℕ) → q < l.key → get l.slab q ≡ option_map (on_file (after_removal l.dir l.name)) (get l.fn.slab q);
  above : (q : ℕ) → l.key ≤ q → get l.slab q ≡ get l.fn.slab q;
  whole : length l.fn.slab.slots ≤ l.key-end;
}
