use Rattle.std.proofs.Common.{◌≡◌, ◌<◌, ◌≤◌, ℕ, vec_len}
use Rattle.std.specs.Option.{option_map}
use Rattle.slab.specs.Slab.{get}
use Rattle.kr_files.specs.OpenFiles.{HasCopies, on_file}
use Rattle.kr_files.specs.Opened.{after_rename}
use Rattle.kr_files.proofs.renames.follow_all.Given as goal

abbrev pub invariant-loop-copy : goal.invariant-loop-copy
invariant-loop-copy g l = record {
  below : (q : ℕ) → q < vec_len l.copies → get l.slab q ≡ get l.fn.slab q;
  above : (q : ℕ) → vec_len l.copies ≤ q → get l.slab q ≡ option_map (on_file (after_rename l.dir l.name l.to l.new)) (get l.fn.slab q);
  copies : HasCopies l.dir l.name l.new l.slab l.copies.items (vec_len l.copies);
}

abbrev pub decreases-loop-copy : goal.decreases-loop-copy
decreases-loop-copy g l = vec_len l.copies
