use Rattle.std.proofs.Common.{◌≡◌, ◌≤◌}
use Rattle.kr_files.specs.Descriptors.{meanings, named_below}
use Rattle.kr_files.specs.Files.{counted_more}
use Rattle.kr_tree.specs.pr_base.Maps.{mapped}
use Rattle.kr_files.proofs.open_files.OpenFiles.raise_all.Given as goal

abbrev pub invariant-loop-fd : goal.invariant-loop-fd
invariant-loop-fd g l = record {
  keys : l.self.keys ≡ l.fn.self.keys;
  files : l.self.files ≡ mapped (λ n. counted_more (named_below (meanings l.d) n l.fd)) l.fn.self.files;
  within : l.fd ≤ 1024;
}
