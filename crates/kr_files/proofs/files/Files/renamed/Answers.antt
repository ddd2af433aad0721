use Rattle.std.proofs.Common.{subst, sym}
use Rattle.kr_files.specs.Files.{on_opened}
use Rattle.kr_tree.specs.pr_base.Maps.{mapped}
use Rattle.kr_files.specs.Opened.{after_rename}
use Rattle.kr_files.specs.Sound.{IsSound}
use Rattle.kr_files.proofs.EntryLemmas.{what-after_rename}
use Rattle.kr_files.proofs.SoundLemmas.{same-mapped, sound-same_kinds}
use Rattle.kr_files.proofs.files.Files.renamed.Goals as goal

pub invariant_of-self-2 : goal.invariant_of-self-2
invariant_of-self-2 g c =
    subst (λ files. IsSound files c.self.inside.pipes c.self.inside.last_file c.self.inside.last_pipe) (sym c.in_ok-renamed.ensures.files)
    (sound-same_kinds c.self.inside.open.files (mapped (λ n. on_opened (after_rename c.args.dir c.args.name.now c.args.to c.args.new.now)) c.self.inside.open.files)
    (same-mapped c.self.inside.open.files (λ n. on_opened (after_rename c.args.dir c.args.name.now c.args.to c.args.new.now)) (λ n h. what-after_rename c.args.dir c.args.name.now c.args.to c.args.new.now h.opened)) c.self.inside.pipes c.self.inside.last_file c.self.inside.last_pipe c.self.invariant)
