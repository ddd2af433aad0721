use Rattle.std.proofs.Common.{subst, sym}
use Rattle.kr_files.specs.Files.{on_opened}
use Rattle.kr_tree.specs.pr_base.Maps.{mapped}
use Rattle.kr_files.specs.Opened.{after_removal}
use Rattle.kr_files.specs.Sound.{IsSound}
use Rattle.kr_files.proofs.EntryLemmas.{what-after_removal}
use Rattle.kr_files.proofs.SoundLemmas.{same-mapped, sound-same_kinds}
use Rattle.kr_files.proofs.files.Files.removed.Goals as goal

pub invariant_of-self : goal.invariant_of-self
invariant_of-self g c =
    subst (λ files. IsSound files c.self.inside.pipes c.self.inside.last_file c.self.inside.last_pipe) (sym c.removed.ensures.files)
    (sound-same_kinds c.self.inside.open.files (mapped (λ n. on_opened (after_removal c.args.dir c.args.name.now)) c.self.inside.open.files)
    (same-mapped c.self.inside.open.files (λ n. on_opened (after_removal c.args.dir c.args.name.now)) (λ n h. what-after_removal c.args.dir c.args.name.now h.opened)) c.self.inside.pipes c.self.inside.last_file c.self.inside.last_pipe c.self.invariant)
