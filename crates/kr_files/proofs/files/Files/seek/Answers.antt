use Rattle.std.proofs.Common.{subst, sym, refl}
use Rattle.kr_files.specs.Files.{on_opened, at_offset}
use Rattle.kr_tree.specs.pr_base.Maps.{changed}
use Rattle.kr_files.specs.Sound.{IsSound}
use Rattle.kr_files.proofs.SoundLemmas.{same-changed, sound-same_kinds}
use Rattle.kr_files.proofs.files.Files.seek.Goals as goal

pub invariant_of-self : goal.invariant_of-self
invariant_of-self g c =
    subst (λ files. IsSound files c.self.inside.pipes c.self.inside.last_file c.self.inside.last_pipe) (sym c.seek.ensures.files)
    (sound-same_kinds c.self.inside.open.files (changed c.self.inside.open.files c.in-Some.descriptor.number (on_opened (at_offset c.args.at))) (same-changed c.self.inside.open.files c.in-Some.descriptor.number (on_opened (at_offset c.args.at)) (λ h. refl)) c.self.inside.pipes c.self.inside.last_file c.self.inside.last_pipe c.self.invariant)
