use Rattle.std.proofs.Common.{◌+◌, ◌∙◌, ap, subst, sym}
use Rattle.std.specs.FinMap as map
use Rattle.kr_files.specs.Files.{Counted}
use Rattle.kr_files.specs.Sound.{IsSound}
use Rattle.kr_files.proofs.SoundLemmas.{sound-open}
use Rattle.kr_files.proofs.files.Files.open.Goals as goal

pub invariant_of-self-2 : goal.invariant_of-self-2
invariant_of-self-2 g c =
    let file : Counted g.row.M.Denot = record { opened = c.args.o; count = 1 } in
    subst (λ files. IsSound files c.self.inside.pipes (c.self.inside.last_file + 1) c.self.inside.last_pipe)
    (sym (c.add.ensures.files ∙ ap (λ files. map.insert files (c.self.inside.last_file + 1) file) c.reserve.ensures.same.files))
    (sound-open c.self.inside.open.files c.self.inside.pipes c.self.inside.last_file c.self.inside.last_pipe c.self.invariant file c.requires.no_end)
