use Rattle.std.proofs.Common.{subst}
use Rattle.kr_files.specs.Files.{Kept}
use Rattle.kr_files.specs.Laws.{IsKept}
use Rattle.kr_files.proofs.LawLemmas.{kept-sound}
use Rattle.kr_files.proofs.files.Files.are_kept.Goals as goal

pub returns : goal.returns
returns g c =
    subst (λ (k : Kept g.row.M.Denot). IsKept k) c.self.view_is
    (kept-sound c.self.inside.open c.self.inside.pipes c.self.inside.last_file c.self.inside.last_pipe c.self.invariant c.are_kept.ensures.keys c.are_kept.ensures.counts)
