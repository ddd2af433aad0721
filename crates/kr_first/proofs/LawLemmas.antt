-- Slashes lead to the root, which is a directory.
use Rattle.std.proofs.Common.{cond, Some, None, ap, ◌∙◌}
use Rattle.kr_start.specs.pr_base.declared.path.WalkMode.TheVariants.{Look}
use Rattle.kr_execve.specs.kr_view.View.{root_place}
use Rattle.kr_execve.specs.kr_view.Walk.{PlaceTrail}
use Rattle.kr_execve.proofs.kr_view.DirectoryLemmas.{slashes_end}
use Rattle.kr_first.specs.Laws.{RootsAreDirectories}
use Rattle.kr_first.specs.Starting.{around, directory_found}
use Rattle.kr_first.proofs.StandingLemmas.{root-stands}

pub roots-are-directories : RootsAreDirectories
roots-are-directories table tree user path stands some none =
    ap (λ (trail : PlaceTrail). directory_found tree trail.answer) (slashes_end (around table tree user) Look (root_place table) path some none)
    ∙ ap (λ b. cond b (Some (root_place table)) None) (root-stands tree table stands).1
