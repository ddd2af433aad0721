-- The working directory of a process, as a tracer knows it.
use Rattle.std.specs.Prelude.{◌≡◌, ℕ, true, List, Some}
use Rattle.law_edits.specs.pt_args.Bases.{working_text}
use Rattle.kr_first.specs.pt_bind.Tags.{TagTable}
use Rattle.kr_first.specs.kr_view.Component.{is_directory_at}
use Rattle.kr_first.specs.kr_view.Living.{Each, HasSmallNumbers}
use Rattle.kr_first.specs.kr_view.View.{Row}
use Rattle.law_edits.specs.kr_model.ProcessDirectory.{living_of}
use Rattle.law_edits.specs.kr_model.State.{Process, State, process}
use Rattle.law_edits.specs.law_walks.Scene.{IsMatched}
use Rattle.law_edits.specs.law_walks.States.{ArePlaced}
use Rattle.law_programs.specs.Finding.{WorksAt, scene_here, texts_here}

-- it is where a walk begins for both, if it is a directory
abbrev pub WorkingDirectoriesAreKnown : Type 0 → Type 0
WorkingDirectoriesAreKnown X =
    (table : List Row) (s : State ℕ X) (caller : ℕ) (tags : TagTable) (p : Process ℕ X) → IsMatched (scene_here table s caller tags) → Each HasSmallNumbers (living_of s) → ArePlaced table s tags → process caller s ≡ Some p
    → is_directory_at s.tree p.cwd.host ≡ true → WorksAt table s caller tags p.cwd (working_text (texts_here table s caller tags) caller)
