-- Two states that are equal but for mounts, the second that of a plain kernel, are shown alike.
use Rattle.std.specs.Prelude.{ℕ}
use Rattle.law_edits.specs.kr_model.State.{Image, State}
use Rattle.law_edits.specs.law_walks.Alike.{AreEqualButForMounts}
use Rattle.law_edits.specs.law_walks.OneMount.{IsInOneMount}
use Rattle.law_programs.specs.Executing.{IsShownAlike}

abbrev pub StatesAreShownAlike : Type 0
StatesAreShownAlike = (pins less : ℕ → ℕ) (s w : State ℕ Image) (caller : ℕ) → AreEqualButForMounts pins less s w → IsInOneMount w → IsShownAlike s w caller
