-- Changes that leave alone what processes compute on, and the registers of a caller beside them.
use Rattle.std.specs.Prelude.{◌≡◌, ℕ, ℤ, Bool, true, false, List}
use Rattle.std.specs.List.{list_all}
use Rattle.kr_first.specs.rv_mem.Memory.{Memory}
use Rattle.kr_first.specs.rv_mem.declared.regs.Regs.{Regs}
use Rattle.kr_first.specs.kr_model.Applied.{Mounts, all_applied, images}
use Rattle.kr_first.specs.kr_model.Change.{Change, ChangePages, Fork, ReplaceImage}
use Rattle.kr_first.specs.kr_model.State.{Image, State}
use Rattle.kr_turns.specs.kr_steps.Answering.{answered, with_answer}
use Rattle.kr_turns.specs.kr_steps.Computing.{computed}

-- whether a change neither reads nor writes what a process computes on: all but those of pages, a child, which begins with what its
-- parent computes on, and a new program
abbrev pub leaves_images : Change → Bool
leaves_images (ChangePages c) = false
leaves_images (Fork birth) = false
leaves_images (ReplaceImage image brk) = false
leaves_images _ = true

abbrev pub leave_images : List Change → Bool
leave_images cs = list_all leaves_images cs

-- such changes are the same before and behind other registers and another memory of their caller
abbrev pub ChangesStandApart : Type 0 → Type 0
ChangesStandApart M =
    (mounts : Mounts M) (pid : ℕ) (cs : List Change) (regs : Regs) (memory : Memory) (s : State M Image) → leave_images cs ≡ true
    → all_applied images mounts pid cs (computed pid regs memory s) ≡ computed pid regs memory (all_applied images mounts pid cs s)

-- so a caller that had any registers for the time of a call that answered, and is then given its old ones with the answer, is what it
-- is where it had its old ones all the time
abbrev pub RegistersGivenBack : Type 0 → Type 0
RegistersGivenBack M =
    (mounts : Mounts M) (pid : ℕ) (cs : List Change) (regs old given : Regs) (memory : Memory) (value : ℤ) (s : State M Image) → leave_images cs ≡ true → given ≡ with_answer value old
    → computed pid given memory (answered pid value (all_applied images mounts pid cs (computed pid regs memory s)))
    ≡ answered pid value (all_applied images mounts pid cs (computed pid old memory s))
