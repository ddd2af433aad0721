-- That memory holds bytes, and that there are 32 registers, lasts behind instructions and behind changes.
use Rattle.std.specs.Prelude.{◌≡◌, ℕ, List, length, Some}
use Rattle.kr_turns.specs.rv_cpu.Run.{ran}
use Rattle.kr_first.specs.rv_mem.Memory.{Memory}
use Rattle.kr_first.specs.rv_mem.Pages.{HoldsBytes}
use Rattle.kr_first.specs.rv_mem.declared.regs.Regs.{Regs}
use Rattle.kr_first.specs.kr_model.Applied.{Mounts, all_applied, images}
use Rattle.kr_first.specs.kr_model.Change.{Change}
use Rattle.kr_first.specs.kr_model.State.{Image, Process, State, process}
use Rattle.kr_turns.specs.kr_steps.Computing.{computed}
use Rattle.law_kept.specs.Bringing.{BringBytes}
use Rattle.law_kept.specs.Bytes.{HasBytes, ProcessIsSized}

abbrev pub InstructionsKeepBytes : Type 0
InstructionsKeepBytes = (fuel : ℕ) (regs : Regs) (memory : Memory) → HoldsBytes memory.pages → HoldsBytes (ran fuel regs memory).memory.pages

abbrev pub InstructionsKeepRegisters : Type 0
InstructionsKeepRegisters = (fuel : ℕ) (regs : Regs) (memory : Memory) → length (ran fuel regs memory).regs.x ≡ length regs.x

-- whoever is found by its number has bytes
abbrev pub ProcessesHaveBytes : Type 0 → Type 0
ProcessesHaveBytes M = (pid : ℕ) (s : State M Image) → HasBytes s → (p : Process M Image) → process pid s ≡ Some p → ProcessIsSized p

-- a process whose registers and memory are others, as instructions and watchers leave them
abbrev pub ComputingKeepsBytes : Type 0 → Type 0
ComputingKeepsBytes M = (pid : ℕ) (regs : Regs) (memory : Memory) (s : State M Image) → HoldsBytes memory.pages → length regs.x ≡ 32 → HasBytes s → HasBytes (computed pid regs memory s)

abbrev pub ChangesKeepBytes : Type 0 → Type 0
ChangesKeepBytes M = (mounts : Mounts M) (pid : ℕ) (cs : List Change) (s : State M Image) → BringBytes cs → HasBytes s → HasBytes (all_applied images mounts pid cs s)
