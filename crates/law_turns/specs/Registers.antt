-- The registers of a caller behind its call.
use Rattle.std.specs.Prelude.{◌≡◌, ℕ, true, List, Option, Some}
use Rattle.std.specs.List.{list_all}
use Rattle.std.specs.Option.{option_map}
use Rattle.pt_results.specs.rv_mem.declared.regs.Regs.{Regs}
use Rattle.pt_results.specs.kr_calls.declared.request.Request.{Request}
use Rattle.law_places.specs.kr_calm.Laws.{leaves_mark}
use Rattle.law_places.specs.kr_model.Applied.{Mounts, all_applied, images}
use Rattle.law_places.specs.kr_model.Change.{Change}
use Rattle.law_places.specs.kr_model.Seen.{Seen}
use Rattle.law_places.specs.kr_model.State.{Image, Process, State, process}
use Rattle.law_places.specs.kr_model.declared.outcome.Outcome.{Outcome}
use Rattle.law_places.specs.kr_model.declared.outcome.Outcome.TheVariants.{Answer, Wait, Ended, NoMemory}
use Rattle.kr_core.specs.kr_steps.Answering.{with_answer}
use Rattle.law_turns.specs.Operating.{behind, done_in}

abbrev pub registers_in : ℕ → State ℕ Image → Option Regs
registers_in pid s = option_map (λ p. p.image.regs) (process pid s)

-- changes that end nobody and give no caller another program leave the registers of whoever lives
abbrev pub ChangesKeepRegisters : Type 0
ChangesKeepRegisters =
    (mounts : Mounts ℕ) (caller pid : ℕ) (cs : List Change) (s : State ℕ Image) (regs : Regs) → list_all leaves_mark cs ≡ true → registers_in pid s ≡ Some regs → registers_in pid (all_applied images mounts caller cs s) ≡ Some regs

-- behind a call its answer stands in a0, and the caller is behind the call; one that waits stays at it
abbrev pub told_by : Outcome → Regs → Regs
told_by (Answer value) regs = with_answer value regs
told_by Wait regs = regs
told_by Ended regs = regs
told_by NoMemory regs = regs

-- a call makes no other change of its caller's registers
abbrev pub CallsKeepRegisters : Type 0
CallsKeepRegisters =
    (pid : ℕ) (r : Request) (seen : Seen) (mounts : Mounts ℕ) (s : State ℕ Image) (p : Process ℕ Image) → process pid s ≡ Some p → list_all leaves_mark (done_in pid r seen s).reply.changes ≡ true
    → registers_in pid (behind pid r seen mounts s) ≡ Some (told_by (done_in pid r seen s).reply.outcome p.image.regs)
