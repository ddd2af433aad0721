-- Calls that look along paths and start no program: they leave alone what processes compute on, and answer.
use Rattle.std.specs.Prelude.{◌≡◌, ℕ, ℤ, Bool, true, false, Some}
use Rattle.kr_first.specs.rv_mem.Actions.{carried_out}
use Rattle.kr_first.specs.rv_mem.Memory.{Memory}
use Rattle.kr_first.specs.kr_calls.CallTable.{Told, ToldNothing, line}
use Rattle.kr_first.specs.kr_calls.PathTable.{PathUse, path_at}
use Rattle.kr_first.specs.kr_calls.declared.request.Request.{Request}
use Rattle.kr_first.specs.kr_calls.declared.request.Request.TheVariants as call
use Rattle.kr_first.specs.kr_model.declared.outcome.Outcome.TheVariants.{Answer}
use Rattle.kr_first.specs.kr_model.Known.{Known}
use Rattle.kr_first.specs.kr_model.Operation.{operation}
use Rattle.kr_first.specs.kr_model.Seen.{Seen}
use Rattle.law_kept.specs.ImagesApart.{leave_images}

-- whether a way of being told tells of paths: getcwd(2) is told of that of the working directory
abbrev pub tells_paths : Told → Bool
tells_paths ToldNothing = false
tells_paths _ = true

-- the calls that are told of paths, as their lines in the table say, but for execve(2)
abbrev pub is_told_of_paths : Request → Bool
is_told_of_paths (call.Execve path args env) = false
is_told_of_paths r = tells_paths (line r).told

abbrev pub starts_program : Request → Bool
starts_program (call.Execve path args env) = true
starts_program _ = false

-- each call that has a path is one of them
abbrev pub PathsAreTold : Type 0
PathsAreTold = (r : Request) (k : ℕ) (u : PathUse) → path_at r k ≡ Some u → starts_program r ≡ false → is_told_of_paths r ≡ true

abbrev pub PathCallsLeaveImages : Type 0
PathCallsLeaveImages =
    (pid : ℕ) (r : Request) (seen : Seen) (k : Known) (m : Memory) → is_told_of_paths r ≡ true
    → leave_images (carried_out (operation pid r seen k) m).reply.changes ≡ true

-- none of them ends its caller or waits
abbrev pub PathCallsAnswer : Type 0
PathCallsAnswer =
    (pid : ℕ) (r : Request) (seen : Seen) (k : Known) (m : Memory) → is_told_of_paths r ≡ true
    → (value : ℤ) × ((carried_out (operation pid r seen k) m).reply.outcome ≡ Answer value)
