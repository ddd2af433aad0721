-- No call gives a kernel another user.
use Rattle.std.proofs.Common.{◌≡◌, ℕ, zero, suc, Bool, true, false, cond, List, [], ◌∷◌, Option, Some, None, Result, Ok, Err, refl, ◌∙◌}
use Rattle.std.specs.Option.{option_map_or}
use Rattle.law_loose.specs.kr_turns.pr_base.declared.errno.Errno.{Errno}
use Rattle.law_loose.specs.kr_core.rv_mem.Actions.{carried_out}
use Rattle.law_loose.specs.kr_core.kr_files.Descriptors.{Named}
use Rattle.law_loose.specs.kr_core.kr_calls.Decoding.{decoding}
use Rattle.law_loose.specs.kr_core.kr_calls.declared.request.Request.{Request}
use Rattle.law_loose.specs.kr_core.kr_calls.declared.request.Request.TheVariants as call
use Rattle.law_loose.specs.kr_view.View.{Row}
use Rattle.law_loose.specs.kr_model.Applied.{Computing, Mounts, all_applied, applied, close, close_below, close_named, close_on_exec_below, copy_over, end, executed as exe_given, forked_from, gone, images, is_closed_on_exec, mount_of, moved_to, open_in}
use Rattle.law_loose.specs.kr_model.Change.{Change, ChangeDirectory, CloseDescriptor, CloseOnExec, CopyDescriptor, End, Fork, OpenFile, ReplaceExecutable, Seek, SetAppend}
use Rattle.law_loose.specs.kr_model.State.{Image, Process, State, named, process}
use Rattle.law_loose.specs.kr_model.Walks.{targets_of}
use Rattle.law_loose.specs.kr_model.declared.outcome.Outcome.{Outcome}
use Rattle.law_loose.specs.kr_model.declared.outcome.Outcome.TheVariants.{Answer, Ended, NoMemory, Wait}
use Rattle.law_loose.specs.law_beside.law_allowed.Told.{mounts_walked}
use Rattle.law_loose.specs.kr_core.kr_seen.Carrying.{memory_of, with_memory_of}
use Rattle.law_loose.specs.kr_core.kr_execve.Execution.{Program, changes_of, execution, mount_of as program_mount}
use Rattle.law_loose.specs.kr_core.kr_steps.Computing.{computed}
use Rattle.law_loose.specs.kr_core.kr_steps.Settling.{settled}
use Rattle.law_loose.specs.kr_stops.Stopped.{nothing_handed}
use Rattle.law_loose.specs.kr_turns.Breaking.{no_mounts}
use Rattle.law_loose.specs.kr_turns.PlainCall.{after_decoding, executed, operated, plain_call, plain_call_of, replaced, requested, row_on}
use Rattle.law_loose.specs.kr_turns.Turn.{killed}
use Rattle.law_loose.specs.kr_turns.declared.plain.CallEnd.TheVariants as end_of_call

abbrev KeepsUser : (s t : State ℕ Image) → Type 0
KeepsUser s t = t.user ≡ s.user

-- ---- changes

if-some : {A : Type 0} (s : State ℕ Image) (o : Option A) (f : A → State ℕ Image) → ((x : A) → KeepsUser s (f x)) → KeepsUser s (option_map_or f o s)
if-some s None f each = refl
if-some s (Some x) f each = each x

user-closed : (pid fd : ℕ) (s : State ℕ Image) → KeepsUser s (close pid fd s)
unfolding close
user-closed pid fd s = if-some s (named pid fd s) (λ x. close_named pid fd x s) (λ x. refl)

user-below : (pid count : ℕ) (s : State ℕ Image) → KeepsUser s (close_below pid count s)
unfolding close_below
user-below pid zero s = refl
user-below pid (suc fd) s = user-closed pid fd (close_below pid fd s) ∙ user-below pid fd s

user-on-exec : (pid count : ℕ) (s : State ℕ Image) → KeepsUser s (close_on_exec_below pid count s)
unfolding close_on_exec_below
user-on-exec pid zero s = refl
user-on-exec pid (suc fd) s =
    let before : State ℕ Image = close_on_exec_below pid fd s in
    by before (is_closed_on_exec pid fd before) ∙ user-on-exec pid fd s
  where
    by : (before : State ℕ Image) (b : Bool) → KeepsUser before (cond b (close pid fd before) before)
    by before true = user-closed pid fd before
    by before false = refl

user-ended : (pid status : ℕ) (s : State ℕ Image) → KeepsUser s (end pid status s)
user-ended pid status s =
    let closed : State ℕ Image = close_below pid 1024 s in
    if-some closed (process pid closed) (λ p. gone pid status p closed) (λ p. refl) ∙ user-below pid 1024 s

user-copied : (pid to : ℕ) (cloexec : Bool) (x : Named) (o : Option Named) (s : State ℕ Image) → KeepsUser s (copy_over pid to cloexec x o s)
user-copied pid to cloexec x None s = refl
user-copied pid to cloexec x (Some y) s = refl

user-stays : (computing : Computing Image) (mounts : Mounts ℕ) (pid : ℕ) (s : State ℕ Image) (c : Change) → KeepsUser s (applied computing mounts pid c s)
user-stays computing mounts pid s (OpenFile fd cloexec from o) = if-some s (mount_of mounts pid s from) (λ m. open_in pid fd cloexec o m s) (λ m. refl)
user-stays computing mounts pid s (CopyDescriptor fd to cloexec) =
    if-some s (named pid fd s) (λ x. copy_over pid to cloexec x (named pid to s) s) (λ x. user-copied pid to cloexec x (named pid to s) s)
user-stays computing mounts pid s (CloseDescriptor fd) = user-closed pid fd s
user-stays computing mounts pid s (Seek fd at) = if-some s (named pid fd s) _ (λ x. refl)
user-stays computing mounts pid s (SetAppend fd on) = if-some s (named pid fd s) _ (λ x. refl)
user-stays computing mounts pid s (ChangeDirectory from host) = if-some s (mount_of mounts pid s from) (λ m. moved_to pid host m s) (λ m. refl)
user-stays computing mounts pid s (Fork b) = if-some s (process pid s) (λ p. forked_from computing b p s) (λ p. refl)
user-stays computing mounts pid s (End status) = user-ended pid status s
user-stays computing mounts pid s (ReplaceExecutable from host dir name) = if-some s (mount_of mounts pid s from) (λ m. exe_given pid host dir name m s) (λ m. refl)
user-stays computing mounts pid s CloseOnExec = user-on-exec pid 1024 s
user-stays computing mounts pid s c = refl

users-stay : (mounts : Mounts ℕ) (pid : ℕ) (cs : List Change) (s : State ℕ Image) → KeepsUser s (all_applied images mounts pid cs s)
users-stay mounts pid [] s = refl
users-stay mounts pid (c ∷ cs) s = users-stay mounts pid cs (applied images mounts pid c s) ∙ user-stays images mounts pid s c

pub user-killed : (pid signal : ℕ) (s : State ℕ Image) → (killed pid signal s).user ≡ s.user
user-killed pid signal s = user-stays images no_mounts pid s (End signal)

-- ---- a call

module _ (table : List Row) (pid : ℕ) where
  user-settled : (outcome : Outcome) (s t : State ℕ Image) → KeepsUser s t → KeepsUser s (settled pid outcome t)
  user-settled (Answer value) s t keeps = keeps
  user-settled Wait s t keeps = keeps
  user-settled Ended s t keeps = keeps
  user-settled NoMemory s t keeps = keeps

  user-replaced : (r : Result Program Errno) (s t : State ℕ Image) → KeepsUser s t → KeepsUser s (replaced pid r t).state
  user-replaced (Ok program) s t keeps = keeps
  user-replaced (Err e) s t keeps = keeps

  user-operated : (r : Request) (s : State ℕ Image) → KeepsUser s (operated table pid r s).state
  user-operated r s =
      let done = row_on table pid r s in
      let mounts : Mounts ℕ = mounts_walked (targets_of table pid s r) in
      user-settled done.reply.outcome s (all_applied images mounts pid done.reply.changes (with_memory_of pid done.memory s)) (users-stay mounts pid done.reply.changes (with_memory_of pid done.memory s))

  user-executed : (path : List ℕ) (args env : ℕ) (s : State ℕ Image) → KeepsUser s (executed table pid path args env s).state
  user-executed path args env s =
      let done = carried_out (execution table pid s path args env) (memory_of pid s) in
      let mounts : Mounts ℕ = record { found = program_mount done.reply; directory = None } in
      user-replaced done.reply s (all_applied images mounts pid (changes_of done.reply) (with_memory_of pid done.memory s)) (users-stay mounts pid (changes_of done.reply) (with_memory_of pid done.memory s))

  user-requested : (r : Request) (s : State ℕ Image) → KeepsUser s (requested table pid r s).state
  user-requested (call.Execve path args env) s = user-executed path args env s
  user-requested r s = user-operated r s

  user-decoded : (reply : Result Request Errno) (s : State ℕ Image) → KeepsUser s (after_decoding table pid reply s).state
  user-decoded (Ok r) s = user-requested r s
  user-decoded (Err e) s = refl

  pub user-called : (s : State ℕ Image) → (plain_call table pid s).state.user ≡ s.user
  user-called s = by (process pid s)
    where
      by : (o : Option (Process ℕ Image)) → KeepsUser s (option_map_or (plain_call_of table pid s) o (record { state = s; end = end_of_call.Waits; child = None; handed = nothing_handed })).state
      by None = refl
      by (Some p) =
          let done = carried_out (decoding p.image.regs) p.image.memory in
          user-decoded done.reply (computed pid p.image.regs done.memory s)
