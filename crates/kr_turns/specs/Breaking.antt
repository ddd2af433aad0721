-- Which of the calm rules a turn breaks.
use Rattle.std.specs.Prelude.{ℕ, Bool, false, List, [], ◌∷◌, Option, Some, None, nat_eq, Result, Ok, Err, if◌then◌else◌}
use Rattle.std.specs.Option.{option_map_or}
use Rattle.kr_hostview.specs.pr_base.declared.errno.Errno.{Errno}
use Rattle.kr_steps.specs.rv_mem.Actions.{carried_out}
use Rattle.kr_steps.specs.rv_mem.Memory.{Memory}
use Rattle.kr_execve.specs.kr_calls.Decoding.{decoding}
use Rattle.kr_execve.specs.kr_calls.declared.request.Request.{Request}
use Rattle.kr_execve.specs.kr_calls.declared.request.Request.TheVariants as call
use Rattle.kr_execve.specs.kr_view.declared.target.Reach.{Reach}
use Rattle.kr_execve.specs.kr_view.View.{Row}
use Rattle.kr_steps.specs.kr_model.Applied.{Mounts}
use Rattle.kr_steps.specs.kr_model.Change.{Change, End}
use Rattle.kr_steps.specs.kr_model.State.{Image, Process, State, process}
use Rattle.kr_steps.specs.kr_model.Walks.{targets_of}
use Rattle.kr_steps.specs.law_allowed.Told.{mounts_walked}
use Rattle.kr_calm.specs.kr_seen.Carrying.{memory_of, with_memory_of}
use Rattle.kr_calm.specs.kr_seen.CallWalks.{call_reach}
use Rattle.kr_calm.specs.Calm.{Asked, Course, broken_by, broken_by_changes, kept}
use Rattle.kr_calm.specs.InUse.{is_directory_of, is_in_use}
use Rattle.kr_calm.specs.Rules.{breaks_6}
use Rattle.kr_execve.specs.Execution.{changes_of, execution, execution_reach, mount_of}
use Rattle.kr_steps.specs.Computing.{computed}
use Rattle.kr_turns.specs.PlainCall.{row_on}
use Rattle.kr_calm.specs.declared.rule.Rule.{Rule}
use Rattle.kr_calm.specs.declared.rule.Rule.TheVariants.{ShortNames, Unread, UsedStay, WithinMounts}

-- nothing was reached
abbrev pub nothing_reached : Reach
nothing_reached = record { longest = 0; met_proc = false }

-- no mount is named
abbrev pub no_mounts : Mounts ℕ
no_mounts = record { found = None; directory = None }

module _ (marks : ℕ) (table : List Row) (pid : ℕ) (no_shelf : Bool) where
  -- by the state before what was changed, the memory with all that was read of it, what was asked, what was really changed, and
  -- what walks reached
  abbrev pub rule_of : State ℕ Image → Memory → Option Asked → Mounts ℕ → List Change → Reach → Option Rule
  rule_of s memory asked mounts changes reach =
      broken_by marks table (record { pid = pid; state = s; memory = memory; no_shelf = no_shelf; asked = asked; mounts = mounts; changes = changes; reach = reach })

  -- instructions alone, and a call that isn't decoded: nothing is changed, and no path is walked
  abbrev pub idle_rule : State ℕ Image → Option Rule
  idle_rule s = rule_of s (memory_of pid s) None no_mounts [] nothing_reached

  abbrev pub asked_of : Request → State ℕ Image → Asked
  asked_of r s = record { request = r; targets = targets_of table pid s r }

  abbrev pub operated_rule : Request → State ℕ Image → Option Rule
  operated_rule r s =
      let done = row_on table pid r s in
      rule_of (with_memory_of pid done.memory s) done.memory (Some (asked_of r s)) (mounts_walked (targets_of table pid s r)) done.reply.changes (call_reach table pid s r nothing_reached)

  abbrev pub executed_rule : Request → List ℕ → ℕ → ℕ → State ℕ Image → Option Rule
  executed_rule r path args env s =
      let done = carried_out (execution table pid s path args env) (memory_of pid s) in
      rule_of (with_memory_of pid done.memory s) done.memory (Some (asked_of r s)) (record { found = mount_of done.reply; directory = None }) (changes_of done.reply)
      (execution_reach table pid s path args env (memory_of pid s) nothing_reached)

  abbrev pub requested_rule : Request → State ℕ Image → Option Rule
  requested_rule (call.Execve path args env) s = executed_rule (call.Execve path args env) path args env s
  requested_rule r s = operated_rule r s

  abbrev pub decoded_rule : Result Request Errno → State ℕ Image → Option Rule
  decoded_rule (Ok r) s = requested_rule r s
  decoded_rule (Err e) s = idle_rule s

  abbrev pub plain_rule_of : State ℕ Image → Process ℕ Image → Option Rule
  plain_rule_of s p =
      let done = carried_out (decoding p.image.regs) p.image.memory in
      decoded_rule done.reply (computed pid p.image.regs done.memory s)

  -- a call behind its first stop
  abbrev pub plain_rule : State ℕ Image → Option Rule
  plain_rule s = option_map_or (plain_rule_of s) (process pid s) None

-- a process that dies of a signal
abbrev pub killed_rule : ℕ → List Row → ℕ → ℕ → State ℕ Image → Option Rule
killed_rule marks table pid signal s = rule_of marks table pid false s (memory_of pid s) None no_mounts (End signal ∷ []) nothing_reached

-- ---- rule by rule

-- the smallest of those that are judged on what was really changed
abbrev pub changed_rule : List Row → Course → Option Rule
changed_rule table c = broken_by_changes table c.mounts c.pid c.changes c.state

-- after a death, in the state that is left
abbrev pub ending_rule : {M X : Type 0} → ℕ → State M X → Option Rule
ending_rule pid after = if is_in_use (is_directory_of pid) after then Some UsedStay else None

abbrev pub last_rule : Reach → Option Rule
last_rule reach = if breaks_6 reach then Some ShortNames else None

-- the smallest of all, by whether the first and the second are broken, by that on what was changed, and by what was reached
abbrev pub rule_told : ℕ → Bool → Bool → Option Rule → Reach → Option Rule
rule_told marks first second changed reach =
    if nat_eq marks 0 then None else if first then Some Unread else if second then Some WithinMounts else kept changed (last_rule reach)
