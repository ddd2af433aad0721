-- A call of a process as the kernel carries it out: the request that stands in its registers and its memory, its row or the new
-- program, and what the caller is told.
use Rattle.std.specs.Prelude.{ℕ, ◌+◌, Bool, false, ℤ, pos, negsuc, neg_ℤ, unsigned_abs, List, Option, Some, None, Result, Ok, Err}
use Rattle.std.specs.Int.{int_rem_euclid}
use Rattle.std.specs.Option.{option_map_or}
use Rattle.kr_hostview.specs.pr_base.declared.errno.Errno.{Errno}
use Rattle.kr_hostview.specs.pr_base.Errno.{errno_number}
use Rattle.kr_steps.specs.rv_mem.Actions.{CarriedOut, carried_out}
use Rattle.kr_execve.specs.kr_calls.CallTable.{sigpipe}
use Rattle.kr_execve.specs.kr_calls.Decoding.{decoding}
use Rattle.kr_execve.specs.kr_calls.declared.request.Request.{Request}
use Rattle.kr_execve.specs.kr_calls.declared.request.Request.TheVariants as call
use Rattle.kr_execve.specs.kr_view.View.{Row, is_root_place}
use Rattle.kr_execve.specs.kr_view.Walk.{PlaceTarget}
use Rattle.kr_execve.specs.kr_view.declared.target.Reach.{Reach}
use Rattle.kr_steps.specs.kr_model.Known.{known}
use Rattle.kr_steps.specs.kr_model.Operation.{operation}
use Rattle.kr_steps.specs.kr_model.Reply.{Reply}
use Rattle.kr_steps.specs.kr_model.State.{Image, Process, State, image_layout, process}
use Rattle.kr_steps.specs.kr_model.Walks.{Targets, seen, targets_of}
use Rattle.kr_steps.specs.kr_model.declared.outcome.Outcome.{Outcome}
use Rattle.kr_steps.specs.kr_model.declared.outcome.Outcome.TheVariants.{Answer, Wait, Ended, NoMemory}
use Rattle.kr_steps.specs.law_allowed.Told.{mounts_walked}
use Rattle.kr_calm.specs.kr_seen.Carrying.{after_row, carried, memory_of}
use Rattle.kr_calm.specs.kr_seen.CallWalks.{call_reach}
use Rattle.kr_execve.specs.Execution.{Program, after_execution, execution, execution_reach, mount_of}
use Rattle.kr_steps.specs.Answering.{answered, resumed}
use Rattle.kr_steps.specs.Computing.{computed}
use Rattle.kr_steps.specs.Settling.{settled}
use Rattle.kr_steps.specs.kr_stops.Stopped.{nothing_handed}
use Rattle.kr_steps.specs.kr_stops.declared.handed.Handed.{Handed}
use Rattle.kr_turns.specs.Target.{target_of}
use Rattle.kr_turns.specs.declared.plain.CallEnd.{CallEnd}
use Rattle.kr_turns.specs.declared.plain.CallEnd.TheVariants as end

-- what a call came to
pub record Came : Type 0 where
  pub state : State ℕ Image
  pub end : CallEnd
  -- the child that it made, if one
  pub child : Option ℕ
  -- what it hands to the second stop
  pub handed : Handed

-- ---- by the outcome

-- the status of a caller that ended: what it told exit(2), or 128 and SIGPIPE, the one signal of which a call dies
abbrev pub code_told : ℤ → ℕ
code_told code = unsigned_abs (int_rem_euclid code (pos 256))

abbrev pub status_told : Request → ℕ
status_told (call.Exit code) = code_told code
status_told (call.ExitGroup code) = code_told code
status_told _ = 128 + sigpipe

abbrev pub end_of : Request → Outcome → CallEnd
end_of r (Answer value) = end.Answered
end_of r Wait = end.Waits
end_of r Ended = end.Ended (status_told r)
end_of r NoMemory = end.Waits

-- a clone(2) that isn't refused makes a child, which has the next number
abbrev pub child_if_made : ℕ → Outcome → Option ℕ
child_if_made next (Answer (pos n)) = Some next
child_if_made next (Answer (negsuc n)) = None
child_if_made next Wait = None
child_if_made next Ended = None
child_if_made next NoMemory = None

abbrev pub child_of : ℕ → Request → Outcome → Option ℕ
child_of next (call.Clone flags sp ctid) outcome = child_if_made next outcome
child_of next _ outcome = None

-- ---- by the walks

abbrev pub is_root_found : List Row → PlaceTarget → Bool
is_root_found table target = option_map_or (is_root_place table) target.found false

abbrev pub leads_to_root : List Row → Result Targets Errno → Bool
leads_to_root table (Ok targets) = option_map_or (is_root_found table) targets.first false
leads_to_root table (Err e) = false

-- ---- each kind of call

-- a refused call tells its caller the negated number of the error
abbrev pub refusal_told : ℕ → Errno → State ℕ Image → Came
refusal_told pid e s = record { state = answered pid (neg_ℤ (pos (errno_number e))) s; end = end.Answered; child = None; handed = nothing_handed }

-- a new program goes on with its own registers; a caller that is refused one is told so
abbrev pub replaced : ℕ → Result Program Errno → State ℕ Image → Came
replaced pid (Ok program) s = record { state = resumed pid s; end = end.Replaced; child = None; handed = nothing_handed }
replaced pid (Err e) s = refusal_told pid e s

module _ (table : List Row) (pid : ℕ) where
  -- a row, on what the caller knows, its memory, and where its paths lead; `requested` doesn't take that of an execve
  abbrev pub row_on : Request → State ℕ Image → CarriedOut Reply
  row_on r s = carried pid (operation pid r (seen table pid s r) (known image_layout pid s)) s

  -- what it hands on, by where its paths lead and what is known before it is carried out
  abbrev pub handed_on : Request → State ℕ Image → Result Targets Errno → Handed
  handed_on r s targets = record { at_root = leads_to_root table targets; target = target_of r (known image_layout pid s) targets }

  abbrev pub operated : Request → State ℕ Image → Came
  operated r s =
      let done = row_on r s in
      record {
        state = settled pid done.reply.outcome (after_row (mounts_walked (targets_of table pid s r)) pid done s);
        end = end_of r done.reply.outcome;
        child = child_of s.next_pid r done.reply.outcome;
        handed = handed_on r s (targets_of table pid s r);
      }

  abbrev pub executed : List ℕ → ℕ → ℕ → State ℕ Image → Came
  executed path args env s =
      let done = carried_out (execution table pid s path args env) (memory_of pid s) in
      replaced pid done.reply (after_execution (record { found = mount_of done.reply; directory = None }) pid done s)

  abbrev pub requested : Request → State ℕ Image → Came
  requested (call.Execve path args env) s = executed path args env s
  requested r s = operated r s

  -- ---- the whole call

  abbrev pub after_decoding : Result Request Errno → State ℕ Image → Came
  after_decoding (Ok r) s = requested r s
  after_decoding (Err e) s = refusal_told pid e s

  abbrev pub plain_call_of : State ℕ Image → Process ℕ Image → Came
  plain_call_of s p =
      let done = carried_out (decoding p.image.regs) p.image.memory in
      after_decoding done.reply (computed pid p.image.regs done.memory s)

  -- of a process that lives; no other calls
  abbrev pub plain_call : State ℕ Image → Came
  plain_call s = option_map_or (plain_call_of s) (process pid s) (record { state = s; end = end.Waits; child = None; handed = nothing_handed })

  -- ---- what its walks reach

  abbrev pub request_reach : Request → State ℕ Image → Reach → Reach
  request_reach (call.Execve path args env) s reach = execution_reach table pid s path args env (memory_of pid s) reach
  request_reach r s reach = call_reach table pid s r reach

  abbrev pub decoded_reach : Result Request Errno → State ℕ Image → Reach → Reach
  decoded_reach (Ok r) s reach = request_reach r s reach
  decoded_reach (Err e) s reach = reach

  abbrev pub plain_reach_of : State ℕ Image → Reach → Process ℕ Image → Reach
  plain_reach_of s reach p =
      let done = carried_out (decoding p.image.regs) p.image.memory in
      decoded_reach done.reply (computed pid p.image.regs done.memory s) reach

  abbrev pub plain_reach : State ℕ Image → Reach → Reach
  plain_reach s reach = option_map_or (plain_reach_of s reach) (process pid s) reach
