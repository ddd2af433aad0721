-- The tracer of a plain kernel: at the first stop of a call it takes guest paths for host paths, or answers the call itself; at the
-- second one it gives the registers back, tells the answer, and notes the tags of what the call made. With an identity option each
-- process believes in an identity of its own, too.
use Rattle.std.specs.FinMap as map
use Rattle.std.specs.Prelude.{ℕ, ◌&&◌, not, Bool, true, false, List, ℤ, Option, Some, None, Result, Ok, Err, if◌then◌else◌, is_none}
use Rattle.std.specs.Int.{cast_signed, w64}
use Rattle.std.specs.Option.{option_map}
use Rattle.std.specs.Ordering.{nat_cmp}
use Rattle.law_steady.specs.pr_base.MountText.{MountText}
use Rattle.law_steady.specs.pr_base.declared.errno.Errno.{Errno}
use Rattle.law_steady.specs.pr_base.declared.errno.Errno.TheVariants.{EFAULT}
use Rattle.pt_results.specs.rv_mem.Actions.{carried_out}
use Rattle.pt_faker.specs.kr_inode.declared.user.User.{User}
use Rattle.pt_results.specs.kr_calls.declared.request.Request.{Request}
use Rattle.pt_results.specs.kr_calls.declared.request.Request.TheVariants as call
use Rattle.pt_faker.specs.Stopping.{after_request, decoded_at, memory_at, register_at, Stopped, Watcher, with_memory, with_register}
use Rattle.law_steady.specs.pt_bind.Tags.{TagTable, dropped, forked, with_tag}
use Rattle.law_steady.specs.pt_bind.declared.slot.Slot.TheVariants.{Exe}
use Rattle.pt_faker.specs.pt_ident.Identity.{Effect, after_exec, effect, on_memory, refusal}
use Rattle.pt_faker.specs.pt_ident.IdentityTable.{IdentityTable, after_birth, after_end, identity_at, starts_as_root, with_identity}
use Rattle.pt_results.specs.pt_args.declared.edit.Edit.{Edit}
use Rattle.pt_results.specs.pt_args.declared.edit.Edit.TheVariants.{Cancel, Emulate, Pass, Swap}
use Rattle.pt_results.specs.Notes.{noted, tags_after}
use Rattle.pt_faker.specs.Carrying.{on_its_memory}
use Rattle.pt_faker.specs.Faking.{due_of, forgiven, has_answered_zero, if_done, no_longer_called, remembered_of, show_identity, show_owner, stack_register, word_of}
use Rattle.pt_faker.specs.declared.due.Due.{Due}
use Rattle.pt_faker.specs.declared.due.Due.TheVariants as due
use Rattle.pt_tracer.specs.Answering.{starting_identities}
use Rattle.pt_tracer.specs.Planning.{nowhere, planned, planned_unmet}
use Rattle.pt_tracer.specs.Poking.{may_poke, poked}
use Rattle.pt_tracer.specs.Registers.{arguments_at, given_back, with_arguments}
use Rattle.pt_tracer.specs.declared.pending.Pending.{Pending}
use Rattle.pt_tracer.specs.declared.plan.Led.{Led}
use Rattle.pt_tracer.specs.declared.plan.Plan.{Plan}
use Rattle.pt_tracer.specs.declared.registers.Arguments.{Arguments}

-- what is kept: the bindings, the tags, the host user, the identities if there are any, and for each process between the stops of a
-- call what the second one has to know
pub record Tracing : Type 0 where
  pub bindings : List MountText
  pub tags : TagTable
  pub user : User
  pub identities : Option IdentityTable
  pub pending : map.FinMap nat_cmp Pending

-- before the first turn, with the tags of the first process: with an identity option, the user and the group as which processes start
abbrev pub starting_tracing : List MountText → TagTable → User → Option (ℕ × ℕ) → Tracing
starting_tracing bindings tags user ids = record {
  bindings = bindings;
  tags = tags;
  user = user;
  identities = starting_identities ids;
  pending = map.empty;
}

abbrev pub with_tags : TagTable → Tracing → Tracing
with_tags tags x = record { bindings = x.bindings; tags = tags; user = x.user; identities = x.identities; pending = x.pending }

abbrev pub with_identities : Option IdentityTable → Tracing → Tracing
with_identities identities x = record { bindings = x.bindings; tags = x.tags; user = x.user; identities = identities; pending = x.pending }

abbrev pub with_pending : map.FinMap nat_cmp Pending → Tracing → Tracing
with_pending pending x = record { bindings = x.bindings; tags = x.tags; user = x.user; identities = x.identities; pending = pending }

abbrev pub without_pending : ℕ → Tracing → Tracing
without_pending pid x = with_pending (map.remove x.pending pid) x

-- ---- the first stop: what is done to the process

-- the answer in place of the kernel's, and what was done
pub record Applied : Type 0 where
  pub answer : Option ℤ
  pub stopped : Stopped

-- the kernel finds no call, and an error is told at the second stop
abbrev pub refused : Errno → Stopped → Applied
refused e t = record { answer = Some (refusal e); stopped = no_longer_called t }

-- EFAULT where bytes can't be written
abbrev pub applied : Edit → Stopped → Applied
applied Pass t = record { answer = None; stopped = t }
applied (Swap regs pokes) t = if may_poke pokes t then record { answer = None; stopped = with_arguments regs (poked pokes t) } else refused EFAULT t
applied (Cancel e) t = refused e t
applied (Emulate pokes answer) t = if may_poke pokes t then record { answer = Some answer; stopped = no_longer_called (poked pokes t) } else refused EFAULT t

-- what is kept for the second stop
abbrev pub awaiting : Arguments → Request → Led → Option ℤ → Pending
awaiting passed r led answer = record { passed = passed; request = r; led = led; answer = answer }

abbrev pub keeping : Tracing → (t : Stopped) → Request → Led → Applied → Tracing × Stopped
keeping x t r led done = (with_pending (map.insert x.pending t.pid (awaiting (arguments_at t) r led done.answer)) x, done.stopped)

-- a call that is the kernel's, on which a plan was made
abbrev pub after_plan : Tracing → (t : Stopped) → Request → Plan × Stopped → Tracing × Stopped
after_plan x t r p = keeping x t r p.0.led (applied p.0.edit p.1)

-- ---- the first stop: calls on users and groups

-- such a call is carried out here, and the kernel finds none
abbrev pub after_effect : Tracing → IdentityTable → Request → Stopped → Option Effect → Tracing × Stopped
after_effect x table r t None = after_plan (with_identities (Some (with_identity t.pid (identity_at table t.pid) table)) x) t r (planned x.bindings x.tags t r)
after_effect x table r t (Some e) =
    let done = carried_out (on_memory (identity_at table t.pid) e) (memory_at t) in
    keeping (with_identities (Some (with_identity t.pid done.reply.identity table)) x) t r nowhere (record { answer = Some done.reply.answer; stopped = no_longer_called (with_memory done.memory t) })

abbrev pub by_identities : Tracing → Request → Stopped → Option IdentityTable → Tracing × Stopped
by_identities x r t None = after_plan x t r (planned x.bindings x.tags t r)
by_identities x r t (Some table) = after_effect x table r t (effect (identity_at table t.pid) r)

-- a call that can't be read is left to the kernel
abbrev pub after_decoding : Tracing → Stopped → Result Request Errno → Tracing × Stopped
after_decoding x t (Ok r) = by_identities x r t x.identities
after_decoding x t (Err e) = (without_pending t.pid x, t)

abbrev pub entered : Tracing → Stopped → Tracing × Stopped
entered x t = after_decoding x (after_request t) (decoded_at t).reply

-- whether the process directory is unmet still, by whether it was before: what is answered here is looked for nowhere
abbrev pub unmet_unless_here : Tracing → Request → Stopped → Option Effect → Bool → Bool
unmet_unless_here x r t None unmet = planned_unmet x.bindings x.tags t r unmet
unmet_unless_here x r t (Some e) unmet = unmet

abbrev pub unmet_by_identities : Tracing → Request → Stopped → Option IdentityTable → Bool → Bool
unmet_by_identities x r t None unmet = planned_unmet x.bindings x.tags t r unmet
unmet_by_identities x r t (Some table) unmet = unmet_unless_here x r t (effect (identity_at table t.pid) r) unmet

abbrev pub unmet_behind_decoding : Tracing → Stopped → Result Request Errno → Bool → Bool
unmet_behind_decoding x t (Ok r) unmet = unmet_by_identities x r t x.identities unmet
unmet_behind_decoding x t (Err e) unmet = unmet

abbrev pub entry_unmet : Tracing → Stopped → Bool → Bool
entry_unmet x t unmet = unmet_behind_decoding x (after_request t) (decoded_at t).reply unmet

-- whether it looks up a name in the process directory
abbrev pub asks : Tracing → Stopped → Bool
asks x t = not (entry_unmet x t true)

-- ---- the second stop

abbrev pub is_execve : Request → Bool
is_execve (call.Execve path args env) = true
is_execve _ = false

-- a new program begins, and has 0 in a0
abbrev pub has_begun : Pending → Stopped → Bool
has_begun p t = is_execve p.request && is_none p.answer && has_answered_zero t

abbrev pub if_answered : Option ℤ → Stopped → Stopped
if_answered None t = t
if_answered (Some answer) t = with_register 10 (word_of answer) t

-- the registers are as before the first stop, and the answer is told
abbrev pub returned : Pending → Stopped → Stopped
returned p t = if_answered p.answer (given_back p.passed t)

-- the answer as a number with a sign
abbrev pub answer_at : Stopped → ℤ
answer_at t = cast_signed w64 (register_at t 10)

-- what is edited of an answer for whoever believes in another identity
abbrev pub shown_due : User → IdentityTable → (at_root : Bool) → Option Due → Stopped → Stopped
shown_due user table at_root None t = t
shown_due user table at_root (Some (due.Tells number answer)) t = t
shown_due user table at_root (Some (due.Remembers change)) t = forgiven true t
shown_due user table at_root (Some due.ForgivesRoot) t = forgiven at_root t
shown_due user table at_root (Some (due.ShowsOwner at)) t = if_done t (on_its_memory (show_owner user table at) t) t
shown_due user table at_root (Some due.BeginsProgram) t = t

abbrev pub shown_to : User → Option IdentityTable → Pending → Stopped → Stopped
shown_to user None p t = t
shown_to user (Some table) p t = shown_due user table p.led.at_root (due_of (starts_as_root table) p.request) t

-- what is remembered of the call's target behind an answer that is told
abbrev pub remembered_in : Option IdentityTable → Pending → (target : Option ℕ) → (answer : ℕ) → Option IdentityTable
remembered_in None p target answer = None
remembered_in (Some table) p target answer = Some (remembered_of (due_of (starts_as_root table) p.request) target answer table)

abbrev pub give_back : Tracing → Pending → Stopped → Tracing × Stopped
give_back x p t =
    let u = returned p t in
    let v = shown_to x.user x.identities p u in
    (with_identities (remembered_in x.identities p t.handed.target (register_at v 10)) (with_tags (tags_after x.tags t.pid (noted p.request p.led.index (answer_at u))) x), v)

-- a new program keeps its own registers; it has the tag of its file, and is told who it is
abbrev pub begin_as : Tracing → Stopped → Option IdentityTable → Tracing × Stopped
begin_as x t None = (x, t)
begin_as x t (Some table) =
    let i = after_exec (identity_at table t.pid) in
    (with_identities (Some (with_identity t.pid i table)) x, on_its_memory (show_identity i (register_at t stack_register)) t)

abbrev pub begin_program : Tracing → Pending → Stopped → Tracing × Stopped
begin_program x p t = begin_as (with_tags (with_tag x.tags t.pid Exe p.led.index) x) t x.identities

abbrev pub after_pending : Tracing → Stopped → Option Pending → Tracing × Stopped
after_pending x t None = (x, t)
after_pending x t (Some p) = if has_begun p t then begin_program x p t else give_back x p t

abbrev pub exited : Tracing → Stopped → Tracing × Stopped
exited x t = after_pending (without_pending t.pid x) t (map.get x.pending t.pid)

-- ---- processes

-- a child has its parent's tags and its identity
abbrev pub born : Tracing → (parent child : ℕ) → Tracing
born x parent child = with_identities (option_map (after_birth parent child) x.identities) (with_tags (forked x.tags parent child) x)

-- nothing is kept of a process that ended
abbrev pub gone : Tracing → (pid : ℕ) → Tracing
gone x pid = with_identities (option_map (after_end pid) x.identities) (with_tags (dropped x.tags pid) (without_pending pid x))

abbrev pub tracer : Watcher Tracing
tracer = record { entry = entered; exit = exited; born = born; gone = gone }
