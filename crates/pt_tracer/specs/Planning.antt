-- What a tracer makes of a call that could be read, before anything is done to the process.
use Rattle.std.specs.Prelude.{ℕ, ◌-◌, ◌==◌, ◌&&◌, not, nat_lt, bytes_eq, Bool, true, false, List, [], ◌∷◌, length, Option, Some, None, Result, Ok, Err, if◌then◌else◌}
use Rattle.std.specs.Option.{unwrap_or}
use Rattle.law_steady.specs.pr_base.MountText.{MountText}
use Rattle.law_steady.specs.pr_base.Paths.{slash}
use Rattle.law_steady.specs.pr_base.declared.errno.Errno.{Errno}
use Rattle.pt_results.specs.rv_mem.Actions.{carried_out}
use Rattle.pt_results.specs.rv_mem.Pages.{allows_all}
use Rattle.pt_results.specs.rv_mem.declared.rights.Use.TheVariants.{Read, Write}
use Rattle.law_steady.specs.pt_bind.Tags.{TagTable}
use Rattle.pt_results.specs.pt_canon.TextWalk.{TextSurroundings}
use Rattle.pt_results.specs.kr_calls.PathTable.{PathUse, path_at}
use Rattle.pt_results.specs.kr_calls.declared.request.Request.{Request}
use Rattle.pt_results.specs.kr_calls.declared.request.Request.TheVariants as call
use Rattle.pt_faker.specs.kr_model.Peeks.{peeked_of}
use Rattle.pt_faker.specs.Stopping.{memory_at, register_at, Stopped, with_memory}
use Rattle.pt_results.specs.pt_args.Edits.{edit_of}
use Rattle.pt_results.specs.pt_args.Plans.{plan_unmet}
use Rattle.pt_results.specs.pt_args.Shelving.{shelf_size}
use Rattle.pt_results.specs.pt_args.Walks.{walked}
use Rattle.pt_results.specs.pt_args.declared.edit.Edit.{Edit}
use Rattle.pt_results.specs.pt_args.declared.edit.Edit.TheVariants.{Cancel, Emulate, Pass, Swap}
use Rattle.pt_results.specs.pt_args.declared.reached.Reached.{Reached}
use Rattle.pt_results.specs.Answers.{cwd_answer, link_answer, link_unmet}
use Rattle.pt_script.specs.Expanding.{expanded_at, expanded_unmet}
use Rattle.pt_script.specs.declared.expansion.Expanded.{Expanded}
use Rattle.pt_faker.specs.Reading.{addresses_behind, lists_at}
use Rattle.pt_faker.specs.declared.lists.Handed.{Handed}
use Rattle.pt_tracer.specs.ScriptEdit.{put_texts, script_edit}
use Rattle.pt_tracer.specs.declared.plan.Led.{Led}
use Rattle.pt_tracer.specs.declared.plan.Plan.{Plan}
use Rattle.pt_tracer.specs.declared.planning.ListAddresses.{ListAddresses}

-- what a tracer goes by: its bindings, the tags of all processes, and what the kernel tells at the stop
abbrev pub texts_at : List MountText → TagTable → Stopped → TextSurroundings
texts_at bindings tags t = record { bindings = bindings; peeked = peeked_of t.state t.pid; tags = tags }

-- ---- the shelf

abbrev pub stack_at : Stopped → ℕ
stack_at t = register_at t 2

-- whether there is one: each of its bytes may be read and written
abbrev pub has_shelf : Stopped → Bool
has_shelf t =
    not (nat_lt (stack_at t) shelf_size)
    && allows_all (memory_at t).pages (stack_at t - shelf_size) shelf_size Read
    && allows_all (memory_at t).pages (stack_at t - shelf_size) shelf_size Write

-- ---- where the first path leads

abbrev pub nowhere : Led
nowhere = record { index = 0; at_root = false }

abbrev pub led_to : Reached → Led
led_to reached = record { index = reached.canon.index; at_root = bytes_eq reached.canon.guest (slash ∷ []) }

abbrev pub led_by : Result (Option Reached) Errno → Led
led_by (Ok (Some reached)) = led_to reached
led_by (Ok None) = nowhere
led_by (Err e) = nowhere

abbrev pub led_along : TextSurroundings → ℕ → Bool → Option PathUse → Led
led_along texts pid opening None = nowhere
led_along texts pid opening (Some u) = led_by (walked texts pid opening u)

-- the same, once that path was walked
abbrev pub led_reached : Option Reached → Led
led_reached None = nowhere
led_reached (Some reached) = led_to reached

-- the index and the root count for what is opened, entered, executed, or made the root
abbrev pub led_of : TextSurroundings → ℕ → Request → Led
led_of texts pid (call.Openat dirfd path flags permissions) = led_along texts pid true (path_at (call.Openat dirfd path flags permissions) 0)
led_of texts pid (call.Chdir path) = led_along texts pid false (path_at (call.Chdir path) 0)
led_of texts pid (call.Chroot path) = led_along texts pid false (path_at (call.Chroot path) 0)
led_of texts pid (call.Execve path args env) = led_along texts pid false (path_at (call.Execve path args env) 0)
led_of texts pid _ = nowhere

abbrev pub led_at : Request → Option Reached → Led
led_at (call.Openat dirfd path flags permissions) first = led_reached first
led_at (call.Chdir path) first = led_reached first
led_at (call.Chroot path) first = led_reached first
led_at (call.Execve path args env) first = led_reached first
led_at _ first = nowhere

abbrev pub led_in : ℕ → Led
led_in index = record { index = index; at_root = false }

abbrev pub cancelled : Errno → Plan
cancelled errno = record { edit = Cancel errno; led = nowhere }

abbrev pub is_swap : Edit → Bool
is_swap (Swap regs pokes) = true
is_swap Pass = false
is_swap (Cancel e) = false
is_swap (Emulate pokes answer) = false

-- ---- calls but execve

module _ (texts : TextSurroundings) (t : Stopped) where
  -- guest paths become host paths
  abbrev pub rewritten : Request → Edit
  rewritten r = edit_of texts t.pid (stack_at t) (has_shelf t) r

  -- getcwd(2) and links of the process directory are answered here
  abbrev pub answered : Request → Option Edit
  answered (call.Getcwd buf size) = Some (cwd_answer texts t.pid size buf)
  answered (call.Readlinkat dirfd path buf size) = link_answer texts t.pid (call.Readlinkat dirfd path buf size)
  answered _ = None

  abbrev pub edit_for : Request → Edit
  edit_for r = unwrap_or (answered r) (rewritten r)

  abbrev pub plan_for : Request → Plan
  plan_for r = record { edit = edit_for r; led = led_of texts t.pid r }

  -- whether the process directory is unmet still, by whether it was before; what isn't answered here is rewritten
  abbrev pub answered_unmet : Request → Bool → Bool
  answered_unmet (call.Readlinkat dirfd path buf size) unmet = link_unmet texts t.pid (call.Readlinkat dirfd path buf size) unmet
  answered_unmet _ unmet = unmet

  abbrev pub unmet_unless : Option Edit → Request → Bool → Bool
  unmet_unless (Some edit) r unmet = unmet
  unmet_unless None r unmet = plan_unmet texts t.pid r unmet

  abbrev pub plan_for_unmet : Request → Bool → Bool
  plan_for_unmet r unmet = unmet_unless (answered r) r (answered_unmet r unmet)

-- ---- execve

-- where its two lists stand
abbrev pub list_addresses : Request → Option ListAddresses
list_addresses (call.Execve path args env) = Some (record { args = args; env = env })
list_addresses _ = None

-- the addresses of the arguments that are kept: where they can't be read, the call is cancelled
abbrev pub after_addresses : Stopped → Expanded → ℕ → Result (List ℕ) Errno → Plan
after_addresses t e kept (Ok addresses) = record { edit = script_edit (stack_at t) e.host (put_texts kept e.args) addresses; led = led_in e.index }
after_addresses t e kept (Err errno) = cancelled errno

-- of a script, where `kept` arguments of the old list are kept, those behind the first
abbrev pub script_plan : Stopped → ℕ → ℕ → Expanded → Plan × Stopped
script_plan t args kept e =
    let done = carried_out (addresses_behind args kept) (memory_at t) in
    (after_addresses t e kept done.reply, with_memory done.memory t)

module _ (bindings : List MountText) (tags : TagTable) where
  abbrev pub texts_now : Stopped → TextSurroundings
  texts_now = texts_at bindings tags

  -- a program that is no script is shown by its host text alone
  abbrev pub after_expansion : Edit → ℕ → ℕ → Stopped → Result Expanded Errno → Plan × Stopped
  after_expansion edit args kept t (Ok e) = if e.scripts == 0 then (record { edit = edit; led = led_in e.index }, t) else script_plan t args kept e
  after_expansion edit args kept t (Err errno) = (cancelled errno, t)

  abbrev pub expand_with : Edit → List ℕ → ℕ → Handed → Stopped → Plan × Stopped
  expand_with edit path args handed t =
      after_expansion edit args (length handed.args - 1) t (expanded_at (texts_now t) t.pid handed.env_bytes path handed.args)

  -- lists that can't be read are left to the kernel
  abbrev pub after_lists : Edit → Led → List ℕ → ℕ → Result Handed Errno → Stopped → Plan × Stopped
  after_lists edit led path args (Ok handed) t = expand_with edit path args handed t
  after_lists edit led path args (Err errno) t = (record { edit = edit; led = led }, t)

  -- both lists are read where the path itself can be swapped
  abbrev pub after_path : Stopped → Request → List ℕ → ListAddresses → Edit → Plan × Stopped
  after_path t r path lists edit =
      let done = carried_out (lists_at lists.args lists.env) (memory_at t) in
      if is_swap edit then after_lists edit (led_of (texts_now t) t.pid r) path lists.args done.reply (with_memory done.memory t)
      else (record { edit = edit; led = nowhere }, t)

  abbrev pub execve_plan : Stopped → Request → List ℕ → ListAddresses → Plan × Stopped
  execve_plan t r path lists = after_path t r path lists (rewritten (texts_now t) t r)

  -- ---- every call

  -- execve alone has lists, beside one path
  abbrev pub planned_by : Stopped → Request → Option ListAddresses → Option PathUse → Plan × Stopped
  planned_by t r None path = (plan_for (texts_now t) t r, t)
  planned_by t r (Some lists) None = (plan_for (texts_now t) t r, t)
  planned_by t r (Some lists) (Some u) = execve_plan t r u.text lists

  abbrev pub planned : Stopped → Request → Plan × Stopped
  planned t r = planned_by t r (list_addresses r) (path_at r 0)

  -- ---- whether the process directory is unmet still, by whether it was before

  abbrev pub unmet_behind_lists : List ℕ → Result Handed Errno → Stopped → Bool → Bool
  unmet_behind_lists path (Ok handed) t unmet = expanded_unmet (texts_now t) t.pid handed.env_bytes path handed.args unmet
  unmet_behind_lists path (Err errno) t unmet = unmet

  abbrev pub execve_unmet : Stopped → Request → List ℕ → ListAddresses → Bool → Bool
  execve_unmet t r path lists unmet =
      let done = carried_out (lists_at lists.args lists.env) (memory_at t) in
      let walked = plan_unmet (texts_now t) t.pid r unmet in
      if is_swap (rewritten (texts_now t) t r) then unmet_behind_lists path done.reply (with_memory done.memory t) walked else walked

  abbrev pub unmet_planned : Stopped → Request → Option ListAddresses → Option PathUse → Bool → Bool
  unmet_planned t r None path unmet = plan_for_unmet (texts_now t) t r unmet
  unmet_planned t r (Some lists) None unmet = plan_for_unmet (texts_now t) t r unmet
  unmet_planned t r (Some lists) (Some u) unmet = execve_unmet t r u.text lists unmet

  abbrev pub planned_unmet : Stopped → Request → Bool → Bool
  planned_unmet t r unmet = unmet_planned t r (list_addresses r) (path_at r 0) unmet
