-- At the stops of a tracer no byte is marked, whatever identity it tells.
use Rattle.std.specs.FinMap as map
use Rattle.std.proofs.Common.{ℕ, ◌-◌, Bool, true, false, ◌&&◌, cond, List, [], ◌∷◌, length, Option, Some, None, Result, Ok, Err, ℤ}
use Rattle.std.specs.Prelude.{◌==◌}
use Rattle.pt_tracer.specs.pr_base.MountText.{MountText}
use Rattle.pt_tracer.specs.pr_base.declared.errno.Errno.{Errno}
use Rattle.pt_tracer.specs.pr_base.declared.errno.Errno.TheVariants.{EFAULT, EPERM}
use Rattle.pt_tracer.specs.rv_mem.Actions.{Action, carried_out}
use Rattle.pt_tracer.specs.kr_inode.declared.user.User.{User}
use Rattle.pt_tracer.specs.pt_bind.Tags.{TagTable, with_tag}
use Rattle.pt_tracer.specs.pt_bind.declared.slot.Slot.TheVariants.{Exe}
use Rattle.pt_tracer.specs.pt_results.kr_calls.PathTable.{PathUse, path_at}
use Rattle.pt_tracer.specs.pt_results.kr_calls.declared.request.Request.{Request}
use Rattle.pt_tracer.specs.pt_args.declared.edit.Edit.{Edit}
use Rattle.pt_tracer.specs.pt_args.declared.edit.Edit.TheVariants.{Cancel, Emulate, Pass, Swap}
use Rattle.pt_tracer.specs.pt_faker.Carrying.{on_its_memory}
use Rattle.pt_tracer.specs.pt_faker.Faking.{due_of, forgiven, has_answered_zero, no_call, no_longer_called, show_identity, show_owner, stack_register, word_of}
use Rattle.pt_tracer.specs.pt_faker.Reading.{addresses_behind, lists_at}
use Rattle.pt_tracer.specs.pt_faker.Stopping.{after_poke, after_request, decoded_at, memory_at, register_at, with_memory, with_register}
use Rattle.pt_tracer.specs.pt_faker.declared.due.Due.{Due}
use Rattle.pt_tracer.specs.pt_faker.declared.due.Due.TheVariants as due
use Rattle.pt_tracer.specs.pt_faker.declared.lists.Handed.{Handed}
use Rattle.pt_tracer.specs.pt_ident.Identity.{Effect, after_exec, effect, on_memory, refusal}
use Rattle.pt_tracer.specs.pt_ident.IdentityTable.{IdentityTable, identity_at, starts_as_root}
use Rattle.pt_tracer.specs.pt_script.Expanding.{expanded_at}
use Rattle.pt_tracer.specs.pt_script.declared.expansion.Expanded.{Expanded}
use Rattle.pt_tracer.specs.Planning.{after_expansion, after_lists, after_path, is_swap, led_in, led_of, list_addresses, nowhere, planned, planned_by, rewritten, script_plan, texts_at}
use Rattle.pt_tracer.specs.Poking.{may_poke, poked}
use Rattle.pt_tracer.specs.Registers.{given_back, is_register, with_argument, with_arguments}
use Rattle.pt_tracer.specs.Watched.{Tracing, after_decoding, after_effect, after_pending, applied, begin_as, begin_program, by_identities, entered, give_back, has_begun, if_answered, refused, returned, shown_due, shown_to, with_tags, without_pending}
use Rattle.pt_tracer.specs.declared.pending.Pending.{Pending}
use Rattle.pt_tracer.specs.declared.plan.Led.{Led}
use Rattle.pt_tracer.specs.declared.plan.Plan.{Plan}
use Rattle.pt_tracer.specs.declared.registers.Arguments.{Arguments}
use Rattle.kr_loose.specs.kr_stops.Stopped.{Stopped, image_at}
use Rattle.kr_loose.specs.Marks.{AreUnmarked}
use Rattle.kr_loose.proofs.MarkTurnLemmas.{edits-mark-nothing}
use Rattle.kr_loose.proofs.UnmarkedLemmas.{action-unmarked}
use Rattle.law_entries.specs.Marking.{TracersMarkNothing}

-- ---- what is done to a process

register-clear : (k v : ℕ) (t : Stopped) → AreUnmarked t.state → AreUnmarked (with_register k v t).state
register-clear k v t clear = edits-mark-nothing.register k v t clear

action-clear : {A : Type 0} (action : Action A) (t : Stopped) → AreUnmarked t.state → AreUnmarked (with_memory (carried_out action (memory_at t)).memory t).state
action-clear action t clear = edits-mark-nothing.edit (image_at t).regs (carried_out action (memory_at t)).memory t (action-unmarked action (memory_at t) (edits-mark-nothing.stands t clear)) clear

uncalled-clear : (t : Stopped) → AreUnmarked t.state → AreUnmarked (no_longer_called t).state
uncalled-clear t clear = register-clear 17 no_call t clear

pokes-clear : (pokes : List (ℕ × List ℕ)) (t : Stopped) → AreUnmarked t.state → AreUnmarked (poked pokes t).state
pokes-clear [] t clear = clear
pokes-clear (p ∷ ps) t clear = pokes-clear ps (after_poke p.0 p.1 t) (edits-mark-nothing.poke p.0 p.1 t clear)

argument-clear : (p : ℕ × ℕ) (t : Stopped) → AreUnmarked t.state → AreUnmarked (with_argument p t).state
argument-clear p t clear = by (is_register p.0)
  where
    by : (b : Bool) → AreUnmarked (cond b (with_register p.0 p.1 t) t).state
    by true = register-clear p.0 p.1 t clear
    by false = clear

arguments-clear : (ps : List (ℕ × ℕ)) (t : Stopped) → AreUnmarked t.state → AreUnmarked (with_arguments ps t).state
arguments-clear [] t clear = clear
arguments-clear (p ∷ ps) t clear = arguments-clear ps (with_argument p t) (argument-clear p t clear)

applied-clear : (edit : Edit) (t : Stopped) → AreUnmarked t.state → AreUnmarked (applied edit t).stopped.state
applied-clear Pass t clear = clear
applied-clear (Swap regs pokes) t clear = by (may_poke pokes t)
  where
    by : (b : Bool) → AreUnmarked (cond b (record { answer = None; stopped = with_arguments regs (poked pokes t) }) (refused EFAULT t)).stopped.state
    by true = arguments-clear regs (poked pokes t) (pokes-clear pokes t clear)
    by false = uncalled-clear t clear
applied-clear (Cancel e) t clear = uncalled-clear t clear
applied-clear (Emulate pokes answer) t clear = by (may_poke pokes t)
  where
    by : (b : Bool) → AreUnmarked (cond b (record { answer = Some answer; stopped = no_longer_called (poked pokes t) }) (refused EFAULT t)).stopped.state
    by true = uncalled-clear (poked pokes t) (pokes-clear pokes t clear)
    by false = uncalled-clear t clear

-- ---- plans

-- where a call has its lists: pt_tracer gives its record no name for others
abbrev FoundIn : {A B : Type 0} → (A → Option B) → Type 0
FoundIn {B = B} f = B

abbrev Addresses : Type 0
Addresses = FoundIn list_addresses

either-clear : (b : Bool) (p q : Plan × Stopped) → AreUnmarked p.1.state → AreUnmarked q.1.state → AreUnmarked (cond b p q).1.state
either-clear true p q first second = first
either-clear false p q first second = second

module _ (bindings : List MountText) (tags : TagTable) where
  expansion-clear : (edit : Edit) (args kept : ℕ) (t : Stopped) (r : Result Expanded Errno) → AreUnmarked t.state → AreUnmarked (after_expansion bindings tags edit args kept t r).1.state
  expansion-clear edit args kept t (Ok e) clear = either-clear (e.scripts == 0) (record { edit = edit; led = led_in e.index }, t) (script_plan t args kept e) clear (action-clear (addresses_behind args kept) t clear)
  expansion-clear edit args kept t (Err errno) clear = clear

  lists-clear : (edit : Edit) (led : Led) (path : List ℕ) (args : ℕ) (r : Result Handed Errno) (t : Stopped) → AreUnmarked t.state → AreUnmarked (after_lists bindings tags edit led path args r t).1.state
  lists-clear edit led path args (Ok handed) t clear =
      expansion-clear edit args (length handed.args - 1) t (expanded_at (texts_at bindings tags t) t.pid handed.env_bytes path handed.args) clear
  lists-clear edit led path args (Err errno) t clear = clear

  path-clear : (t : Stopped) (r : Request) (path : List ℕ) (lists : Addresses) (edit : Edit) → AreUnmarked t.state → AreUnmarked (after_path bindings tags t r path lists edit).1.state
  path-clear t r path lists edit clear =
      let read = carried_out (lists_at lists.args lists.env) (memory_at t) in
      let led = led_of (texts_at bindings tags t) t.pid r in
      either-clear (is_swap edit) (after_lists bindings tags edit led path lists.args read.reply (with_memory read.memory t)) (record { edit = edit; led = nowhere }, t)
      (lists-clear edit led path lists.args read.reply (with_memory read.memory t) (action-clear (lists_at lists.args lists.env) t clear)) clear

  planned-clear : (t : Stopped) (r : Request) → AreUnmarked t.state → AreUnmarked (planned bindings tags t r).1.state
  planned-clear t r clear = by (list_addresses r) (path_at r 0)
    where
      by : (o : Option Addresses) (u : Option PathUse) → AreUnmarked (planned_by bindings tags t r o u).1.state
      by None u = clear
      by (Some lists) None = clear
      by (Some lists) (Some v) = path-clear t r v.text lists (rewritten (texts_at bindings tags t) t r) clear

-- ---- the first stop

module _ (x : Tracing) where
  plan-clear : (t : Stopped) (r : Request) → AreUnmarked t.state → AreUnmarked (applied (planned x.bindings x.tags t r).0.edit (planned x.bindings x.tags t r).1).stopped.state
  plan-clear t r clear = applied-clear (planned x.bindings x.tags t r).0.edit (planned x.bindings x.tags t r).1 (planned-clear x.bindings x.tags t r clear)

  effect-clear : (table : IdentityTable) (r : Request) (t : Stopped) (o : Option Effect) → AreUnmarked t.state → AreUnmarked (after_effect x table r t o).1.state
  effect-clear table r t None clear = plan-clear t r clear
  effect-clear table r t (Some e) clear =
      let i = identity_at table t.pid in
      uncalled-clear (with_memory (carried_out (on_memory i e) (memory_at t)).memory t) (action-clear (on_memory i e) t clear)

  identities-clear : (r : Request) (t : Stopped) (o : Option IdentityTable) → AreUnmarked t.state → AreUnmarked (by_identities x r t o).1.state
  identities-clear r t None clear = plan-clear t r clear
  identities-clear r t (Some table) clear = effect-clear table r t (effect (identity_at table t.pid) r) clear

  decoded-clear : (t : Stopped) (r : Result Request Errno) → AreUnmarked t.state → AreUnmarked (after_decoding x t r).1.state
  decoded-clear t (Ok r) clear = identities-clear r t x.identities clear
  decoded-clear t (Err e) clear = clear

  entry-clear : (t : Stopped) → AreUnmarked t.state → AreUnmarked (entered x t).1.state
  entry-clear t clear = decoded-clear (after_request t) (decoded_at t).reply (edits-mark-nothing.request t clear)

-- ---- the second stop

back-clear : (p : Arguments) (t : Stopped) → AreUnmarked t.state → AreUnmarked (given_back p t).state
back-clear p t clear =
    let t1 : Stopped = with_register 11 p.a1 t in
    let t2 : Stopped = with_register 12 p.a2 t1 in
    let t3 : Stopped = with_register 13 p.a3 t2 in
    let t4 : Stopped = with_register 14 p.a4 t3 in
    let t5 : Stopped = with_register 15 p.a5 t4 in
    register-clear 17 p.a7 t5 (register-clear 15 p.a5 t4 (register-clear 14 p.a4 t3 (register-clear 13 p.a3 t2 (register-clear 12 p.a2 t1 (register-clear 11 p.a1 t clear)))))

answer-clear : (o : Option ℤ) (t : Stopped) → AreUnmarked t.state → AreUnmarked (if_answered o t).state
answer-clear None t clear = clear
answer-clear (Some answer) t clear = register-clear 10 (word_of answer) t clear

forgiven-clear : (may : Bool) (t : Stopped) → AreUnmarked t.state → AreUnmarked (forgiven may t).state
forgiven-clear may t clear = by (may && (register_at t 10 == word_of (refusal EPERM)))
  where
    by : (b : Bool) → AreUnmarked (cond b (with_register 10 0 t) t).state
    by true = register-clear 10 0 t clear
    by false = clear

owner-clear : (user : User) (table : IdentityTable) (at : ℕ) (b : Bool) (t : Stopped) → AreUnmarked t.state → AreUnmarked (cond b (on_its_memory (show_owner user table at) t) t).state
owner-clear user table at true t clear = action-clear (show_owner user table at) t clear
owner-clear user table at false t clear = clear

due-clear : (user : User) (table : IdentityTable) (at_root : Bool) (o : Option Due) (t : Stopped) → AreUnmarked t.state → AreUnmarked (shown_due user table at_root o t).state
due-clear user table at_root None t clear = clear
due-clear user table at_root (Some (due.Tells number answer)) t clear = clear
due-clear user table at_root (Some (due.Remembers change)) t clear = forgiven-clear true t clear
due-clear user table at_root (Some due.ForgivesRoot) t clear = forgiven-clear at_root t clear
due-clear user table at_root (Some (due.ShowsOwner at)) t clear = owner-clear user table at (has_answered_zero t) t clear
due-clear user table at_root (Some due.BeginsProgram) t clear = clear

shown-clear : (user : User) (o : Option IdentityTable) (p : Pending) (t : Stopped) → AreUnmarked t.state → AreUnmarked (shown_to user o p t).state
shown-clear user None p t clear = clear
shown-clear user (Some table) p t clear = due-clear user table p.led.at_root (due_of (starts_as_root table) p.request) t clear

module _ (x : Tracing) where
  begun-clear : (t : Stopped) (o : Option IdentityTable) → AreUnmarked t.state → AreUnmarked (begin_as x t o).1.state
  begun-clear t None clear = clear
  begun-clear t (Some table) clear = action-clear (show_identity (after_exec (identity_at table t.pid)) (register_at t stack_register)) t clear

  given-clear : (p : Pending) (t : Stopped) → AreUnmarked t.state → AreUnmarked (give_back x p t).1.state
  given-clear p t clear = shown-clear x.user x.identities p (returned p t) (answer-clear p.answer (given_back p.passed t) (back-clear p.passed t clear))

settled-clear : (x : Tracing) (p : Pending) (t : Stopped) (b : Bool) → AreUnmarked t.state → AreUnmarked (cond b (begin_program x p t) (give_back x p t)).1.state
settled-clear x p t true clear = begun-clear (with_tags (with_tag x.tags t.pid Exe p.led.index) x) t x.identities clear
settled-clear x p t false clear = given-clear x p t clear

pending-clear : (x : Tracing) (t : Stopped) (o : Option Pending) → AreUnmarked t.state → AreUnmarked (after_pending x t o).1.state
pending-clear x t None clear = clear
pending-clear x t (Some p) clear = settled-clear x p t (has_begun p t) clear

pub tracers-mark-nothing : TracersMarkNothing
tracers-mark-nothing = record {
  entry = λ x t clear. entry-clear x t clear;
  exit = λ x t clear. pending-clear (without_pending t.pid x) t (map.get x.pending t.pid) clear;
}
