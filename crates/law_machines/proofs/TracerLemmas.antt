-- The tracer leaves bytes.
use Rattle.std.specs.FinMap as map
use Rattle.std.proofs.Common.{◌≡◌, ℕ, ◌-◌, Bool, true, false, List, [], ◌∷◌, cond, length, Option, Some, None, ℤ, refl}
use Rattle.std.specs.Prelude.{◌==◌, Err, IfOk, Ok, Result}
use Rattle.std.specs.List.{AllByRecursion}
use Rattle.pr_top.specs.pr_base.MountText.{MountText}
use Rattle.pr_top.specs.pr_base.declared.errno.Errno.{Errno}
use Rattle.pr_top.specs.pr_base.declared.errno.Errno.TheVariants.{EFAULT}
use Rattle.law_starts.specs.rv_mem.Actions.{carried_out}
use Rattle.pr_top.specs.kr_inode.declared.user.User.{User}
use Rattle.law_starts.specs.kr_calls.PathTable.{PathUse, path_at}
use Rattle.law_starts.specs.kr_calls.declared.request.Request.{Request}
use Rattle.pr_top.specs.kr_tree.Lawful.{AreBytes}
use Rattle.law_starts.proofs.law_allowed.DecodedLemmas.{decoded-are-givable}
use Rattle.law_starts.specs.kr_stops.Stopped.{Stopped, image_at}
use Rattle.law_starts.specs.pt_bind.Tags.{TagTable, with_tag}
use Rattle.law_starts.specs.pt_bind.declared.slot.Slot.TheVariants.{Exe}
use Rattle.law_starts.specs.pt_args.Bases.{working_text}
use Rattle.law_starts.specs.pt_args.declared.edit.Edit.{Edit}
use Rattle.law_starts.specs.pt_args.declared.edit.Edit.TheVariants.{Cancel, Emulate, Pass, Swap}
use Rattle.law_starts.specs.pt_ident.Identity.{Effect, after_exec, effect, on_memory}
use Rattle.law_starts.specs.pt_ident.IdentityTable.{IdentityTable, identity_at, starts_as_root}
use Rattle.law_starts.specs.pt_faker.Reading.{addresses_behind, lists_at}
use Rattle.law_starts.specs.pt_faker.declared.lists.Handed.{Handed}
use Rattle.law_starts.specs.pt_script.Expanding.{expanded_at}
use Rattle.law_starts.specs.pt_script.declared.expansion.Expanded.{Expanded}
use Rattle.law_starts.specs.pt_faker.Faking.{due_of, no_longer_called, show_identity, stack_register, word_of}
use Rattle.law_starts.specs.pt_faker.Stopping.{after_poke, after_request, decoded_at, memory_at, register_at, with_memory, with_register}
use Rattle.law_starts.specs.pt_faker.declared.due.Due.{Due}
use Rattle.law_starts.specs.pt_faker.declared.due.Due.TheVariants as due
use Rattle.law_starts.specs.pt_tracer.Planning.{after_addresses, after_expansion, after_lists, after_path, edit_for, is_swap, led_in, led_of, list_addresses, nowhere, planned, planned_by, rewritten, script_plan, stack_at, texts_at, has_shelf}
use Rattle.law_starts.specs.pt_tracer.Poking.{may_poke, poked}
use Rattle.law_starts.specs.pt_tracer.Registers.{given_back, is_register, with_argument, with_arguments}
use Rattle.law_starts.specs.pt_tracer.ScriptEdit.{put_texts}
use Rattle.law_starts.specs.pt_tracer.Watched.{Tracing, after_decoding, after_effect, after_pending, after_plan, applied, begin_as, begin_program, by_identities, entered, exited, give_back, has_begun, if_answered, refused, returned, shown_due, shown_to, with_tags, without_pending}
use Rattle.law_starts.specs.pt_tracer.declared.pending.Pending.{Pending}
use Rattle.law_starts.specs.pt_tracer.declared.plan.Led.{Led}
use Rattle.law_starts.specs.pt_tracer.declared.plan.Plan.{Plan}
use Rattle.law_starts.specs.pt_tracer.declared.registers.Arguments.{Arguments}
use Rattle.law_starts.specs.law_kept.Bytes.{GivesBytes, HasBytes}
use Rattle.law_starts.proofs.law_kept.CallLemmas.{given-bytes}
use Rattle.law_starts.proofs.law_kept.TurnLemmas.{at-stop, edits-keep-bytes}
use Rattle.law_machines.specs.Watchers.{TracersWatchBytes, goes_by_bytes}
use Rattle.law_machines.proofs.LookLemmas.{AreOfBytes}
use Rattle.law_machines.proofs.PeekLemmas.{peeks-tell-bytes}
use Rattle.law_machines.proofs.PlanLemmas.{EditsByBytes, PutsAllBytes, edits-are-bytes, edits-for-are-bytes, working-bytes}
use Rattle.law_machines.proofs.ProgramLemmas.{HandsBytes, ShowsBytes, addresses-give, expansions-show-bytes, kept-texts, lists-give, scripts-are-bytes}
use Rattle.law_machines.proofs.StopLemmas.{Fine, carried-keeps, effect-puts, forgiven-keeps, identity-puts, register-keeps, request-keeps, shown-keeps, uncalled-keeps}
use Rattle.law_machines.proofs.TextLemmas.{IsByteRow, rows-tested}

-- ---- what is done to a process

pokes-keep : (pokes : List (ℕ × List ℕ)) (t : Stopped) → PutsAllBytes pokes → HasBytes t.state → HasBytes (poked pokes t).state
pokes-keep [] t are has = has
pokes-keep (p ∷ ps) t are has = pokes-keep ps (after_poke p.0 p.1 t) are.1 (edits-keep-bytes.poke p.0 p.1 t are.0 has)

argument-keeps : (p : ℕ × ℕ) (t : Stopped) → HasBytes t.state → HasBytes (with_argument p t).state
argument-keeps p t has = by (is_register p.0)
  where
    by : (b : Bool) → HasBytes (cond b (with_register p.0 p.1 t) t).state
    by true = register-keeps p.0 p.1 t has
    by false = has

arguments-keep : (ps : List (ℕ × ℕ)) (t : Stopped) → HasBytes t.state → HasBytes (with_arguments ps t).state
arguments-keep [] t has = has
arguments-keep (p ∷ ps) t has = arguments-keep ps (with_argument p t) (argument-keeps p t has)

applied-keeps : (edit : Edit) (t : Stopped) → EditsByBytes edit → HasBytes t.state → HasBytes (applied edit t).stopped.state
applied-keeps Pass t are has = has
applied-keeps (Swap regs pokes) t are has = by (may_poke pokes t)
  where
    by : (b : Bool) → HasBytes (cond b (record { answer = None; stopped = with_arguments regs (poked pokes t) }) (refused EFAULT t)).stopped.state
    by true = arguments-keep regs (poked pokes t) (pokes-keep pokes t are has)
    by false = uncalled-keeps t has
applied-keeps (Cancel e) t are has = uncalled-keeps t has
applied-keeps (Emulate pokes answer) t are has = by (may_poke pokes t)
  where
    by : (b : Bool) → HasBytes (cond b (record { answer = Some answer; stopped = no_longer_called (poked pokes t) }) (refused EFAULT t)).stopped.state
    by true = uncalled-keeps (poked pokes t) (pokes-keep pokes t are has)
    by false = uncalled-keeps t has

-- ---- plans

-- where a call has its lists: pt_tracer gives its record no name for others
abbrev FoundIn : {A B : Type 0} → (A → Option B) → Type 0
FoundIn {B = B} f = B

abbrev Addresses : Type 0
Addresses = FoundIn list_addresses

-- what is planned puts bytes, and so is left what was read for that
abbrev PlansByBytes : Plan × Stopped → Type 0
PlansByBytes p = EditsByBytes p.0.edit × HasBytes p.1.state

either-plan : (b : Bool) (x y : Plan × Stopped) → PlansByBytes x → PlansByBytes y → PlansByBytes (cond b x y)
either-plan true x y first second = first
either-plan false x y first second = second

module _ (bindings : List MountText) (rows : AllByRecursion IsByteRow bindings) (tags : TagTable) where
  of-bytes : (t : Stopped) → HasBytes t.state → AreOfBytes (texts_at bindings tags t)
  of-bytes t has = record { rows = rows; tells = peeks-tell-bytes t.state has t.pid }

  addresses-plan : (t : Stopped) (e : Expanded) (kept : ℕ) (r : Result (List ℕ) Errno) → ShowsBytes e → IfOk r AreBytes → EditsByBytes (after_addresses t e kept r).edit
  addresses-plan t e kept (Ok addresses) shows are = scripts-are-bytes (stack_at t) e.host (put_texts kept e.args) addresses shows.host (kept-texts kept e.args shows.args) are
  addresses-plan t e kept (Err errno) shows are = tt

  script-plan : (t : Stopped) (args kept : ℕ) (e : Expanded) → ShowsBytes e → HasBytes t.state → PlansByBytes (script_plan t args kept e)
  script-plan t args kept e shows has =
      let done = carried-keeps (λ (r : Result (List ℕ) Errno). IfOk r AreBytes) (addresses_behind args kept) (addresses-give args kept) t has in
      (addresses-plan t e kept (carried_out (addresses_behind args kept) (memory_at t)).reply shows done.0, done.1)

  expansion-plan : (edit : Edit) (args kept : ℕ) (t : Stopped) (r : Result Expanded Errno) → EditsByBytes edit → IfOk r ShowsBytes → HasBytes t.state → PlansByBytes (after_expansion bindings tags edit args kept t r)
  expansion-plan edit args kept t (Ok e) are shows has = either-plan (e.scripts == 0) (record { edit = edit; led = led_in e.index }, t) (script_plan t args kept e) (are, has) (script-plan t args kept e shows has)
  expansion-plan edit args kept t (Err errno) are shows has = (tt, has)

  lists-plan : (edit : Edit) (led : Led) (path : List ℕ) (args : ℕ) (r : Result Handed Errno) (t : Stopped) → EditsByBytes edit → AreBytes path → IfOk r HandsBytes → HasBytes t.state → PlansByBytes (after_lists bindings tags edit led path args r t)
  lists-plan edit led path args (Ok handed) t are path_are hands has =
      let texts = texts_at bindings tags t in
      expansion-plan edit args (length handed.args - 1) t (expanded_at texts t.pid handed.env_bytes path handed.args) are
      (expansions-show-bytes texts (of-bytes t has) (working_text texts t.pid) (working-bytes texts (of-bytes t has) t.pid) handed.env_bytes path handed.args path_are hands) has
  lists-plan edit led path args (Err errno) t are path_are hands has = (are, has)

  path-plan : (t : Stopped) (r : Request) (path : List ℕ) (lists : Addresses) (edit : Edit) → EditsByBytes edit → AreBytes path → HasBytes t.state → PlansByBytes (after_path bindings tags t r path lists edit)
  path-plan t r path lists edit are path_are has =
      let action = lists_at lists.args lists.env in
      let done = carried-keeps (λ (r : Result Handed Errno). IfOk r HandsBytes) action (lists-give lists.args lists.env) t has in
      let read = carried_out action (memory_at t) in
      let led = led_of (texts_at bindings tags t) t.pid r in
      either-plan (is_swap edit) (after_lists bindings tags edit led path lists.args read.reply (with_memory read.memory t)) (record { edit = edit; led = nowhere }, t)
      (lists-plan edit led path lists.args read.reply (with_memory read.memory t) are path_are done.0 done.1) (are, has)

  plans-are-bytes : (t : Stopped) (r : Request) → GivesBytes r → HasBytes t.state → PlansByBytes (planned bindings tags t r)
  plans-are-bytes t r gives has = by (list_addresses r) (path_at r 0) (gives.paths 0)
    where
      own : EditsByBytes (edit_for (texts_at bindings tags t) t r)
      own = edits-for-are-bytes (texts_at bindings tags t) (of-bytes t has) t r gives

      by : (o : Option Addresses) (u : Option PathUse) → ((v : PathUse) → u ≡ Some v → AreBytes v.text) → PlansByBytes (planned_by bindings tags t r o u)
      by None u each = (own, has)
      by (Some lists) None each = (own, has)
      by (Some lists) (Some v) each =
          path-plan t r v.text lists (rewritten (texts_at bindings tags t) t r) (edits-are-bytes (texts_at bindings tags t) (of-bytes t has) t.pid r gives (stack_at t) (has_shelf t)) (each v refl) has

-- ---- the first stop

-- what the tracer goes by stays, and the state has bytes
abbrev Leaves : Tracing × Stopped → Type 0
Leaves left = (goes_by_bytes left.0 ≡ true) × HasBytes left.1.state

module _ (x : Tracing) (sound : goes_by_bytes x ≡ true) where
  plan-leaves : (y : Tracing) → goes_by_bytes y ≡ true → (t : Stopped) (r : Request) (p : Plan × Stopped) → PlansByBytes p → Leaves (after_plan y t r p)
  plan-leaves y still t r p are = (still, applied-keeps p.0.edit p.1 are.0 are.1)

  planned-bytes : (t : Stopped) (r : Request) → GivesBytes r → HasBytes t.state → PlansByBytes (planned x.bindings x.tags t r)
  planned-bytes t r gives has = plans-are-bytes x.bindings (rows-tested x.bindings sound) x.tags t r gives has

  effect-leaves : (table : IdentityTable) (r : Request) (t : Stopped) (o : Option Effect) → GivesBytes r → HasBytes t.state → Leaves (after_effect x table r t o)
  effect-leaves table r t None gives has =
      let are = planned-bytes t r gives has in
      (sound, applied-keeps (planned x.bindings x.tags t r).0.edit (planned x.bindings x.tags t r).1 are.0 are.1)
  effect-leaves table r t (Some e) gives has =
      let i = identity_at table t.pid in
      (sound, uncalled-keeps (with_memory (carried_out (on_memory i e) (memory_at t)).memory t) (carried-keeps Fine (on_memory i e) (effect-puts i e) t has).1)

  identities-leave : (r : Request) (t : Stopped) (o : Option IdentityTable) → GivesBytes r → HasBytes t.state → Leaves (by_identities x r t o)
  identities-leave r t None gives has = plan-leaves x sound t r (planned x.bindings x.tags t r) (planned-bytes t r gives has)
  identities-leave r t (Some table) gives has = effect-leaves table r t (effect (identity_at table t.pid) r) gives has

  decoded-leaves : (t : Stopped) (r : Result Request Errno) → ((q : Request) → r ≡ Ok q → GivesBytes q) → HasBytes t.state → Leaves (after_decoding x t r)
  decoded-leaves t (Ok r) gives has = identities-leave r t x.identities (gives r refl) has
  decoded-leaves t (Err e) gives has = (sound, has)

  entry-leaves : (t : Stopped) → HasBytes t.state → Leaves (entered x t)
  entry-leaves t has =
      decoded-leaves (after_request t) (decoded_at t).reply
      (λ r given. let each = decoded-are-givable (image_at t).regs (memory_at t) r (at-stop t has) given in given-bytes r each.0 each.1) (request-keeps t has)

  -- ---- the second stop

  back-keeps : (p : Arguments) (t : Stopped) → HasBytes t.state → HasBytes (given_back p t).state
  back-keeps p t has =
      let one = register-keeps 11 p.a1 t has in
      let t1 = with_register 11 p.a1 t in
      let two = register-keeps 12 p.a2 t1 one in
      let t2 = with_register 12 p.a2 t1 in
      let three = register-keeps 13 p.a3 t2 two in
      let t3 = with_register 13 p.a3 t2 in
      let four = register-keeps 14 p.a4 t3 three in
      let t4 = with_register 14 p.a4 t3 in
      register-keeps 17 p.a7 (with_register 15 p.a5 t4) (register-keeps 15 p.a5 t4 four)

  answer-keeps : (o : Option ℤ) (t : Stopped) → HasBytes t.state → HasBytes (if_answered o t).state
  answer-keeps None t has = has
  answer-keeps (Some answer) t has = register-keeps 10 (word_of answer) t has

  due-keeps : (user : User) (table : IdentityTable) (at_root : Bool) (o : Option Due) (t : Stopped) → HasBytes t.state → HasBytes (shown_due user table at_root o t).state
  due-keeps user table at_root None t has = has
  due-keeps user table at_root (Some (due.Tells number answer)) t has = has
  due-keeps user table at_root (Some (due.Remembers change)) t has = forgiven-keeps true t has
  due-keeps user table at_root (Some due.ForgivesRoot) t has = forgiven-keeps at_root t has
  due-keeps user table at_root (Some (due.ShowsOwner at)) t has = shown-keeps user table at t has
  due-keeps user table at_root (Some due.BeginsProgram) t has = has

  shown-to-keeps : (user : User) (o : Option IdentityTable) (p : Pending) (t : Stopped) → HasBytes t.state → HasBytes (shown_to user o p t).state
  shown-to-keeps user None p t has = has
  shown-to-keeps user (Some table) p t has = due-keeps user table p.led.at_root (due_of (starts_as_root table) p.request) t has

  begin-leaves : (y : Tracing) → goes_by_bytes y ≡ true → (t : Stopped) (o : Option IdentityTable) → HasBytes t.state → Leaves (begin_as y t o)
  begin-leaves y still t None has = (still, has)
  begin-leaves y still t (Some table) has =
      let i = after_exec (identity_at table t.pid) in
      (still, (carried-keeps Fine (show_identity i (register_at t stack_register)) (identity-puts i (register_at t stack_register)) t has).1)

  pending-leaves : (y : Tracing) → goes_by_bytes y ≡ true → (t : Stopped) (o : Option Pending) → HasBytes t.state → Leaves (after_pending y t o)
  pending-leaves y still t None has = (still, has)
  pending-leaves y still t (Some p) has = by (has_begun p t)
    where
      by : (b : Bool) → Leaves (cond b (begin_program y p t) (give_back y p t))
      by true = begin-leaves (with_tags (with_tag y.tags t.pid Exe p.led.index) y) still t y.identities has
      by false = (still, shown-to-keeps y.user y.identities p (returned p t) (answer-keeps p.answer (given_back p.passed t) (back-keeps p.passed t has)))

  exit-leaves : (t : Stopped) → HasBytes t.state → Leaves (exited x t)
  exit-leaves t has = pending-leaves (without_pending t.pid x) sound t (map.get x.pending t.pid) has

pub tracers-watch-bytes : TracersWatchBytes
tracers-watch-bytes = record {
  entry = λ x t sound has. entry-leaves x sound t has;
  exit = λ x t sound has. exit-leaves x sound t has;
  born = λ x parent child sound. sound;
  gone = λ x pid sound. sound;
}
