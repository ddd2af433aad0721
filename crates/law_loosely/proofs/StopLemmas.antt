-- At its stops a tracer without an identity gives the process that is stopped other registers and another memory, and does nothing else: what such edits
-- keep, its stops keep.
use Rattle.std.specs.FinMap as map
use Rattle.std.proofs.Common.{◌≡◌, ℕ, ◌-◌, Bool, true, false, cond, List, [], ◌∷◌, length, Option, Some, None, Result, Ok, Err, ℤ, sym, subst}
use Rattle.std.specs.Prelude.{◌==◌, slice_set}
use Rattle.law_entries.specs.pt_tracer.pr_base.MountText.{MountText}
use Rattle.law_entries.specs.pt_tracer.pr_base.declared.errno.Errno.{Errno}
use Rattle.law_entries.specs.pt_tracer.pr_base.declared.errno.Errno.TheVariants.{EFAULT}
use Rattle.law_entries.specs.pt_tracer.rv_mem.Actions.{carried_out}
use Rattle.law_entries.specs.pt_tracer.rv_mem.Memory.{Memory, with_pages}
use Rattle.law_entries.specs.pt_tracer.rv_mem.Pages.{written}
use Rattle.law_entries.specs.pt_tracer.rv_mem.declared.regs.Regs.{Regs}
use Rattle.law_entries.specs.pt_tracer.pt_bind.Tags.{TagTable}
use Rattle.law_entries.specs.pt_tracer.pt_results.kr_calls.PathTable.{PathUse, path_at}
use Rattle.law_entries.specs.pt_tracer.pt_results.kr_calls.declared.request.Request.{Request}
use Rattle.law_entries.specs.pt_tracer.pt_args.declared.edit.Edit.{Edit}
use Rattle.law_entries.specs.pt_tracer.pt_args.declared.edit.Edit.TheVariants.{Cancel, Emulate, Pass, Swap}
use Rattle.law_entries.specs.pt_tracer.pt_faker.Faking.{no_call, no_longer_called, word_of}
use Rattle.law_entries.specs.pt_tracer.pt_faker.Reading.{addresses_behind, lists_at}
use Rattle.law_entries.specs.pt_tracer.pt_faker.Stopping.{after_poke, after_request, decoded_at, memory_at, with_memory, with_register}
use Rattle.law_entries.specs.pt_tracer.pt_faker.declared.lists.Handed.{Handed}
use Rattle.law_entries.specs.pt_tracer.pt_ident.IdentityTable.{IdentityTable}
use Rattle.law_entries.specs.pt_tracer.pt_script.Expanding.{expanded_at}
use Rattle.law_entries.specs.pt_tracer.pt_script.declared.expansion.Expanded.{Expanded}
use Rattle.law_entries.specs.pt_tracer.Planning.{after_expansion, after_lists, after_path, is_swap, led_in, led_of, list_addresses, nowhere, planned, planned_by, rewritten, script_plan, texts_at}
use Rattle.law_entries.specs.pt_tracer.Poking.{may_poke, poked}
use Rattle.law_entries.specs.pt_tracer.Registers.{given_back, is_register, with_argument, with_arguments}
use Rattle.law_entries.specs.pt_tracer.Watched.{Tracing, after_decoding, after_pending, applied, begin_as, begin_program, by_identities, entered, exited, give_back, has_begun, if_answered, refused, returned, shown_to, without_pending}
use Rattle.law_entries.specs.pt_tracer.declared.pending.Pending.{Pending}
use Rattle.law_entries.specs.pt_tracer.declared.plan.Led.{Led}
use Rattle.law_entries.specs.pt_tracer.declared.plan.Plan.{Plan}
use Rattle.law_entries.specs.pt_tracer.declared.registers.Arguments.{Arguments}
use Rattle.law_loose.specs.kr_model.State.{Image, State}
use Rattle.law_loose.specs.kr_stops.Stopped.{Stopped, computed, edited, image_at}

-- where a call has its lists: pt_tracer gives its record no name for others
abbrev FoundIn : {A B : Type 0} → (A → Option B) → Type 0
FoundIn {B = B} f = B

abbrev Addresses : Type 0
Addresses = FoundIn list_addresses

module _ (pid : ℕ) (K : State ℕ Image → Type 0) (closed : (regs : Regs) (memory : Memory) (s : State ℕ Image) → K s → K (computed pid regs memory s)) where
  -- the process of that number is stopped, in a state of which it holds
  record Holds (t : Stopped) : Type 0 where
    pub at : t.pid ≡ pid
    pub state : K t.state

  -- ---- one edit

  holds-edited : (regs : Regs) (memory : Memory) (t : Stopped) → Holds t → Holds (edited regs memory t)
  holds-edited regs memory t holds = record { at = holds.at; state = subst (λ (n : ℕ). K (computed n regs memory t.state)) (sym holds.at) (closed regs memory t.state holds.state) }

  holds-memory : (memory : Memory) (t : Stopped) → Holds t → Holds (with_memory memory t)
  holds-memory memory t holds = holds-edited (image_at t).regs memory t holds

  holds-register : (k v : ℕ) (t : Stopped) → Holds t → Holds (with_register k v t)
  holds-register k v t holds = holds-edited (record { x = slice_set (image_at t).regs.x k v; pc = (image_at t).regs.pc }) (image_at t).memory t holds

  holds-poke : (at : ℕ) (bytes : List ℕ) (t : Stopped) → Holds t → Holds (after_poke at bytes t)
  holds-poke at bytes t holds = holds-memory (with_pages (memory_at t) (written (memory_at t).pages at bytes)) t holds

  holds-request : (t : Stopped) → Holds t → Holds (after_request t)
  holds-request t holds = holds-memory (decoded_at t).memory t holds

  holds-uncalled : (t : Stopped) → Holds t → Holds (no_longer_called t)
  holds-uncalled t holds = holds-register 17 no_call t holds

  either : (b : Bool) (t u : Stopped) → Holds t → Holds u → Holds (cond b t u)
  either true t u first second = first
  either false t u first second = second

  -- ---- what an edit of a call does

  holds-poked : (pokes : List (ℕ × List ℕ)) (t : Stopped) → Holds t → Holds (poked pokes t)
  holds-poked [] t holds = holds
  holds-poked (p ∷ ps) t holds = holds-poked ps (after_poke p.0 p.1 t) (holds-poke p.0 p.1 t holds)

  holds-arguments : (ps : List (ℕ × ℕ)) (t : Stopped) → Holds t → Holds (with_arguments ps t)
  holds-arguments [] t holds = holds
  holds-arguments (p ∷ ps) t holds = holds-arguments ps (with_argument p t) (either (is_register p.0) (with_register p.0 p.1 t) t (holds-register p.0 p.1 t holds) holds)

  holds-applied : (edit : Edit) (t : Stopped) → Holds t → Holds (applied edit t).stopped
  holds-applied Pass t holds = holds
  holds-applied (Swap regs pokes) t holds = by (may_poke pokes t)
    where
      by : (b : Bool) → Holds (cond b (record { answer = None; stopped = with_arguments regs (poked pokes t) }) (refused EFAULT t)).stopped
      by true = holds-arguments regs (poked pokes t) (holds-poked pokes t holds)
      by false = holds-uncalled t holds
  holds-applied (Cancel e) t holds = holds-uncalled t holds
  holds-applied (Emulate pokes answer) t holds = by (may_poke pokes t)
    where
      by : (b : Bool) → Holds (cond b (record { answer = Some answer; stopped = no_longer_called (poked pokes t) }) (refused EFAULT t)).stopped
      by true = holds-uncalled (poked pokes t) (holds-poked pokes t holds)
      by false = holds-uncalled t holds

  -- ---- what a plan reads

  either-plan : (b : Bool) (p q : Plan × Stopped) → Holds p.1 → Holds q.1 → Holds (cond b p q).1
  either-plan true p q first second = first
  either-plan false p q first second = second

  module _ (bindings : List MountText) (tags : TagTable) where
    holds-expansion : (edit : Edit) (args kept : ℕ) (t : Stopped) (r : Result Expanded Errno) → Holds t → Holds (after_expansion bindings tags edit args kept t r).1
    holds-expansion edit args kept t (Ok e) holds =
        either-plan (e.scripts == 0) (record { edit = edit; led = led_in e.index }, t) (script_plan t args kept e) holds (holds-memory (carried_out (addresses_behind args kept) (memory_at t)).memory t holds)
    holds-expansion edit args kept t (Err errno) holds = holds

    holds-lists : (edit : Edit) (led : Led) (path : List ℕ) (args : ℕ) (r : Result Handed Errno) (t : Stopped) → Holds t → Holds (after_lists bindings tags edit led path args r t).1
    holds-lists edit led path args (Ok handed) t holds =
        holds-expansion edit args (length handed.args - 1) t (expanded_at (texts_at bindings tags t) t.pid handed.env_bytes path handed.args) holds
    holds-lists edit led path args (Err errno) t holds = holds

    holds-path : (t : Stopped) (r : Request) (path : List ℕ) (lists : Addresses) (edit : Edit) → Holds t → Holds (after_path bindings tags t r path lists edit).1
    holds-path t r path lists edit holds =
        let read = carried_out (lists_at lists.args lists.env) (memory_at t) in
        let led = led_of (texts_at bindings tags t) t.pid r in
        let first = holds-memory read.memory t holds in
        either-plan (is_swap edit) (after_lists bindings tags edit led path lists.args read.reply (with_memory read.memory t)) (record { edit = edit; led = nowhere }, t)
        (holds-lists edit led path lists.args read.reply (with_memory read.memory t) first) holds

    holds-planned : (t : Stopped) (r : Request) → Holds t → Holds (planned bindings tags t r).1
    holds-planned t r holds = by (list_addresses r) (path_at r 0)
      where
        by : (o : Option Addresses) (u : Option PathUse) → Holds (planned_by bindings tags t r o u).1
        by None u = holds
        by (Some lists) None = holds
        by (Some lists) (Some v) = holds-path t r v.text lists (rewritten (texts_at bindings tags t) t r) holds

  -- ---- the first stop

  module _ (x : Tracing) (none : x.identities ≡ None) where
    holds-call : (r : Request) (t : Stopped) (o : Option IdentityTable) → o ≡ None → Holds t → Holds (by_identities x r t o).1
    holds-call r t None e holds =
        let plan = planned x.bindings x.tags t r in
        holds-applied plan.0.edit plan.1 (holds-planned x.bindings x.tags t r holds)
    holds-call r t (Some table) e holds = absurd cc

    holds-decoded : (t : Stopped) (d : Result Request Errno) → Holds t → Holds (after_decoding x t d).1
    holds-decoded t (Ok r) holds = holds-call r t x.identities none holds
    holds-decoded t (Err e) holds = holds

    pub holds-entered : (t : Stopped) → t.pid ≡ pid → K t.state → K (entered x t).1.state
    holds-entered t at state = (holds-decoded (after_request t) (decoded_at t).reply (holds-request t (record { at = at; state = state }))).state

  -- ---- the second stop

  holds-back : (p : Arguments) (t : Stopped) → Holds t → Holds (given_back p t)
  holds-back p t holds =
      let t1 : Stopped = with_register 11 p.a1 t in
      let t2 : Stopped = with_register 12 p.a2 t1 in
      let t3 : Stopped = with_register 13 p.a3 t2 in
      let t4 : Stopped = with_register 14 p.a4 t3 in
      let t5 : Stopped = with_register 15 p.a5 t4 in
      holds-register 17 p.a7 t5
      (holds-register 15 p.a5 t4 (holds-register 14 p.a4 t3 (holds-register 13 p.a3 t2 (holds-register 12 p.a2 t1 (holds-register 11 p.a1 t holds)))))

  holds-answered : (o : Option ℤ) (t : Stopped) → Holds t → Holds (if_answered o t)
  holds-answered None t holds = holds
  holds-answered (Some answer) t holds = holds-register 10 (word_of answer) t holds

  holds-shown : (x : Tracing) (o : Option IdentityTable) → o ≡ None → (p : Pending) (t : Stopped) → Holds t → Holds (shown_to x.user o p (returned p t))
  holds-shown x None e p t holds = holds-answered p.answer (given_back p.passed t) (holds-back p.passed t holds)
  holds-shown x (Some table) e p t holds = absurd cc

  holds-begun : (x : Tracing) (t : Stopped) (o : Option IdentityTable) → o ≡ None → Holds t → Holds (begin_as x t o).1
  holds-begun x t None e holds = holds
  holds-begun x t (Some table) e holds = absurd cc

  holds-settled : (x : Tracing) (p : Pending) (t : Stopped) (b : Bool) → x.identities ≡ None → Holds t → Holds (cond b (begin_program x p t) (give_back x p t)).1
  holds-settled x p t true none holds = holds-begun _ t x.identities none holds
  holds-settled x p t false none holds = holds-shown x x.identities none p t holds

  holds-pending : (x : Tracing) (t : Stopped) (o : Option Pending) → x.identities ≡ None → Holds t → Holds (after_pending x t o).1
  holds-pending x t None none holds = holds
  holds-pending x t (Some p) none holds = holds-settled x p t (has_begun p t) none holds

  pub holds-exited : (x : Tracing) → x.identities ≡ None → (t : Stopped) → t.pid ≡ pid → K t.state → K (exited x t).1.state
  holds-exited x none t at state = (holds-pending (without_pending t.pid x) t (map.get x.pending t.pid) none (record { at = at; state = state })).state
