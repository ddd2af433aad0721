-- The plan of an execve(2) lasts: its path is rewritten alike, the same lists are read, and the scripts to which it leads end alike.
use Rattle.std.proofs.Common.{◌≡◌, ℕ, ◌-◌, Bool, true, false, List, length, Option, Result, Ok, Err, if◌then◌else◌, refl, sym, ap, subst, ◌∙◌}
use Rattle.std.specs.Prelude.{◌==◌}
use Rattle.std.proofs.lemmas.Bool.{false≢true}
use Rattle.pt_tracer.specs.pr_base.MountText.{MountText}
use Rattle.pt_tracer.specs.pr_base.declared.errno.Errno.{Errno}
use Rattle.pt_tracer.specs.rv_mem.Actions.{CarriedOut, carried_out}
use Rattle.pt_tracer.specs.rv_mem.Memory.{Memory}
use Rattle.pt_tracer.specs.pt_bind.Tags.{TagTable}
use Rattle.pt_tracer.specs.pt_canon.TextWalk.{TextSurroundings}
use Rattle.pt_tracer.specs.pt_args.Bases.{working_text}
use Rattle.pt_tracer.specs.pt_args.Plans.{plan_unmet}
use Rattle.pt_tracer.specs.pt_args.declared.edit.Edit.{Edit}
use Rattle.pt_tracer.specs.pt_args.declared.edit.Edit.TheVariants.{Cancel, Emulate, Pass, Swap}
use Rattle.pt_tracer.specs.pt_results.kr_calls.declared.request.Request.{Request}
use Rattle.pt_tracer.specs.pt_results.kr_calls.declared.request.Request.TheVariants as call
use Rattle.pt_tracer.specs.pt_script.Expanding.{expanded_at, expanded_from, expanded_unmet, unmet_from}
use Rattle.pt_tracer.specs.pt_script.declared.expansion.Expanded.{Expanded}
use Rattle.pt_tracer.specs.pt_faker.Reading.{addresses_behind, lists_at}
use Rattle.pt_tracer.specs.pt_faker.Stopping.{Stopped, memory_at, with_memory}
use Rattle.pt_tracer.specs.pt_faker.declared.lists.Handed.{Handed}
use Rattle.pt_tracer.specs.Planning.{after_addresses, after_expansion, after_lists, after_path, expand_with, is_swap, led_in, led_of, planned_unmet, rewritten, script_plan, texts_at, unmet_behind_lists}
use Rattle.pt_tracer.specs.ScriptEdit.{put_texts, script_edit}
use Rattle.pt_tracer.specs.Watched.{is_execve}
use Rattle.pt_tracer.specs.declared.plan.Led.{Led}
use Rattle.pt_tracer.specs.declared.plan.Plan.{Plan}
use Rattle.law_entries.specs.Lasting.{ExecvePlansLast, PlanLasts, SameTags, StaysAt}
use Rattle.law_entries.proofs.BeginLemmas.{working-same}
use Rattle.law_entries.proofs.ExecveScripts.{ToldAgain, expanded-again, expanded-met, still-unmet, told-again}
use Rattle.law_entries.proofs.PlanLemmas.{led-again, rewritten-again, stack-same}
use Rattle.law_entries.proofs.StayLemmas.{memory-same, stays-memory}
use Rattle.law_entries.proofs.WalkLemmas.{plan-again}

-- what comes of a plan in both: the plan, what is left of the process, and whether the process directory is unmet in the second
record PlansAlike (pid : ℕ) (here there : Plan × Stopped) (unmet : Bool) : Type 0 where
  pub plan : there.0 ≡ here.0
  pub stopped : StaysAt true pid here.1 there.1
  pub unmet_there : unmet ≡ true

moved : (pid : ℕ) (here there later : Plan × Stopped) (unmet now : Bool) → later ≡ there → now ≡ unmet → PlansAlike pid here there unmet → PlansAlike pid here later now
moved pid here there later unmet now same told alike = record {
  plan = ap (λ (p : Plan × Stopped). p.0) same ∙ alike.plan;
  stopped = subst (λ (p : Plan × Stopped). StaysAt true pid here.1 p.1) (sym same) alike.stopped;
  unmet_there = told ∙ alike.unmet_there;
}

-- a plan for a process that is left as it is
abbrev plan-in : Edit → ℕ → Stopped → Plan × Stopped
plan-in edit index t = (record { edit = edit; led = led_in index }, t)

-- ---- once the lists were read

module _ (bindings : List MountText) (tags more : TagTable) (pid : ℕ) (t u : Stopped) (at : StaysAt true pid t u) (same : SameTags pid tags more) where
  abbrev Alike : Plan × Stopped → Plan × Stopped → Bool → Type 0
  Alike here there unmet = PlansAlike pid here there unmet

  abbrev here_texts : TextSurroundings
  here_texts = texts_at bindings tags t

  abbrev there_texts : TextSurroundings
  there_texts = texts_at bindings more u

  kept-memory : memory_at u ≡ memory_at t
  kept-memory = memory-same true pid t u at

  -- the arguments that are kept
  addresses-again : (e : Expanded) (kept : ℕ) (reply : Result (List ℕ) Errno) → after_addresses u e kept reply ≡ after_addresses t e kept reply
  addresses-again e kept (Ok addresses) =
      let put : ℕ → Plan = λ sp. record { edit = script_edit sp e.host (put_texts kept e.args) addresses; led = led_in e.index } in
      ap put (stack-same true bindings tags more pid t u at same)
  addresses-again e kept (Err errno) = refl

  script-again : (args kept : ℕ) (e : Expanded) → Alike (script_plan t args kept e) (script_plan u args kept e) true
  script-again args kept e =
      let plan : Memory → Plan = λ (m : Memory). after_addresses u e kept (carried_out (addresses_behind args kept) m).reply in
      let left : Memory → Memory = λ (m : Memory). (carried_out (addresses_behind args kept) m).memory in
      record {
        plan = ap plan kept-memory ∙ addresses-again e kept (carried_out (addresses_behind args kept) (memory_at t)).reply;
        stopped = stays-memory true pid t u at (left (memory_at t)) (left (memory_at u)) (ap left kept-memory);
        unmet_there = refl;
      }

  ended-again : (edit : Edit) (args kept : ℕ) (r : Result Expanded Errno) → Alike (after_expansion bindings tags edit args kept t r) (after_expansion bindings more edit args kept u r) true
  ended-again edit args kept (Err errno) = record { plan = refl; stopped = at; unmet_there = refl }
  ended-again edit args kept (Ok e) = by (e.scripts == 0)
    where
      by : (b : Bool) → Alike (if b then plan-in edit e.index t else script_plan t args kept e) (if b then plan-in edit e.index u else script_plan u args kept e) true
      by true = record { plan = refl; stopped = at; unmet_there = refl }
      by false = script-again args kept e

  told : ToldAgain here_texts there_texts
  told = told-again bindings t.state u.state t.pid u.pid tags more at.stays.shape (at.stays.bytes refl)

  handed-again : (edit : Edit) (path : List ℕ) (args : ℕ) (handed : Handed) → expanded_unmet here_texts t.pid handed.env_bytes path handed.args true ≡ true
      → Alike (expand_with bindings tags edit path args handed t) (expand_with bindings more edit path args handed u) (expanded_unmet there_texts u.pid handed.env_bytes path handed.args true)
  handed-again edit path args handed h =
      let here : Option (List ℕ) = working_text here_texts t.pid in
      let works : working_text there_texts u.pid ≡ here = working-same true bindings tags more pid t u at same in
      let comes = expanded-again here_texts there_texts told here handed.env_bytes path handed.args h in
      let ended : Result Expanded Errno = expanded_at here_texts t.pid handed.env_bytes path handed.args in
      let ends : expanded_at there_texts u.pid handed.env_bytes path handed.args ≡ ended = ap (λ (w : Option (List ℕ)). expanded_from there_texts w handed.env_bytes path handed.args) works ∙ comes.same in
      let unmet : expanded_unmet there_texts u.pid handed.env_bytes path handed.args true ≡ true = ap (λ (w : Option (List ℕ)). unmet_from there_texts w handed.env_bytes path handed.args true) works ∙ comes.unmet_there in
      let kept : ℕ = length handed.args - 1 in
      moved pid (after_expansion bindings tags edit args kept t ended) (after_expansion bindings more edit args kept u ended) (expand_with bindings more edit path args handed u) true
      (expanded_unmet there_texts u.pid handed.env_bytes path handed.args true) (ap (after_expansion bindings more edit args kept u) ends) unmet (ended-again edit args kept ended)

  lists-again : (edit : Edit) (led : Led) (path : List ℕ) (args : ℕ) (reply : Result Handed Errno) → unmet_behind_lists bindings tags path reply t true ≡ true
      → Alike (after_lists bindings tags edit led path args reply t) (after_lists bindings more edit led path args reply u) (unmet_behind_lists bindings more path reply u true)
  lists-again edit led path args (Ok handed) h = handed-again edit path args handed h
  lists-again edit led path args (Err errno) h = record { plan = refl; stopped = at; unmet_there = refl }

  lists-met : (path : List ℕ) (reply : Result Handed Errno) → unmet_behind_lists bindings tags path reply t false ≡ false
  lists-met path (Ok handed) = expanded-met here_texts (working_text here_texts t.pid) handed.env_bytes path handed.args
  lists-met path (Err errno) = refl

-- ---- the whole call

module _ (bindings : List MountText) (tags more : TagTable) (pid : ℕ) (t u : Stopped) (at : StaysAt true pid t u) (same : SameTags pid tags more) (path : List ℕ) (args env : ℕ) where
  abbrev r : Request
  r = call.Execve path args env

  abbrev texts_here : TextSurroundings
  texts_here = texts_at bindings tags t

  abbrev texts_there : TextSurroundings
  texts_there = texts_at bindings more u

  -- what is read of the lists, of a memory
  abbrev read : Memory → CarriedOut (Result Handed Errno)
  read m = carried_out (lists_at args env) m

  -- whether the process directory is unmet behind an edit of the path
  abbrev behind-edit : TagTable → Edit → CarriedOut (Result Handed Errno) → Stopped → Bool → Bool
  behind-edit known edit done s walked = if is_swap edit then unmet_behind_lists bindings known path done.reply (with_memory done.memory s) walked else walked

  edit-met : (edit : Edit) → behind-edit tags edit (read (memory_at t)) t false ≡ false
  edit-met edit = by (is_swap edit)
    where
      reached : StaysAt true pid (with_memory (read (memory_at t)).memory t) (with_memory (read (memory_at t)).memory u)
      reached = stays-memory true pid t u at (read (memory_at t)).memory (read (memory_at t)).memory refl

      by : (b : Bool) → (if b then unmet_behind_lists bindings tags path (read (memory_at t)).reply (with_memory (read (memory_at t)).memory t) false else false) ≡ false
      by true = lists-met bindings tags more pid (with_memory (read (memory_at t)).memory t) (with_memory (read (memory_at t)).memory u) reached same path (read (memory_at t)).reply
      by false = refl

  -- a path that is swapped, where it leads to the same
  swap-again : (regs : List (ℕ × ℕ)) (pokes : List (ℕ × List ℕ)) → led_of texts_there u.pid r ≡ led_of texts_here t.pid r → behind-edit tags (Swap regs pokes) (read (memory_at t)) t true ≡ true
      → PlansAlike pid (after_path bindings tags t r path (record { args = args; env = env }) (Swap regs pokes)) (after_path bindings more u r path (record { args = args; env = env }) (Swap regs pokes))
      (behind-edit more (Swap regs pokes) (read (memory_at u)) u true)
  swap-again regs pokes leads h =
      let kept : memory_at u ≡ memory_at t = memory-same true pid t u at in
      let done : CarriedOut (Result Handed Errno) = read (memory_at t) in
      let reached : StaysAt true pid (with_memory done.memory t) (with_memory done.memory u) = stays-memory true pid t u at done.memory done.memory refl in
      let led : Led = led_of texts_here t.pid r in
      let alike = lists-again bindings tags more pid (with_memory done.memory t) (with_memory done.memory u) reached same (Swap regs pokes) led path args done.reply h in
      let there : Memory → Led → Plan × Stopped = λ (m : Memory) (l : Led). after_lists bindings more (Swap regs pokes) l path args (read m).reply (with_memory (read m).memory u) in
      let unmet : Memory → Bool = λ (m : Memory). unmet_behind_lists bindings more path (read m).reply (with_memory (read m).memory u) true in
      moved pid (after_lists bindings tags (Swap regs pokes) led path args done.reply (with_memory done.memory t)) (there (memory_at t) led) (there (memory_at u) (led_of texts_there u.pid r)) (unmet (memory_at t)) (unmet (memory_at u))
      (λ j. there (kept j) (leads j)) (ap unmet kept) alike

  edit-again : (edit : Edit) → led_of texts_there u.pid r ≡ led_of texts_here t.pid r → behind-edit tags edit (read (memory_at t)) t true ≡ true
      → PlansAlike pid (after_path bindings tags t r path (record { args = args; env = env }) edit) (after_path bindings more u r path (record { args = args; env = env }) edit) (behind-edit more edit (read (memory_at u)) u true)
  edit-again Pass leads h = record { plan = refl; stopped = at; unmet_there = refl }
  edit-again (Swap regs pokes) leads h = swap-again regs pokes leads h
  edit-again (Cancel e) leads h = record { plan = refl; stopped = at; unmet_there = refl }
  edit-again (Emulate pokes answer) leads h = record { plan = refl; stopped = at; unmet_there = refl }

  lasts : planned_unmet bindings tags t r true ≡ true → PlanLasts true bindings tags more pid t u r
  lasts h =
      let edit : Edit = rewritten texts_here t r in
      let walked : plan_unmet texts_here t.pid r true ≡ true = still-unmet (behind-edit tags edit (read (memory_at t)) t) (edit-met edit) (plan_unmet texts_here t.pid r true) h in
      let again = plan-again true bindings tags more pid t u at same r walked in
      let edits : rewritten texts_there u r ≡ edit = rewritten-again true bindings tags more pid t u at same r walked in
      let leads : led_of texts_there u.pid r ≡ led_of texts_here t.pid r = led-again true bindings tags more pid t u at same r walked in
      let first = edit-again edit leads (sym (ap (behind-edit tags edit (read (memory_at t)) t) walked) ∙ h) in
      let there : Edit → Plan × Stopped = after_path bindings more u r path (record { args = args; env = env }) in
      let met : planned_unmet bindings more u r true ≡ behind-edit more edit (read (memory_at u)) u true = λ j. behind-edit more (edits j) (read (memory_at u)) u (again.unmet_there j) in
      let all = moved pid (after_path bindings tags t r path (record { args = args; env = env }) edit) (there edit) (there (rewritten texts_there u r)) (behind-edit more edit (read (memory_at u)) u true)
      (planned_unmet bindings more u r true) (ap there edits) met first in
      record { plan = all.plan; stopped = all.stopped; unmet = all.unmet_there }

-- what holds of each execve(2) holds of each request that is one
of-execve : (P : Request → Type 0) → ((path : List ℕ) (args env : ℕ) → P (call.Execve path args env)) → (r : Request) → is_execve r ≡ true → P r
of-execve P each (call.Execve path args env) runs = each path args env
of-execve P each _ runs = absurd (false≢true runs)

pub execve-plans-last : ExecvePlansLast
execve-plans-last bindings tags more pid t u r runs at same unmet =
    of-execve (λ (r : Request). planned_unmet bindings tags t r true ≡ true → PlanLasts true bindings tags more pid t u r) (λ path args env h. lasts bindings tags more pid t u at same path args env h) r runs unmet
