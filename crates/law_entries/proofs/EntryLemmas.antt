-- A first stop without an identity is made again in a state in which the caller is what it was, where it looked up no name in the process directory.
use Rattle.std.specs.FinMap as map
use Rattle.std.proofs.Common.{◌≡◌, ℕ, Bool, true, false, not, ◌&&◌, cond, List, [], ◌∷◌, length, Option, Some, None, Result, Ok, Err, refl, sym, ap, subst, ◌∙◌}
use Rattle.std.specs.Prelude.{◌==◌}
use Rattle.std.specs.Ordering.{nat_cmp}
use Rattle.pt_tracer.specs.pr_base.MountText.{MountText}
use Rattle.pt_tracer.specs.pr_base.declared.errno.Errno.{Errno}
use Rattle.pt_tracer.specs.pr_base.declared.errno.Errno.TheVariants.{EFAULT}
use Rattle.pt_tracer.proofs.pr_base.MapLemmas.{get-insert_same, get-remove_same}
use Rattle.pt_tracer.specs.rv_mem.Actions.{CarriedOut}
use Rattle.pt_tracer.specs.rv_mem.Memory.{Memory, with_pages}
use Rattle.pt_tracer.specs.rv_mem.Pages.{allows_all, written}
use Rattle.pt_tracer.specs.rv_mem.declared.rights.Use.TheVariants.{Write}
use Rattle.pt_tracer.specs.pt_results.kr_calls.Arguments.{number}
use Rattle.pt_tracer.specs.pt_results.kr_calls.CallTable.{line}
use Rattle.pt_tracer.specs.pt_results.kr_calls.Decoding.{Decoded}
use Rattle.pt_tracer.specs.pt_results.kr_calls.declared.request.Request.{Request}
use Rattle.pt_tracer.specs.pt_results.kr_calls.declared.request.Request.TheVariants as call
use Rattle.kr_loose.proofs.kr_turns.kr_calls.DecodingLemmas.{decoded_are_numbered}
use Rattle.pt_tracer.specs.pt_args.declared.edit.Edit.{Edit}
use Rattle.pt_tracer.specs.pt_args.declared.edit.Edit.TheVariants.{Cancel, Emulate, Pass, Swap}
use Rattle.pt_tracer.specs.pt_faker.Faking.{no_call, no_longer_called}
use Rattle.pt_tracer.specs.pt_faker.Stopping.{after_poke, after_request, decoded_at, memory_at, with_register}
use Rattle.pt_tracer.specs.pt_ident.IdentityTable.{IdentityTable}
use Rattle.pt_tracer.specs.Planning.{planned, planned_unmet}
use Rattle.pt_tracer.specs.Poking.{may_poke, poked}
use Rattle.pt_tracer.specs.Registers.{arguments_at, is_register, with_argument, with_arguments}
use Rattle.pt_tracer.specs.Watched.{Applied, Tracing, after_decoding, after_plan, applied, awaiting, by_identities, entered, entry_unmet, is_execve, refused, unmet_behind_decoding, unmet_by_identities}
use Rattle.pt_tracer.specs.declared.pending.Pending.{Pending}
use Rattle.pt_tracer.specs.declared.plan.Plan.{Plan}
use Rattle.kr_loose.specs.kr_core.Moving.{calls_execve}
use Rattle.kr_loose.specs.kr_model.State.{Image, State}
use Rattle.kr_loose.specs.kr_stops.Stopped.{Stopped, image_at, image_in}
use Rattle.kr_loose.specs.kr_turns.Turn.{calling}
use Rattle.law_entries.specs.Lasting.{EntriesLast, ExecvePlansLast, GoesBySame, PlanLasts, StaysAt}
use Rattle.law_entries.proofs.PlanLemmas.{plans-last}
use Rattle.law_entries.proofs.StayLemmas.{decoded-same, image-again, image-stays, memory-same, register-same, stays-computed, stays-memory, stays-register, stays-request}

-- ---- what is done to the process

-- the same answer, and the process is left as it is left
record IsAppliedAgain (exec : Bool) (pid : ℕ) (a b : Applied) : Type 0 where
  answer : b.answer ≡ a.answer
  stopped : StaysAt exec pid a.stopped b.stopped

module _ (exec : Bool) (pid : ℕ) where
  pokes-alike : (ps : List (ℕ × List ℕ)) (t u : Stopped) → StaysAt exec pid t u → may_poke ps u ≡ may_poke ps t
  pokes-alike [] t u at = refl
  pokes-alike (p ∷ ps) t u at =
      let memories : memory_at u ≡ memory_at t = memory-same exec pid t u at in
      let rest : may_poke ps u ≡ may_poke ps t = pokes-alike ps t u at in
      λ j. allows_all (memories j).pages p.0 (length p.1) Write && rest j

  stays-poked : (ps : List (ℕ × List ℕ)) (t u : Stopped) → StaysAt exec pid t u → StaysAt exec pid (poked ps t) (poked ps u)
  stays-poked [] t u at = at
  stays-poked (p ∷ ps) t u at =
      stays-poked ps (after_poke p.0 p.1 t) (after_poke p.0 p.1 u)
      (stays-memory exec pid t u at (with_pages (memory_at t) (written (memory_at t).pages p.0 p.1)) (with_pages (memory_at u) (written (memory_at u).pages p.0 p.1))
      (ap (λ (m : Memory). with_pages m (written m.pages p.0 p.1)) (memory-same exec pid t u at)))

  stays-argument : (p : ℕ × ℕ) (t u : Stopped) → StaysAt exec pid t u → StaysAt exec pid (with_argument p t) (with_argument p u)
  stays-argument p t u at = by (is_register p.0)
    where
      by : (b : Bool) → StaysAt exec pid (cond b (with_register p.0 p.1 t) t) (cond b (with_register p.0 p.1 u) u)
      by true = stays-register exec pid t u at p.0 p.1 p.1 refl
      by false = at

  stays-arguments : (ps : List (ℕ × ℕ)) (t u : Stopped) → StaysAt exec pid t u → StaysAt exec pid (with_arguments ps t) (with_arguments ps u)
  stays-arguments [] t u at = at
  stays-arguments (p ∷ ps) t u at = stays-arguments ps (with_argument p t) (with_argument p u) (stays-argument p t u at)

  stays-uncalled : (t u : Stopped) → StaysAt exec pid t u → StaysAt exec pid (no_longer_called t) (no_longer_called u)
  stays-uncalled t u at = stays-register exec pid t u at 17 no_call no_call refl

  refused-again : (e : Errno) (t u : Stopped) → StaysAt exec pid t u → IsAppliedAgain exec pid (refused e t) (refused e u)
  refused-again e t u at = record { answer = refl; stopped = stays-uncalled t u at }

  -- where bytes may be put
  put-again : (ps : List (ℕ × List ℕ)) (t u : Stopped) (a b : Applied) → StaysAt exec pid t u → IsAppliedAgain exec pid a b
      → IsAppliedAgain exec pid (cond (may_poke ps t) a (refused EFAULT t)) (cond (may_poke ps u) b (refused EFAULT u))
  put-again ps t u a b at again =
      subst (λ (may : Bool). IsAppliedAgain exec pid (cond (may_poke ps t) a (refused EFAULT t)) (cond may b (refused EFAULT u))) (sym (pokes-alike ps t u at)) (by (may_poke ps t))
    where
      by : (may : Bool) → IsAppliedAgain exec pid (cond may a (refused EFAULT t)) (cond may b (refused EFAULT u))
      by true = again
      by false = refused-again EFAULT t u at

  applied-again : (e : Edit) (t u : Stopped) → StaysAt exec pid t u → IsAppliedAgain exec pid (applied e t) (applied e u)
  applied-again Pass t u at = record { answer = refl; stopped = at }
  applied-again (Swap regs pokes) t u at =
      put-again pokes t u (record { answer = None; stopped = with_arguments regs (poked pokes t) }) (record { answer = None; stopped = with_arguments regs (poked pokes u) }) at
      (record { answer = refl; stopped = stays-arguments regs (poked pokes t) (poked pokes u) (stays-poked pokes t u at) })
  applied-again (Cancel e) t u at = refused-again e t u at
  applied-again (Emulate pokes answer) t u at =
      put-again pokes t u (record { answer = Some answer; stopped = no_longer_called (poked pokes t) }) (record { answer = Some answer; stopped = no_longer_called (poked pokes u) }) at
      (record { answer = refl; stopped = stays-uncalled (poked pokes t) (poked pokes u) (stays-poked pokes t u at) })

arguments-same : (exec : Bool) (pid : ℕ) (t u : Stopped) → StaysAt exec pid t u → arguments_at u ≡ arguments_at t
arguments-same exec pid t u at =
    λ j. record {
      a1 = register-same exec pid t u at 11 j;
      a2 = register-same exec pid t u at 12 j;
      a3 = register-same exec pid t u at 13 j;
      a4 = register-same exec pid t u at 14 j;
      a5 = register-same exec pid t u at 15 j;
      a7 = register-same exec pid t u at 17 j;
    }

-- ---- what is kept of it

-- a first stop that was made in both
record IsEnteredAgain (pid : ℕ) (a b : Tracing × Stopped) (unmet : Bool) : Type 0 where
  image : image_in pid b.1.state ≡ image_in pid a.1.state
  pending : map.get b.0.pending pid ≡ map.get a.0.pending pid
  unmet_there : unmet ≡ true

put-there : (m : map.FinMap nat_cmp Pending) (k pid : ℕ) (p : Pending) → k ≡ pid → map.get (map.insert m k p) pid ≡ Some p
put-there m k pid p is = ap (map.get (map.insert m k p)) (sym is) ∙ get-insert_same m k p

gone-there : (m : map.FinMap nat_cmp Pending) (k pid : ℕ) → k ≡ pid → map.get (map.remove m k) pid ≡ None
gone-there m k pid is = ap (map.get (map.remove m k)) (sym is) ∙ get-remove_same m k

-- a call of this number is execve(2)
execve-number : (r : Request) → is_execve r ≡ true → (line r).number ≡ 221
execve-number (call.Execve path args env) is = refl
execve-number _ is = absurd cc

module _ (execves : ExecvePlansLast) (exec : Bool) (x y : Tracing) (pid : ℕ) (goes : GoesBySame pid x y) where
  plan-lasts : (t u : Stopped) (r : Request) → (is_execve r ≡ true → exec ≡ true) → StaysAt exec pid t u → planned_unmet x.bindings x.tags t r true ≡ true → PlanLasts exec x.bindings x.tags y.tags pid t u r
  plan-lasts t u r told at steady = by (is_execve r) refl
    where
      by : (b : Bool) → is_execve r ≡ b → PlanLasts exec x.bindings x.tags y.tags pid t u r
      by false is = plans-last exec x.bindings x.tags y.tags pid t u r is at goes.tags steady
      by true is =
          subst (λ (e : Bool). StaysAt e pid t u → PlanLasts e x.bindings x.tags y.tags pid t u r) (sym (told is))
          (λ at. execves x.bindings x.tags y.tags pid t u r is at goes.tags steady) at

  plan-entered : (t u : Stopped) (r : Request) (p q : Plan × Stopped) → StaysAt exec pid t u → q.0 ≡ p.0 → StaysAt exec pid p.1 q.1 → (unmet : Bool) → unmet ≡ true
      → IsEnteredAgain pid (after_plan x t r p) (after_plan y u r q) unmet
  plan-entered t u r p q at same left unmet told =
      let done : IsAppliedAgain exec pid (applied p.0.edit p.1) (applied q.0.edit q.1) =
      subst (λ (e : Edit). IsAppliedAgain exec pid (applied p.0.edit p.1) (applied e q.1)) (sym (ap (λ (plan : Plan). plan.edit) same)) (applied-again exec pid p.0.edit p.1 q.1 left)
      in
      let passed : arguments_at u ≡ arguments_at t = arguments-same exec pid t u at in
      record {
        image = image-stays exec pid (applied p.0.edit p.1).stopped.state (applied q.0.edit q.1).stopped.state done.stopped.stays;
        pending =
            put-there y.pending u.pid pid (awaiting (arguments_at u) r q.0.led (applied q.0.edit q.1).answer) at.second
            ∙ (λ j. Some (awaiting (passed j) r (same j).led (done.answer j)))
            ∙ sym (put-there x.pending t.pid pid (awaiting (arguments_at t) r p.0.led (applied p.0.edit p.1).answer) at.first);
        unmet_there = told;
      }

  call-entered : (t u : Stopped) (r : Request) → (is_execve r ≡ true → exec ≡ true) → StaysAt exec pid t u → (o p : Option IdentityTable) → o ≡ None → p ≡ None → unmet_by_identities x r t o true ≡ true
      → IsEnteredAgain pid (by_identities x r t o) (by_identities y r u p) (unmet_by_identities y r u p true)
  call-entered t u r told at None None e f steady =
      let lasts = plan-lasts t u r told at steady in
      let plan : (planned y.bindings y.tags u r).0 ≡ (planned x.bindings x.tags t r).0 = ap (λ (b : List MountText). (planned b y.tags u r).0) goes.bindings ∙ lasts.plan in
      let left : StaysAt exec pid (planned x.bindings x.tags t r).1 (planned y.bindings y.tags u r).1 =
      subst (λ (b : List MountText). StaysAt exec pid (planned x.bindings x.tags t r).1 (planned b y.tags u r).1) (sym goes.bindings) lasts.stopped
      in
      plan-entered t u r (planned x.bindings x.tags t r) (planned y.bindings y.tags u r) at plan left (planned_unmet y.bindings y.tags u r true)
      (ap (λ (b : List MountText). planned_unmet b y.tags u r true) goes.bindings ∙ lasts.unmet)
  call-entered t u r told at None (Some table) e f steady = absurd cc
  call-entered t u r told at (Some table) p e f steady = absurd cc

  entered-again : (t u : Stopped) → StaysAt exec pid t u → ((r : Request) → (decoded_at t).reply ≡ Ok r → is_execve r ≡ true → exec ≡ true) → entry_unmet x t true ≡ true
      → IsEnteredAgain pid (entered x t) (entered y u) (entry_unmet y u true)
  entered-again t u at told steady =
      subst (λ (d : Result Request Errno). IsEnteredAgain pid (entered x t) (after_decoding y (after_request u) d) (unmet_behind_decoding y (after_request u) d true))
      (sym (ap (λ (done : CarriedOut Decoded). done.reply) (decoded-same exec pid t u at))) (by (decoded_at t).reply refl steady)
    where
      later : StaysAt exec pid (after_request t) (after_request u)
      later = stays-request exec pid t u at

      by : (d : Result Request Errno) → (decoded_at t).reply ≡ d → unmet_behind_decoding x (after_request t) d true ≡ true
          → IsEnteredAgain pid (after_decoding x (after_request t) d) (after_decoding y (after_request u) d) (unmet_behind_decoding y (after_request u) d true)
      by (Ok r) is steady = call-entered (after_request t) (after_request u) r (told r is) later x.identities y.identities goes.none goes.also_none steady
      by (Err e) is steady = record {
        image = image-stays exec pid (after_request t).state (after_request u).state later.stays;
        pending = gone-there y.pending u.pid pid at.second ∙ sym (gone-there x.pending t.pid pid at.first);
        unmet_there = refl;
      }

-- ---- a process that comes to its call

unmet-asks : (b : Bool) → not b ≡ false → b ≡ true
unmet-asks true e = refl
unmet-asks false e = absurd cc

-- whether it calls execve(2) is told by its registers
calling-told : (pid : ℕ) (s : State ℕ Image) (r : Request) → (decoded_at (calling 0 pid s)).reply ≡ Ok r → is_execve r ≡ true → calls_execve pid s ≡ true
calling-told pid s r given is =
    let own : image_at (calling 0 pid s) ≡ image_in pid s = image-again pid s in
    let same : (line r).number ≡ number (image_at (calling 0 pid s)).regs = decoded_are_numbered (image_at (calling 0 pid s)).regs (image_at (calling 0 pid s)).memory r given in
    ap (λ n. n == 221) (sym (ap (λ (image : Image). number image.regs) own) ∙ sym same ∙ execve-number r is)

pub entries-last : ExecvePlansLast → EntriesLast
entries-last execves x y pid s t goes stays quiet =
    let exec : Bool = calls_execve pid s in
    let images : image_in pid t ≡ image_in pid s = image-stays exec pid s t stays in
    let at : StaysAt exec pid (calling 0 pid s) (calling 0 pid t) = record {
      first = refl;
      second = refl;
      stays =
          stays-computed exec pid s t stays pid pid (image_in pid s).regs (image_in pid t).regs (image_in pid s).memory (image_in pid t).memory refl refl
          (ap (λ (image : Image). image.regs) images) (ap (λ (image : Image). image.memory) images);
    } in
    let again = entered-again execves exec x y pid goes (calling 0 pid s) (calling 0 pid t) at (calling-told pid s) (unmet-asks (entry_unmet x (calling 0 pid s) true) quiet) in
    record { image = again.image; pending = again.pending; asks = ap not again.unmet_there }
