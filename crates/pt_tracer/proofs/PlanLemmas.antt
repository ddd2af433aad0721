-- Plans of calls that run programs.
use Rattle.std.proofs.Common.{◌≡◌, ◌≢◌, ◌∙◌, ℕ, Bool, true, false, List, Option, Some, None, Result, Ok, Err, refl, if◌then◌else◌, get_or, sym, ap, subst}
use Rattle.std.specs.Prelude.{IfOk}
use Rattle.law_steady.specs.pr_base.MountText.{MountText}
use Rattle.law_steady.specs.pr_base.declared.errno.Errno.{Errno}
use Rattle.pt_results.specs.rv_mem.Actions.{Action, carried_out}
use Rattle.pt_results.specs.rv_mem.declared.regs.Regs.{Regs}
use Rattle.law_steady.specs.pt_bind.Tags.{TagTable}
use Rattle.pt_results.specs.pt_canon.Leaving.{OnlyPeeks}
use Rattle.pt_results.specs.pt_canon.TextWalk.{TextSurroundings}
use Rattle.pt_results.specs.kr_calls.PathTable.{PathUse, path_at}
use Rattle.pt_results.specs.kr_calls.declared.request.Request.{Request}
use Rattle.pt_results.specs.kr_calls.declared.request.Request.TheVariants as call
use Rattle.pt_results.specs.pt_args.Edits.{first_of, first_reached, reached_by}
use Rattle.pt_results.specs.pt_args.Walks.{walked}
use Rattle.pt_results.specs.pt_args.declared.reached.Reached.{Reached}
use Rattle.pt_faker.specs.Stopping.{IsEdited, IsThere, memory_at, OnlyEdits, Stopped, with_memory}
use Rattle.pt_results.specs.pt_args.declared.edit.Edit.{Edit}
use Rattle.pt_results.specs.pt_args.declared.edit.Edit.TheVariants.{Cancel, Emulate, Pass, Swap}
use Rattle.pt_faker.specs.Reading.{lists_at}
use Rattle.pt_faker.specs.declared.lists.Handed.{Handed}
use Rattle.pt_script.specs.declared.expansion.Expanded.{Expanded}
use Rattle.pt_faker.specs.Carrying.{CarriesOut}
use Rattle.pt_faker.proofs.AuxiliaryLemmas.{other-test}
use Rattle.pt_faker.proofs.StopLemmas.{registers-stay}
use Rattle.pt_tracer.specs.Planning.{after_expansion, after_lists, after_path, answered, execve_plan, expand_with, is_swap, led_along, led_at, led_by, led_in, led_of, led_reached, nowhere, rewritten, script_plan, stack_at, texts_at}
use Rattle.pt_tracer.specs.declared.planning.ListAddresses.{ListAddresses}

-- what is done on memory leaves the stack pointer
pub stack-stays : {A : Type 0} (action : Action A) (reply : A) (t u : Stopped) → IsThere t → CarriesOut action reply t u → stack_at u ≡ stack_at t
stack-stays action reply t u there carries =
    ap stack_at carries.leaves ∙ ap (λ (regs : Regs). get_or regs.x 2 0) (registers-stay t there (carried_out action (memory_at t)).memory)

-- of what is answered
pub if_ok : {A E : Type 0} {P Q : A → Type 0} (r : Result A E) → ((x : A) → P x → Q x) → IfOk r P → IfOk r Q
if_ok (Ok x) f p = f x p
if_ok (Err e) f p = p

-- edits behind peeks
module _ {A B : Type 0} {stopped : A → Stopped} {around : A → B} {t u v : A} where
  pub peeks-then : OnlyPeeks stopped around t u → OnlyEdits stopped around u v → OnlyEdits stopped around t v
  peeks-then first second = record { edits = subst (λ (x : Stopped). IsEdited x (stopped v)) first.same second.edits; rest = second.rest ∙ first.rest }

-- what holds of a call whose texts are put on the shelf
pub swap-used : {P : Type 0} (edit made : Edit) → edit ≡ made → is_swap edit ≡ true → ((regs : List (ℕ × ℕ)) (pokes : List (ℕ × List ℕ)) → made ≡ Swap regs pokes → P) → P
swap-used {P = P} edit made is swaps used = by made (sym (ap is_swap is) ∙ swaps) used
  where
    by : (made : Edit) → is_swap made ≡ true → ((regs : List (ℕ × ℕ)) (pokes : List (ℕ × List ℕ)) → made ≡ Swap regs pokes → P) → P
    by (Swap regs pokes) e used = used regs pokes refl
    by Pass e used = absurd cc
    by (Cancel errno) e used = absurd cc
    by (Emulate pokes answer) e used = absurd cc

module _ (bindings : List MountText) (tags : TagTable) where
  -- a program behind scripts
  pub script-expanded : (edit : Edit) (args kept : ℕ) (t : Stopped) (e : Expanded) (r : Result Expanded Errno) → r ≡ Ok e → e.scripts ≢ 0 → after_expansion bindings tags edit args kept t r ≡ script_plan t args kept e
  script-expanded edit args kept t e r is some =
      ap (after_expansion bindings tags edit args kept t) is
      ∙ ap (λ b. if b then (record { edit = edit; led = led_in e.index }, t) else script_plan t args kept e) (other-test e.scripts some)

  -- lists that were read
  pub lists-expanded : (t u : Stopped) (r : Request) (path : List ℕ) (lists : ListAddresses) (edit : Edit) (handed : Handed) → edit ≡ rewritten (texts_at bindings tags t) t r → is_swap edit ≡ true → CarriesOut (lists_at lists.args lists.env) (Ok handed) t u
      → execve_plan bindings tags t r path lists ≡ expand_with bindings tags edit path lists.args handed u
  lists-expanded t u r path lists edit handed is swaps carries =
      let done = carried_out (lists_at lists.args lists.env) (memory_at t) in
      let led = led_of (texts_at bindings tags t) t.pid r in
      ap (after_path bindings tags t r path lists) (sym is)
      ∙ ap (λ b. if b then after_lists bindings tags edit led path lists.args done.reply (with_memory done.memory t) else (record { edit = edit; led = nowhere }, t)) swaps
      ∙ (λ k. after_lists bindings tags edit led path lists.args (carries.tells k) (sym carries.leaves k))

  -- lists that can't be read
  pub lists-refused : (t u : Stopped) (r : Request) (path : List ℕ) (lists : ListAddresses) (edit : Edit) (errno : Errno) → edit ≡ rewritten (texts_at bindings tags t) t r → is_swap edit ≡ true → CarriesOut (lists_at lists.args lists.env) (Err errno) t u
      → execve_plan bindings tags t r path lists ≡ (record { edit = edit; led = led_of (texts_at bindings tags t) t.pid r }, u)
  lists-refused t u r path lists edit errno is swaps carries =
      let done = carried_out (lists_at lists.args lists.env) (memory_at t) in
      let led = led_of (texts_at bindings tags t) t.pid r in
      ap (after_path bindings tags t r path lists) (sym is)
      ∙ ap (λ b. if b then after_lists bindings tags edit led path lists.args done.reply (with_memory done.memory t) else (record { edit = edit; led = nowhere }, t)) swaps
      ∙ (λ k. after_lists bindings tags edit led path lists.args (carries.tells k) (sym carries.leaves k))

-- ---- where the first path led

module _ (texts : TextSurroundings) (pid : ℕ) where
  led-reached : (opening : Bool) (o : Option PathUse) → led_reached (first_reached texts pid opening o) ≡ led_along texts pid opening o
  led-reached opening None = refl
  led-reached opening (Some u) = by (walked texts pid opening u)
    where
      by : (r : Result (Option Reached) Errno) → led_reached (reached_by r) ≡ led_by r
      by (Ok (Some reached)) = refl
      by (Ok None) = refl
      by (Err e) = refl

  -- it is told by the walk that was made for the edit
  pub led-first : (r : Request) → led_at r (first_of texts pid r) ≡ led_of texts pid r
  led-first (call.Openat dirfd path flags permissions) = led-reached true (path_at (call.Openat dirfd path flags permissions) 0)
  led-first (call.Chdir path) = led-reached false (path_at (call.Chdir path) 0)
  led-first (call.Chroot path) = led-reached false (path_at (call.Chroot path) 0)
  led-first (call.Execve path args env) = led-reached false (path_at (call.Execve path args env) 0)
  led-first _ = refl

  -- what is answered here leads nowhere
  pub answered-nowhere : (t : Stopped) (r : Request) (edit : Edit) → answered texts t r ≡ Some edit → led_of texts pid r ≡ nowhere
  answered-nowhere t (call.Openat dirfd path flags permissions) edit is = absurd cc
  answered-nowhere t (call.Chdir path) edit is = absurd cc
  answered-nowhere t (call.Chroot path) edit is = absurd cc
  answered-nowhere t (call.Execve path args env) edit is = absurd cc
  answered-nowhere t r edit is = refl
