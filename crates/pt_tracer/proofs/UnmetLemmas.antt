-- Whether the process directory is unmet behind what a tracer does at a first stop.
use Rattle.std.proofs.Common.{◌≡◌, ◌∙◌, ℕ, zero, suc, Bool, true, false, not, List, [], ◌∷◌, Option, Some, None, Result, Ok, Err, ℤ, if◌then◌else◌, refl, sym, ap, subst}
use Rattle.std.specs.Prelude.{OnOk}
use Rattle.law_steady.specs.pr_base.MountText.{MountText}
use Rattle.law_steady.specs.pr_base.declared.errno.Errno.{Errno}
use Rattle.law_steady.specs.pt_bind.Tags.{TagTable}
use Rattle.pt_results.specs.rv_mem.Actions.{carried_out}
use Rattle.pt_results.specs.pt_canon.TextWalk.{TextSurroundings}
use Rattle.pt_results.specs.pt_canon.declared.canon.Canon.{Canon}
use Rattle.pt_results.specs.kr_calls.Expansion.{is_script, most_scripts}
use Rattle.pt_results.specs.kr_calls.PathTable.{PathUse, path_at}
use Rattle.pt_results.specs.kr_calls.Scripts.{script_of}
use Rattle.pt_results.specs.kr_calls.declared.fault.CallFault.{CallFault}
use Rattle.pt_results.specs.kr_calls.declared.fault.CallFault.TheVariants as call_fault
use Rattle.pt_results.specs.kr_calls.declared.request.Request.{Request}
use Rattle.pt_results.specs.kr_calls.declared.request.Request.TheVariants as call
use Rattle.pt_results.specs.pt_args.Bases.{base_of, working_text}
use Rattle.pt_results.specs.pt_args.Plans.{plan_unmet, second_unmet, unmet_behind_first, unmet_on_first, unmet_on_second}
use Rattle.pt_results.specs.pt_args.Purposes.{opens}
use Rattle.pt_results.specs.pt_args.Walks.{unmet_along, unmet_by_base, walked, walked_unmet}
use Rattle.pt_results.specs.pt_args.declared.edit.Edit.{Edit}
use Rattle.pt_results.specs.pt_args.declared.reached.Reached.{Reached}
use Rattle.pt_results.specs.Answers.{link_unmet, unmet_behind_walk, unmet_on_path}
use Rattle.pt_script.specs.Expanding.{command_of, ends_unmet, expanded_unmet, interpreted, interpreted_unmet, unmet_behind, unmet_by_line, unmet_with}
use Rattle.pt_script.specs.Programs.{base_from, canon_from, program_from, program_unmet, unmet_at_canon, unmet_from_base}
use Rattle.pt_script.specs.declared.program.Program.{Program}
use Rattle.pt_faker.specs.Carrying.{AnswersAny, CarriesOut}
use Rattle.pt_faker.specs.Reading.{lists_at}
use Rattle.pt_faker.specs.Stopping.{after_request, decoded_at, memory_at, OnlyEdits, Stopped, lent, with_memory}
use Rattle.pt_faker.specs.declared.lists.Handed.{Handed}
use Rattle.pt_faker.specs.kr_stops.Editing.{Decodes}
use Rattle.pt_faker.specs.kr_stops.Stopped.{unmet_after}
use Rattle.pt_faker.specs.pt_ident.Identity.{Effect, Identity, effect}
use Rattle.pt_faker.specs.pt_ident.IdentityTable.{IdentityTable, identity_at}
use Rattle.pt_tracer.specs.Answering.{AnswersFaked}
use Rattle.pt_tracer.specs.Planning.{answered, answered_unmet, execve_unmet, is_swap, list_addresses, plan_for_unmet, planned_unmet, rewritten, texts_at, unmet_behind_lists, unmet_planned, unmet_unless}
use Rattle.pt_tracer.specs.Watched.{Tracing, asks, entry_unmet, unmet_behind_decoding, unmet_by_identities, unmet_unless_here}
use Rattle.pt_tracer.specs.declared.planning.ListAddresses.{ListAddresses}

-- what holds whatever is answered
pub always : {A E P : Type 0} (r : Result A E) → P → OnOk r P
always (Ok x) p = p
always (Err e) p = tt

-- ---- what is told beside what is lent

module _ {A B : Type 0} where
  -- edits note nothing
  pub lent-edits : {around : A → B × Bool} {stopped : A → Stopped} {t u : A} → OnlyEdits stopped around t u → OnlyEdits stopped (lent around) t u
  lent-edits edits = record { edits = edits.edits; rest = ap (λ (a : B × Bool). a.0) edits.rest }

  pub unmet-kept : (around : A → B × Bool) (unmet : A → Bool) → ((a : A) → (around a).1 ≡ unmet a) → (t u : A) → around u ≡ around t → unmet u ≡ unmet t
  unmet-kept around unmet told t u same = sym (told u) ∙ ap (λ (a : B × Bool). a.1) same ∙ told t

-- ---- once a name in it was looked up, it is met for good

module _ (texts : TextSurroundings) where
  walked-met : (pid : ℕ) (u : PathUse) → walked_unmet texts pid u false ≡ false
  walked-met pid u = by u.text
    where
      by_base : (r : Result (Option (List ℕ)) Errno) → unmet_by_base texts u r false ≡ false
      by_base (Ok None) = refl
      by_base (Ok (Some base)) = refl
      by_base (Err e) = refl

      by : (path : List ℕ) → unmet_along texts pid u path false ≡ false
      by [] = refl
      by (b ∷ path) = by_base (base_of texts pid u)

  second-met : (pid : ℕ) (r : Request) → second_unmet texts pid r false ≡ false
  second-met pid r = by (path_at r 1)
    where
      by : (o : Option PathUse) → unmet_on_second texts pid o false ≡ false
      by None = refl
      by (Some u) = walked-met pid u

  plan-met : (pid : ℕ) (r : Request) → plan_unmet texts pid r false ≡ false
  plan-met pid r = by (path_at r 0)
    where
      behind : (w : Result (Option Reached) Errno) → unmet_behind_first texts pid r w false ≡ false
      behind (Ok None) = refl
      behind (Ok (Some first)) = second-met pid r
      behind (Err e) = refl

      by : (o : Option PathUse) → unmet_on_first texts pid r o false ≡ false
      by None = refl
      by (Some u) = let w = walked texts pid (opens r) u in ap (unmet_behind_first texts pid r w) (walked-met pid u) ∙ behind w

  link-path-met : (pid : ℕ) (o : Option PathUse) → unmet_on_path texts pid o false ≡ false
  link-path-met pid None = refl
  link-path-met pid (Some u) = let w = walked texts pid false u in ap (unmet_behind_walk texts w) (walked-met pid u) ∙ behind w
    where
      behind : (w : Result (Option Reached) Errno) → unmet_behind_walk texts w false ≡ false
      behind (Ok None) = refl
      behind (Ok (Some reached)) = refl
      behind (Err e) = refl

  link-met : (pid : ℕ) (r : Request) → link_unmet texts pid r false ≡ false
  link-met pid (call.Readlinkat dirfd path buf size) = link-path-met pid (path_at (call.Readlinkat dirfd path buf size) 0)
  link-met pid _ = refl

  program-met : (working : Option (List ℕ)) (path : List ℕ) → program_unmet texts working path false ≡ false
  program-met working path = by (base_from working path)
    where
      at : (c : Result Canon Errno) → unmet_at_canon texts c false ≡ false
      at (Ok canon) = refl
      at (Err e) = refl

      by : (r : Result (List ℕ) Errno) → unmet_from_base texts path r false ≡ false
      by (Ok base) = at (canon_from texts path base)
      by (Err e) = refl

  interpreted-met : (working : Option (List ℕ)) (c : _) → interpreted_unmet texts working c false ≡ false
  interpreted-met working c = by (script_of c.program.head)
    where
      by : (o : Option (List ℕ × List ℕ)) → unmet_by_line texts working o false ≡ false
      by None = refl
      by (Some line) = program-met working line.0

  ends-met : (working : Option (List ℕ)) (env_bytes left : ℕ) (c : _) → ends_unmet texts working env_bytes left c false ≡ false
  unfolding ends_unmet
  ends-met working env_bytes zero c = refl
  ends-met working env_bytes (suc left) c = by (ends-met working env_bytes left) (is_script c.program.head)
    where
      behind : ((next : _) → ends_unmet texts working env_bytes left next false ≡ false) → (r : Result _ Errno) → unmet_behind (ends_unmet texts working env_bytes left) r false ≡ false
      behind later (Ok next) = later next
      behind later (Err e) = refl

      by : ((next : _) → ends_unmet texts working env_bytes left next false ≡ false) → (b : Bool)
          → (if b then unmet_behind (ends_unmet texts working env_bytes left) (interpreted texts working env_bytes c) (interpreted_unmet texts working c false) else false) ≡ false
      by later true = let next = interpreted texts working env_bytes c in ap (unmet_behind (ends_unmet texts working env_bytes left) next) (interpreted-met working c) ∙ behind later next
      by later false = refl

  expanded-met : (pid env_bytes : ℕ) (path : List ℕ) (args : List (List ℕ)) → expanded_unmet texts pid env_bytes path args false ≡ false
  expanded-met pid env_bytes path args =
      let working = working_text texts pid in
      let found = program_from texts working path in
      ap (unmet_with texts working env_bytes path args found) (program-met working path) ∙ by working found
    where
      by : (working : Option (List ℕ)) (r : Result Program Errno) → unmet_with texts working env_bytes path args r false ≡ false
      by working (Ok program) = ends-met working env_bytes most_scripts (command_of path args program)
      by working (Err e) = refl

  answered-met : (t : Stopped) (r : Request) → answered_unmet texts t r false ≡ false
  answered-met t (call.Readlinkat dirfd path buf size) = link-met t.pid (call.Readlinkat dirfd path buf size)
  answered-met t _ = refl

  plan-for-met : (t : Stopped) (r : Request) → plan_for_unmet texts t r false ≡ false
  plan-for-met t r = ap (unmet_unless texts t (answered texts t r) r) (answered-met t r) ∙ by (answered texts t r)
    where
      by : (o : Option Edit) → unmet_unless texts t o r false ≡ false
      by (Some edit) = refl
      by None = plan-met t.pid r

module _ (bindings : List MountText) (tags : TagTable) where
  execve-met : (t : Stopped) (r : Request) (path : List ℕ) (lists : ListAddresses) → execve_unmet bindings tags t r path lists false ≡ false
  execve-met t r path lists =
      let done = carried_out (lists_at lists.args lists.env) (memory_at t) in
      let swaps = is_swap (rewritten (texts_at bindings tags t) t r) in
      ap (λ b. if swaps then unmet_behind_lists bindings tags path done.reply (with_memory done.memory t) b else b) (plan-met (texts_at bindings tags t) t.pid r) ∙ by swaps done.reply (with_memory done.memory t)
    where
      behind : (h : Result Handed Errno) (u : Stopped) → unmet_behind_lists bindings tags path h u false ≡ false
      behind (Ok handed) u = expanded-met (texts_at bindings tags u) u.pid handed.env_bytes path handed.args
      behind (Err e) u = refl

      by : (b : Bool) (h : Result Handed Errno) (u : Stopped) → (if b then unmet_behind_lists bindings tags path h u false else false) ≡ false
      by true h u = behind h u
      by false h u = refl

  planned-met : (t : Stopped) (r : Request) → planned_unmet bindings tags t r false ≡ false
  planned-met t r = by (list_addresses r) (path_at r 0)
    where
      by : (l : Option ListAddresses) (o : Option PathUse) → unmet_planned bindings tags t r l o false ≡ false
      by None o = plan-for-met (texts_at bindings tags t) t r
      by (Some lists) None = plan-for-met (texts_at bindings tags t) t r
      by (Some lists) (Some u) = execve-met t r u.text lists

  -- ---- execve(2), once its lists were read

  pub lists-unmet : (t u : Stopped) (r : Request) (path : List ℕ) (lists : ListAddresses) (handed : Handed) (unmet : Bool) → is_swap (rewritten (texts_at bindings tags t) t r) ≡ true → CarriesOut (lists_at lists.args lists.env) (Ok handed) t u
      → execve_unmet bindings tags t r path lists unmet ≡ expanded_unmet (texts_at bindings tags u) u.pid handed.env_bytes path handed.args (plan_unmet (texts_at bindings tags t) t.pid r unmet)
  lists-unmet t u r path lists handed unmet swaps carries =
      let done = carried_out (lists_at lists.args lists.env) (memory_at t) in
      let before = plan_unmet (texts_at bindings tags t) t.pid r unmet in
      ap (λ b. if b then unmet_behind_lists bindings tags path done.reply (with_memory done.memory t) before else before) swaps
      ∙ (λ k. unmet_behind_lists bindings tags path (carries.tells k) (sym carries.leaves k) before)

  pub lists-lost-unmet : (t u : Stopped) (r : Request) (path : List ℕ) (lists : ListAddresses) (errno : Errno) (unmet : Bool) → is_swap (rewritten (texts_at bindings tags t) t r) ≡ true → CarriesOut (lists_at lists.args lists.env) (Err errno) t u
      → execve_unmet bindings tags t r path lists unmet ≡ plan_unmet (texts_at bindings tags t) t.pid r unmet
  lists-lost-unmet t u r path lists errno unmet swaps carries =
      let done = carried_out (lists_at lists.args lists.env) (memory_at t) in
      let before = plan_unmet (texts_at bindings tags t) t.pid r unmet in
      ap (λ b. if b then unmet_behind_lists bindings tags path done.reply (with_memory done.memory t) before else before) swaps
      ∙ (λ k. unmet_behind_lists bindings tags path (carries.tells k) (sym carries.leaves k) before)

  pub unswapped-unmet : (t : Stopped) (r : Request) (path : List ℕ) (lists : ListAddresses) (unmet : Bool) → is_swap (rewritten (texts_at bindings tags t) t r) ≡ false
      → execve_unmet bindings tags t r path lists unmet ≡ plan_unmet (texts_at bindings tags t) t.pid r unmet
  unswapped-unmet t r path lists unmet stays =
      let done = carried_out (lists_at lists.args lists.env) (memory_at t) in
      let before = plan_unmet (texts_at bindings tags t) t.pid r unmet in
      ap (λ b. if b then unmet_behind_lists bindings tags path done.reply (with_memory done.memory t) before else before) stays

-- ---- a whole entry

module _ (x : Tracing) (t : Stopped) where
  entry-met : entry_unmet x t false ≡ false
  entry-met = by (decoded_at t).reply
    where
      here : (r : Request) (u : Stopped) (e : Option Effect) → unmet_unless_here x r u e false ≡ false
      here r u None = planned-met x.bindings x.tags u r
      here r u (Some e) = refl

      told : (r : Request) (u : Stopped) (o : Option IdentityTable) → unmet_by_identities x r u o false ≡ false
      told r u None = planned-met x.bindings x.tags u r
      told r u (Some table) = here r u (effect (identity_at table u.pid) r)

      by : (r : Result Request Errno) → unmet_behind_decoding x (after_request t) r false ≡ false
      by (Ok r) = told r (after_request t) x.identities
      by (Err e) = refl

  pub entry-asks : (unmet : Bool) → entry_unmet x t unmet ≡ unmet_after (asks x t) unmet
  entry-asks true = by (entry_unmet x t true)
    where
      by : (b : Bool) → b ≡ unmet_after (not b) true
      by true = refl
      by false = refl
  entry-asks false = entry-met ∙ by (asks x t)
    where
      by : (b : Bool) → false ≡ unmet_after b false
      by true = refl
      by false = refl

  -- of a call that was read, and of one that can't be
  pub entered-noted : (u : Stopped) (r : Request) (old mid new : Bool) → mid ≡ old → u ≡ after_request t → Decodes t (Ok r) → new ≡ unmet_by_identities x r u x.identities mid → new ≡ entry_unmet x t old
  entered-noted u r old mid new kept after given noted =
      noted ∙ (λ i. unmet_by_identities x r (after i) x.identities (kept i)) ∙ ap (λ d. unmet_behind_decoding x (after_request t) d old) (sym given.0)

  pub refused-noted : (f : CallFault) (e : Errno) (old new : Bool) → f ≡ call_fault.Err e → Decodes t (Err f) → new ≡ old → new ≡ entry_unmet x t old
  refused-noted f e old new is given kept =
      let read : Decodes t (Err (call_fault.Err e)) = subst (λ (f : CallFault). Decodes t (Err f)) is given in
      kept ∙ ap (λ d. unmet_behind_decoding x (after_request t) d old) (sym read.0)

-- ---- with identities

module _ (x : Tracing) (r : Request) (t u : Stopped) (unmet : Bool) where
  -- a call that is answered here
  any-here : (i j : Identity) (e : Option Effect) (answer : ℤ) → AnswersAny i e (Some answer) j t u → unmet_unless_here x r t e unmet ≡ unmet
  any-here i j None answer answers = absurd answers
  any-here i j (Some e) answer answers = refl

  here-by : (o after : Option IdentityTable) (answer : ℤ) → AnswersFaked o r (Some answer) after t u → unmet_by_identities x r t o unmet ≡ unmet
  here-by None after answer answers = absurd (let no = answers.0 in cc)
  here-by (Some table) None answer answers = absurd answers
  here-by (Some table) (Some after) answer answers = any-here (identity_at table t.pid) answers.identity (effect (identity_at table t.pid) r) answer answers.answers

  pub here-unmet : (o after : Option IdentityTable) (told : Option ℤ) (answer : ℤ) → told ≡ Some answer → AnswersFaked o r told after t u → unmet_by_identities x r t o unmet ≡ unmet
  here-unmet o after told answer is answers = here-by o after answer (subst (λ told. AnswersFaked o r told after t u) is answers)

  -- any other
  any-planned : (i j : Identity) (e : Option Effect) → AnswersAny i e None j t u → planned_unmet x.bindings x.tags u r unmet ≡ unmet_unless_here x r t e unmet
  any-planned i j None answers = ap (λ s. planned_unmet x.bindings x.tags s r unmet) answers.1
  any-planned i j (Some e) answers = absurd answers

  planned-by : (o after : Option IdentityTable) → AnswersFaked o r None after t u → planned_unmet x.bindings x.tags u r unmet ≡ unmet_by_identities x r t o unmet
  planned-by None after answers = ap (λ s. planned_unmet x.bindings x.tags s r unmet) answers.2
  planned-by (Some table) None answers = absurd answers
  planned-by (Some table) (Some after) answers = any-planned (identity_at table t.pid) answers.identity (effect (identity_at table t.pid) r) answers.answers

  pub planned-unmet : (o after : Option IdentityTable) (told : Option ℤ) → told ≡ None → AnswersFaked o r told after t u → planned_unmet x.bindings x.tags u r unmet ≡ unmet_by_identities x r t o unmet
  planned-unmet o after told is answers = planned-by o after (subst (λ told. AnswersFaked o r told after t u) is answers)
