-- Execve(2) keeps both machines together.
use Rattle.std.proofs.Common.{◌≡◌, ◌≢◌, ◌≤◌, ℕ, Bool, true, false, cond, ◌||◌, List, [], ◌∷◌, length, nat_lt, Option, Some, Result, Ok, Err, refl, sym, ap, subst, ◌∙◌, arith, ◌-◌, get_or}
use Rattle.std.specs.Prelude.{IsSome, ◌==◌}
use Rattle.std.specs.Option.{option_map_or}
use Rattle.std.proofs.lemmas.Bool.Decides.{nat_tests}
use Rattle.law_programs.specs.pr_base.declared.errno.Errno.{Errno}
use Rattle.law_programs.specs.pr_base.declared.errno.Errno.TheVariants.{EACCES, ENAMETOOLONG, ENOENT}
use Rattle.law_programs.specs.pr_base.declared.path.WalkMode.TheVariants.{Look}
use Rattle.law_programs.specs.rv_mem.Actions.{AreEqualUnmarked, CarriedOut, Done, carried_out}
use Rattle.law_programs.specs.rv_mem.Memory.{Memory}
use Rattle.law_programs.specs.rv_mem.Pages.{IsPlaced, Pages}
use Rattle.law_programs.specs.rv_mem.declared.regs.Regs.{Regs}
use Rattle.law_programs.proofs.rv_mem.ActionLemmas.{reads_alike}
use Rattle.law_stops.specs.pt_args.Bases.{working_text}
use Rattle.law_stops.specs.pt_args.Walks as traced_walks
use Rattle.law_stops.specs.pt_args.Laws.{IsPathText, ShelvesHoldTheirItems, TextsAreReadBack, poked}
use Rattle.law_stops.specs.pt_args.declared.edit.Edit.{Edit}
use Rattle.law_stops.specs.pt_args.declared.edit.Edit.TheVariants.{Cancel, Pass}
use Rattle.law_plans.specs.pt_canon.TextWalk.{TextSurroundings}
use Rattle.law_plans.specs.pt_canon.declared.canon.Canon.{Canon}
use Rattle.law_stops.specs.pt_faker.Reading.{addresses_behind}
use Rattle.law_stops.specs.pt_faker.declared.lists.Handed.{Handed}
use Rattle.law_stops.specs.pt_script.Expanding.{command_of, ends_of, expanded_at, shown_result}
use Rattle.law_stops.specs.pt_script.Programs.{program_from}
use Rattle.law_stops.specs.pt_script.declared.expansion.Expanded.{Expanded}
use Rattle.law_stops.specs.pt_script.declared.program.Program.{Program as TracedProgram}
use Rattle.law_programs.specs.kr_tree.Lawful.{HasBytes}
use Rattle.law_programs.specs.kr_tree.declared.place.Place.{Place}
use Rattle.law_stops.specs.kr_view.View.{Row, plain}
use Rattle.law_stops.specs.kr_view.Walk.{PlaceTarget}
use Rattle.law_stops.specs.kr_view.Component.{Surroundings}
use Rattle.law_stops.specs.kr_view.Reach.{reach_after}
use Rattle.law_stops.specs.kr_view.Answers.{told}
use Rattle.law_stops.specs.kr_view.declared.target.Reach.{Reach}
use Rattle.law_stops.specs.kr_calls.Expansion.{bytes_with_ends, most_scripts}
use Rattle.law_stops.specs.kr_calls.declared.request.Request.{Request}
use Rattle.law_stops.specs.kr_calls.declared.request.Request.TheVariants as call
use Rattle.law_programs.proofs.law_allowed.DecodedLemmas.{decoding-leaves-pages}
use Rattle.law_programs.proofs.law_allowed.RowLemmas.{StaysLike}
use Rattle.law_plans.specs.kr_seen.Carrying.{memory_of}
use Rattle.law_programs.specs.kr_exec.Finding.{program_at, program_walk}
use Rattle.law_programs.specs.kr_exec.Lists.{and_then, lists_at}
use Rattle.law_programs.specs.kr_exec.declared.lists.Lists.{Lists}
use Rattle.law_programs.proofs.kr_exec.ListLemmas.{and_then_is, on_reply}
use Rattle.law_programs.proofs.kr_exec.PlanLemmas.{covers_exec}
use Rattle.law_programs.specs.kr_execve.Execution.{Program, execution, execution_from, execution_reach, found_reach, planned_reach, reach_from}
use Rattle.law_stops.specs.kr_model.Applied.{cwd_of}
use Rattle.law_stops.specs.kr_model.ProcessDirectory.{around_of}
use Rattle.law_stops.specs.kr_model.State.{Image, Process, State}
use Rattle.law_stops.specs.kr_steps.Computing.{computed}
use Rattle.law_stops.specs.kr_turns.Breaking.{nothing_reached}
use Rattle.law_stops.specs.kr_stops.Stopped.{Stopped, edited, image_at, nothing_handed}
use Rattle.law_stops.proofs.kr_stops.EditLemmas.{edited-twice, image-edited}
use Rattle.law_stops.specs.pt_faker.Stopping.{after_request, memory_at, with_memory}
use Rattle.law_stops.specs.pt_tracer.Planning.{after_expansion, after_lists, after_path, has_shelf, led_in, led_of, nowhere, planned, rewritten, script_plan, stack_at, texts_at}
use Rattle.law_stops.specs.pt_tracer.ScriptEdit.{put_texts, script_room, shelved_script}
use Rattle.law_stops.specs.pt_tracer.Watched.{Tracing, after_decoding, after_plan, by_identities, entered}
use Rattle.law_stops.specs.pt_tracer.declared.plan.Led.{Led}
use Rattle.law_stops.specs.pt_tracer.declared.plan.Plan.{Plan}
use Rattle.law_stops.specs.law_edits.Reading.{handed_or, read_by_tracer}
use Rattle.law_stops.proofs.law_edits.ReadLemmas.{lists_are_read_alike, shown_lists_are_read_alike}
use Rattle.law_stops.specs.law_turns.Calls.{decoded_by}
use Rattle.law_stops.proofs.law_turns.CalledLemmas.{decoded_memory}
use Rattle.law_stops.specs.Scene.{IsCalm, Scene, asked}
use Rattle.law_stops.specs.Turning.{ComeToCall}
use Rattle.law_stops.proofs.CallLemmas as before
use Rattle.law_programs.specs.Executing.{IsCalled, LoadedAlike, none_loaded, read_by_kernel}
use Rattle.law_programs.specs.Finding.{ProgramsAlike, no_program, one_program, texts_here}
use Rattle.law_programs.specs.Refusing.{IsBegun, canon_along}
use Rattle.law_programs.proofs.ExecuteLemmas.{executions_agree, refused_executions_agree}
use Rattle.law_programs.proofs.FindLemmas.{programs_are_found_alike}
use Rattle.law_programs.proofs.PlainLemmas.{plain_executions_agree, same-host}
use Rattle.law_programs.proofs.RefuseLemmas.{empty_executions_agree, lost_executions_agree, missing_executions_agree, next, unread_executions_agree}
use Rattle.law_execves.proofs.EnteredLemmas as goes
use Rattle.law_execves.proofs.GoLemmas as go
use Rattle.law_stops.proofs.law_edits.ListKeepLemmas.{addresses-keep, lists-keep}
use Rattle.law_programs.specs.Reading.{IsShelved}
use Rattle.law_programs.specs.Shelves.{script_shelf}
use Rattle.law_programs.proofs.ReadLemmas.{script_lists_are_read}
use Rattle.law_programs.proofs.RoomLemmas.{addresses-long, scripts_are_shelved, scripts_have_room}
use Rattle.law_execves.proofs.RewriteLemmas.{execves_are_rewritten}
use Rattle.law_execves.specs.Going.{GoesOn}
use Rattle.law_execves.specs.Rewriting.{edit_along}
use Rattle.law_execves.specs.Following.{ExecvesGoTogether}
use Rattle.law_execves.proofs.AddressLemmas.{kept_addresses_are_read}
use Rattle.law_execves.proofs.ExecveLemmas.{ExecveCall, execve_of}
use Rattle.law_execves.proofs.HostTextLemmas as hosts
use Rattle.law_execves.proofs.HostTextLemmas.{Fits}
use Rattle.law_execves.proofs.PathTextLemmas.{decoded_paths_are_path_texts}
use Rattle.law_execves.proofs.RuleLemmas as rules
use Rattle.law_execves.proofs.FirstStopLemmas as beginning
use Rattle.law_execves.proofs.ScriptShelveLemmas as shelving
use Rattle.law_execves.proofs.ShelveLemmas as shelf

ok_same : {A : Type 0} {a b : A} → ◌≡◌ {A = Result A Errno} (Ok a) (Ok b) → a ≡ b
ok_same e = cc

err_ok : {A : Type 0} {e : Errno} {a : A} → ◌≡◌ {A = Result A Errno} (Err e) (Ok a) → ⊥
err_ok e = cc

-- ---- the memory behind an execution, and what it reaches

module _ (table : List Row) (pid : ℕ) (s : State ℕ Image) (path : List ℕ) (args env : ℕ) (m : Memory) where
  abbrev around : Surroundings
  around = around_of table pid s

  -- where a program is found, that of the lists
  lists-memory : (base : Place ℕ) (target : PlaceTarget) → cwd_of pid s ≡ Some base → program_at around base path ≡ Ok target → (carried_out (execution table pid s path args env) m).memory ≡ (read_by_kernel args env m).memory
  lists-memory base target at found =
      ap (λ o. (carried_out (option_map_or (execution_from table pid s path args env) o (Done (Err ENOENT))) m).memory) at
      ∙ ap (λ (r : Result PlaceTarget Errno). (carried_out (and_then (Done r) (λ target. and_then (lists_at args env) (next table pid s path args env m base at target))) m).memory) found
      ∙ ap (λ (d : CarriedOut (Result Program Errno)). d.memory) (and_then_is (lists_at args env) (next table pid s path args env m base at target) m)
      ∙ by (read_by_kernel args env m).reply
    where
      by : (r : Result Lists Errno) → (on_reply (next table pid s path args env m base at target) r (read_by_kernel args env m).memory).memory ≡ (read_by_kernel args env m).memory
      by (Ok lists) = refl
      by (Err e) = refl

  -- at least the walk along the path
  reach-least : (base : Place ℕ) → cwd_of pid s ≡ Some base → (r : Reach) → (reach_after around Look (program_walk around base path) r).longest ≤ (execution_reach table pid s path args env m r).longest
  reach-least base at r =
      subst (λ (o : Option (Place ℕ)). walked.longest ≤ (option_map_or (reach_from table pid s path args env m r) o r).longest) (sym at) (by (program_at around base path))
    where
      walked : Reach
      walked = reach_after around Look (program_walk around base path) r

      with-lists : (target : PlaceTarget) (l : Result Lists Errno) → walked.longest ≤ (planned_reach table pid s path args env base target l walked).longest
      with-lists target (Ok lists) = (covers_exec around base (told target) path lists.args lists.env walked).longest
      with-lists target (Err e) = omega arith

      by : (a : Result PlaceTarget Errno) → walked.longest ≤ (found_reach table pid s path args env m base a walked).longest
      by (Ok target) = with-lists target (read_by_kernel args env m).reply
      by (Err e) = omega arith

module _ {S : Type 0} {scene : Scene S} (back : TextsAreReadBack) (hold : ShelvesHoldTheirItems) (execve : ExecveCall scene) where
  open scene use {table, made, pid, traced as n}
  open execve use {callers, path, args, env}
  open execve.callers use {comes as c, also_caller as q, also_lives as also}

  abbrev r : Request
  r = call.Execve path args env

  abbrev x : Tracing
  x = n.watcher

  abbrev w : State ℕ Image
  w = n.state

  abbrev stop : Stopped
  stop = go.stop execve

  abbrev t : Stopped
  t = after_request stop

  abbrev at : State ℕ Image
  at = go.at execve

  abbrev s1 : State ℕ Image
  s1 = go.s1 execve

  abbrev p1 : Process ℕ Image
  p1 = go.p1 execve

  abbrev here : Memory
  here = memory_of pid at

  -- it keeps both machines together, with what is so of both kernels behind it
  abbrev Together : Type 0
  Together = GoesOn scene

  abbrev done : Result Program Errno
  done = (go.done execve).reply

  -- what the tracer goes by
  abbrev texts : TextSurroundings
  texts = texts_here table at pid x.tags

  abbrev working : Option (List ℕ)
  working = working_text texts pid

  abbrev dec : Memory
  dec = (decoded_by q).memory

  pages_left : dec.pages ≡ q.image.memory.pages
  pages_left = before.pages_left callers

  like-of : (memory : Memory) → memory.pages ≡ q.image.memory.pages → StaysLike q.image.memory.pages memory.pages
  like-of memory pages =
      let own = c.also_lasts.lawful.processes pid q also in
      subst (StaysLike q.image.memory.pages) (sym pages) (record { whole = own.whole; placed = own.paged; layout = refl })

  begun-left : (regs : Regs) (memory : Memory) → StaysLike q.image.memory.pages memory.pages → IsBegun table at (computed pid regs memory w) pid x.tags working
  begun-left = beginning.begun execve

  texts-at : (memory : Memory) → memory.pages ≡ q.image.memory.pages → texts_at x.bindings x.tags (edited q.image.regs memory stop) ≡ texts
  texts-at memory pages = beginning.texts execve q.image.regs memory (like-of memory pages) nothing_handed

  texts-first : texts_at x.bindings x.tags t ≡ texts
  texts-first = ap (texts_at x.bindings x.tags) (go.after_is execve) ∙ texts-at dec pages_left

  -- ---- memories

  first-pages : (memory_at t).pages ≡ q.image.memory.pages
  first-pages = ap (λ (image : Image). image.memory.pages) (go.after_image execve) ∙ pages_left

  first-placed : IsPlaced (memory_at t).pages
  first-placed = (like-of (memory_at t) first-pages).placed

  here-pages : here.pages ≡ p1.image.memory.pages
  here-pages =
      let mine = go.mine execve in
      ap (λ (m : Memory). m.pages) (decoded_memory table made pid s1 p1 mine) ∙ decoding-leaves-pages p1.image.regs p1.image.memory mine.holds

  here-alike : (other : Pages) → AreEqualUnmarked p1.image.memory.pages other → AreEqualUnmarked here.pages other
  here-alike other alike = subst (λ pages. AreEqualUnmarked pages other) (sym here-pages) alike

  first-alike : AreEqualUnmarked here.pages (memory_at t).pages
  first-alike = here-alike (memory_at t).pages (subst (AreEqualUnmarked p1.image.memory.pages) (sym first-pages) (go.memories execve))

  -- what the tracer has read of the lists
  abbrev read : CarriedOut (Result Handed Errno)
  read = read_by_tracer args env (memory_at t)

  read-pages : read.memory.pages ≡ q.image.memory.pages
  read-pages = ap (λ (d : CarriedOut (Result Handed Errno)). d.memory.pages) (lists_are_read_alike args env (memory_at t) first-placed) ∙ lists-keep args env (memory_at t) ∙ first-pages

  -- ---- behind the first stop

  module _ (registers : List ℕ) (memory3 : Memory) (led : Led) (host : List ℕ) (put : ℕ) (entry : goes.IsEntered execve registers memory3 led host put) where
    abbrev w4 : State ℕ Image
    w4 = goes.w4 execve registers memory3 led host put entry

    abbrev there : Memory
    there = memory_of pid w4

    abbrev done4 : Result Program Errno
    done4 = (goes.done4 execve registers memory3 led host put entry).reply

    begun4 : IsBegun table at w4 pid x.tags working
    begun4 =
        let decoding = decoding-leaves-pages (record { x = registers; pc = q.image.regs.pc }) memory3 entry.bytes in
        subst (λ t. IsBegun table at t pid x.tags working) (sym (goes.w4_is execve registers memory3 led host put entry))
        (begun-left (record { x = registers; pc = q.image.regs.pc }) _ (subst (StaysLike q.image.memory.pages) (sym decoding) entry.like))

    there-alike : AreEqualUnmarked here.pages there.pages
    there-alike = here-alike there.pages (subst (AreEqualUnmarked p1.image.memory.pages) (sym (goes.memory4_is execve registers memory3 led host put entry)) entry.unmarked)

    abbrev Alike : Result Program Errno → Result Program Errno → Type 0
    Alike = LoadedAlike table at pid x.tags led.index

    goes-on : Alike done done4 → Together
    goes-on = go.replies_together execve registers memory3 led host put entry

    refuse-both : (e : Errno) → done ≡ Err e → done4 ≡ Err e → Together
    refuse-both e one two = goes-on (subst (λ a. Alike a done4) (sym one) (subst (Alike (Err e)) (sym two) (none_loaded e)))

  -- ---- an empty path

  empty : path ≡ [] → Together
  empty none =
      refuse-both q.image.regs.x dec nowhere path args entry EACCES (subst (λ path. (carried_out (execution table pid at path args env) here).reply ≡ Err EACCES) (sym none) both.0)
      (subst (λ given. (carried_out (execution plain pid (w4 q.image.regs.x dec nowhere path args entry) given args env) (there q.image.regs.x dec nowhere path args entry)).reply ≡ Err EACCES) (sym none) both.1)
    where
      plans : planned x.bindings x.tags t r ≡ (record { edit = Pass; led = nowhere }, t)
      plans =
          ap (after_path x.bindings x.tags t r path (record { args = args; env = env }))
          (ap (λ path. rewritten (texts_at x.bindings x.tags t) t (call.Execve path args env)) none ∙ execves_are_rewritten.none (texts_at x.bindings x.tags t) pid (stack_at t) (has_shelf t) args env)

      entry : goes.IsEntered execve q.image.regs.x dec nowhere path args
      entry = shelf.passed execve nowhere plans

      both : ((carried_out (execution table pid at [] args env) here).reply ≡ Err EACCES) × ((carried_out (execution plain pid (w4 q.image.regs.x dec nowhere path args entry) [] args env) (there q.image.regs.x dec nowhere path args entry)).reply ≡ Err EACCES)
      both = empty_executions_agree table at (w4 q.image.regs.x dec nowhere path args entry) pid x.tags args env here working (there q.image.regs.x dec nowhere path args entry) (begun4 q.image.regs.x dec nowhere path args entry)

  -- ---- a path that leads somewhere, or fails

  module _ (some : path ≢ []) where
    abbrev sp : ℕ
    sp = stack_at t

    -- as the plain kernel's state is before it is told of anything
    abbrev first : State ℕ Image
    first = computed pid q.image.regs dec w

    first-begun : IsBegun table at first pid x.tags working
    first-begun = begun-left q.image.regs dec (like-of dec pages_left)

    edit-is : rewritten (texts_at x.bindings x.tags t) t r ≡ edit_along sp true (canon_along texts working path)
    edit-is =
        execves_are_rewritten.some (texts_at x.bindings x.tags t) pid sp (has_shelf t) path args env some
        ∙ ap (λ usable. edit_along sp usable (canon_along (texts_at x.bindings x.tags t) (working_text (texts_at x.bindings x.tags t) pid) path))
        (ap has_shelf (go.after_is execve) ∙ rules.shelf execve dec pages_left)
        ∙ ap (λ texts. edit_along sp true (canon_along texts (working_text texts pid) path)) texts-first

    entered-by : (plan : Plan × Stopped) → planned x.bindings x.tags t r ≡ plan → entered x stop ≡ after_plan x t r plan
    entered-by plan plans =
        ap (after_decoding x t) (go.reads_there execve)
        ∙ ap (by_identities x r t) c.traces.identities
        ∙ ap (after_plan x t r) plans

    -- ---- its walk fails

    lost : (e : Errno) → canon_along texts working path ≡ Err e → Together
    lost e leads =
        go.cancelled execve e (lost_executions_agree table at first pid x.tags path args env here working e first-begun leads) nowhere dec pages_left
        (entered-by (record { edit = Cancel e; led = nowhere }, t) (ap (after_path x.bindings x.tags t r path (record { args = args; env = env })) (edit-is ∙ ap (edit_along sp true) leads))
        ∙ ap (λ (u : Stopped). after_plan x t r (record { edit = Cancel e; led = nowhere }, u)) (go.after_is execve ∙ sym (go.with_is execve dec)))

    -- ---- it leads somewhere

    tree-bytes : HasBytes at.tree
    tree-bytes = (go.mine execve).lasts.lawful.tree.bytes

    at-most : {a b d : ℕ} → a ≤ b → b ≤ d → a ≤ d
    at-most one two = omega (arith, one, two)

    module _ (canon : Canon) (leads : canon_along texts working path ≡ Ok canon) where
      short-path : (reach_after (around_of table pid at) Look (program_walk (around_of table pid at) first-begun.base path) nothing_reached).longest ≤ 4000
      short-path = at-most (reach-least table pid at path args env here first-begun.base first-begun.at nothing_reached) (rules.short execve)

      fits : Fits canon.host
      fits = hosts.fits_canon table at pid x.tags first-begun.base working first-begun.matched first-begun.works tree-bytes path nothing_reached short-path some canon leads

      abbrev after : Memory
      after = read.memory

      abbrev t2 : Stopped
      t2 = with_memory after t

      abbrev swap : Edit
      swap = shelf.swap execve back hold canon.host fits.0 fits.1 fits.2 after read-pages

      not-long : (k : ℕ) → k ≤ 4095 → nat_lt 4095 k ≡ false
      not-long k small = grind (arith, nat_tests)

      swaps : rewritten (texts_at x.bindings x.tags t) t r ≡ swap
      swaps = edit-is ∙ ap (edit_along sp true) leads ∙ ap (λ b. cond (b || false) (Cancel ENAMETOOLONG) swap) (not-long (length canon.host) fits.2)

      abbrev first-led : Led
      first-led = led_of (texts_at x.bindings x.tags t) pid r

      plan-lists : planned x.bindings x.tags t r ≡ after_lists x.bindings x.tags swap first-led path args read.reply t2
      plan-lists = ap (after_path x.bindings x.tags t r path (record { args = args; env = env })) swaps

      abbrev Enters : Led → Type 0
      Enters led = goes.IsEntered execve
          (shelf.registers3 execve back hold canon.host fits.0 fits.1 fits.2 after read-pages)
          (shelf.memory3 execve back hold canon.host fits.0 fits.1 fits.2 after read-pages) led canon.host args

      entry-with : (led : Led) → planned x.bindings x.tags t r ≡ (record { edit = swap; led = led }, t2) → Enters led
      entry-with led plans =
          shelf.shelved execve back hold canon.host fits.0 fits.1 fits.2 after read-pages led plans fits.3

      -- lists that the tracer can't read
      unread-plan : (e : Errno) → read.reply ≡ Err e → planned x.bindings x.tags t r ≡ (record { edit = swap; led = first-led }, t2)
      unread-plan e reply = plan-lists ∙ ap (λ a. after_lists x.bindings x.tags swap first-led path args a t2) reply

      -- lists that it has read
      module _ (h : Handed) (reply : read.reply ≡ Ok h) where
        abbrev ended : Result Expanded Errno
        ended = expanded_at texts pid h.env_bytes path h.args

        plan-handed : planned x.bindings x.tags t r ≡ after_expansion x.bindings x.tags swap args (length h.args - 1) t2 ended
        plan-handed =
            plan-lists ∙ ap (λ a. after_lists x.bindings x.tags swap first-led path args a t2) reply
            ∙ ap (λ texts. after_expansion x.bindings x.tags swap args (length h.args - 1) t2 (expanded_at texts pid h.env_bytes path h.args))
            (ap (texts_at x.bindings x.tags) (go.with_is execve after) ∙ texts-at after read-pages)

        cancel : (e : Errno) → ended ≡ Err e → done ≡ Err e → Together
        cancel e is refuses =
            go.cancelled execve e refuses nowhere after read-pages
            (entered-by (record { edit = Cancel e; led = nowhere }, t2) (plan-handed ∙ ap (after_expansion x.bindings x.tags swap args (length h.args - 1) t2) is))

        plain-plan : (y : Expanded) → ended ≡ Ok y → y.scripts ≡ 0 → planned x.bindings x.tags t r ≡ (record { edit = swap; led = led_in y.index }, t2)
        plain-plan y is none =
            plan-handed ∙ ap (after_expansion x.bindings x.tags swap args (length h.args - 1) t2) is
            ∙ ap (λ k. cond (k == 0) (let own : Plan × Stopped = (record { edit = swap; led = led_in y.index }, t2) in own) (script_plan t2 args (length h.args - 1) y)) none

      -- ---- no program stands there

      missing : (e : Errno) → program_from texts working path ≡ Err e → Together
      missing e none = by read.reply refl
        where
          by : (a : Result Handed Errno) → read.reply ≡ a → Together
          by (Err why) reply =
              let entry = entry-with first-led (unread-plan why reply) in
              let both = missing_executions_agree table at (w4 _ _ first-led canon.host args entry) pid x.tags path args env here working canon e args (there _ _ first-led canon.host args entry) (begun4 _ _ first-led canon.host args entry) some leads none in
              refuse-both _ _ first-led canon.host args entry e both.0 both.1
          by (Ok h) reply =
              cancel h reply e (ap (λ (a : Result TracedProgram Errno). traced_walks.and_then a (λ program. shown_result (ends_of texts working h.env_bytes most_scripts (command_of path h.args program)))) none)
              (missing_executions_agree table at first pid x.tags path args env here working canon e args here first-begun some leads none).0

      -- ---- a program does

      module _ (target : PlaceTarget) (found : program_at (around_of table pid at) first-begun.base path ≡ Ok target) where
        unread : (read_by_kernel args env here).memory.read_marked ≡ false
        unread = ap (λ (m : Memory). m.read_marked) (sym (lists-memory table pid at path args env here first-begun.base target first-begun.at found)) ∙ rules.unread execve

        here-placed : IsPlaced here.pages
        here-placed =
            let mine = go.mine execve in
            subst (λ pages. IsPlaced pages) (sym here-pages) (mine.lasts.lawful.processes pid p1 mine.lives).paged

        read-alike : read.reply ≡ handed_or (read_by_kernel args env here).reply
        read-alike = (shown_lists_are_read_alike args env here (memory_at t) here-placed first-alike unread).0

        called-in : (w' : State ℕ Image) → IsBegun table at w' pid x.tags working → (lists : Lists) → (read_by_kernel args env here).reply ≡ Ok lists → IsCalled table at w' pid x.tags path args env here working lists
        called-in w' b lists is = record { matched = b.matched; shown = b.shown; base = b.base; at = b.at; works = b.works; other = b.other; also_at = b.also_at; read = is }

        unread-lists : (e : Errno) → (read_by_kernel args env here).reply ≡ Err e → Together
        unread-lists e is =
            let entry = entry-with first-led (unread-plan e (read-alike ∙ ap handed_or is)) in
            let theirs = sym (reads_alike (lists_at args env) here (there _ _ first-led canon.host args entry) (there-alike _ _ first-led canon.host args entry) unread).0 ∙ is in
            let both =
            unread_executions_agree table at (w4 _ _ first-led canon.host args entry) pid x.tags path args env here working canon e args (there _ _ first-led canon.host args entry) (begun4 _ _ first-led canon.host args entry) some leads is theirs in
            refuse-both _ _ first-led canon.host args entry both.0 both.1 both.2

        -- both kernels read the lists of the call
        module _ (lists : Lists) (is : (read_by_kernel args env here).reply ≡ Ok lists) where
          abbrev handed : Handed
          handed = record { args = lists.args; env_bytes = bytes_with_ends lists.env }

          abbrev count : ℕ
          count = length lists.args - 1

          reply : read.reply ≡ Ok handed
          reply = read-alike ∙ ap handed_or is

          module _ (y : Expanded) (ends : expanded_at texts pid (bytes_with_ends lists.env) path lists.args ≡ Ok y) where
            abbrev led : Led
            led = led_in y.index

            -- a program that is no script
            plainly : y.scripts ≡ 0 → Together
            plainly none =
                let entry = entry-with led (plain-plan handed reply y ends none) in
                let own = w4 _ _ led canon.host args entry in
                let alike =
                plain_executions_agree table at own pid x.tags path args env here working lists y (there _ _ led canon.host args entry) (called-in own (begun4 _ _ led canon.host args entry) lists is) ends none (there-alike _ _ led canon.host args entry) unread in
                goes-on _ _ led canon.host args entry
                (subst (λ host. LoadedAlike table at pid x.tags y.index done (carried_out (execution plain pid own host args env) (there _ _ led canon.host args entry)).reply) (same-host texts working (bytes_with_ends lists.env) path lists.args y none canon leads ends) alike)

            -- a script: its host text, its texts and its list stand on the shelf, and the plain kernel reads them there
            module _ (script : y.scripts ≢ 0) where
              path-is : IsPathText path
              path-is = decoded_paths_are_path_texts p1.image.regs p1.image.memory path args env (go.mine execve).holds (go.reads execve)

              short-scripts : (hosts.scripted table pid at path args env here first-begun.base first-begun.at target found lists is nothing_reached).longest ≤ 4000
              short-scripts =
                  subst (λ (reach : Reach). reach.longest ≤ 4000) (hosts.scripts_are_reached table pid at path args env here first-begun.base first-begun.at target found lists is nothing_reached)
                  (rules.short execve)

              host-fits : Fits y.host
              host-fits =
                  hosts.fits_ended table at pid x.tags first-begun.base working first-begun.matched first-begun.works tree-bytes (bytes_with_ends lists.env) path lists.args target found nothing_reached short-scripts short-path y ends

              host-is : IsPathText y.host
              host-is = let short = host-fits.2 in record { short = omega (arith, short); no_zero = host-fits.0 }

              -- ---- the tracer reads the addresses of the arguments that are kept

              abbrev shown : Memory
              shown = memory_at t2

              t2-is : t2 ≡ edited q.image.regs after stop
              t2-is = go.with_is execve after

              t2-image : image_at t2 ≡ record { regs = q.image.regs; memory = after }
              t2-image = ap image_at t2-is ∙ image-edited q.image.regs after stop (subst IsSome (sym also) refl)

              shown-pages : shown.pages ≡ q.image.memory.pages
              shown-pages = ap (λ (image : Image). image.memory.pages) t2-image ∙ read-pages

              same-stack : stack_at t2 ≡ sp
              same-stack = ap (λ (image : Image). get_or image.regs.x 2 0) t2-image ∙ sym (ap (λ (image : Image). get_or image.regs.x 2 0) (go.after_image execve))

              kept-read : (kept : List ℕ) × ((carried_out (addresses_behind args count) shown).reply ≡ Ok kept)
              kept-read =
                  kept_addresses_are_read args env (memory_at t) shown lists first-placed (sym (reads_alike (lists_at args env) here (memory_at t) first-alike unread).0 ∙ is) (shown-pages ∙ sym first-pages)

              abbrev kept : List ℕ
              kept = kept-read.0

              abbrev behind : Memory
              behind = (carried_out (addresses_behind args count) shown).memory

              behind-pages : behind.pages ≡ shown.pages
              behind-pages = addresses-keep args count shown

              left-pages : behind.pages ≡ q.image.memory.pages
              left-pages = behind-pages ∙ shown-pages

              abbrev put : List (List ℕ)
              put = put_texts count y.args

              with-twice : with_memory behind t2 ≡ with_memory behind t
              with-twice =
                  ap (λ (image : Image). edited image.regs behind t2) t2-image
                  ∙ ap (edited q.image.regs behind) t2-is
                  ∙ edited-twice q.image.regs q.image.regs after behind stop
                  ∙ sym (go.with_is execve behind)

              some-script : (k : ℕ) → k ≢ 0 → (k == 0) ≡ false
              some-script k some = grind (arith, nat_tests)

              plans : planned x.bindings x.tags t r ≡ (record { edit = shelved_script sp y.host put kept; led = led }, with_memory behind t)
              plans =
                  plan-handed handed reply ∙ ap (after_expansion x.bindings x.tags swap args count t2) ends
                  ∙ ap (λ b. cond b (let own : Plan × Stopped = (record { edit = swap; led = led }, t2) in own) (script_plan t2 args count y)) (some-script y.scripts script)
                  ∙ scripts_are_shelved texts pid (bytes_with_ends lists.env) args path lists.args y t2 kept path-is host-fits.2 ends script kept-read.1
                  ∙ (λ i. (record { edit = shelved_script (same-stack i) y.host put kept; led = led }, with-twice i))

              -- ---- what it leaves

              abbrev top : ℕ
              top = (script_shelf sp y.host put kept).top

              room : script_room y.host put kept ≤ 65536
              room =
                  let small = scripts_have_room texts pid (bytes_with_ends lists.env) path lists.args y kept path-is host-fits.2 ends script (addresses-long args count shown kept kept-read.1) in
                  omega (arith, small)

              entry : goes.IsEntered execve (shelving.registers3 execve hold y.host host-is host-fits.1 put kept room behind left-pages) (shelving.memory3 execve hold y.host host-is host-fits.1 put kept room behind left-pages) led y.host top
              entry = shelving.script_shelved execve hold y.host host-is host-fits.1 put kept room behind left-pages led plans

              abbrev own : State ℕ Image
              own = w4 _ _ led y.host top entry

              stays : StaysLike q.image.memory.pages shown.pages
              stays = like-of shown shown-pages

              shelved : IsShelved args env sp here shown (there _ _ led y.host top entry) lists y kept
              shelved = record {
                placed = here-placed;
                reads = is;
                unread = unread;
                first = subst (AreEqualUnmarked here.pages) (sym (shown-pages ∙ sym first-pages)) first-alike;
                second = there-alike _ _ led y.host top entry;
                addresses = kept-read.1;
                whole = stays.whole;
                first_placed = stays.placed;
                high = shelving.high execve;
                may = shelving.may execve shown shown-pages;
                shelf = goes.memory4_is execve _ _ led y.host top entry ∙ ap (λ pages. poked pages (script_shelf sp y.host put kept).items) behind-pages;
              }

              read-back : (read_by_kernel top env (there _ _ led y.host top entry)).reply ≡ Ok (record { args = y.args; env = lists.env })
              read-back = script_lists_are_read hold texts pid args env sp path here shown (there _ _ led y.host top entry) lists y kept shelved path-is host-is ends script

              scripted : Together
              scripted =
                  goes-on _ _ led y.host top entry
                  (executions_agree table at own pid x.tags path args env here working lists y top (there _ _ led y.host top entry) (called-in own (begun4 _ _ led y.host top entry) lists is) ends read-back)

            either-way : (b : Bool) → (y.scripts == 0) ≡ b → Together
            either-way true none = plainly (is-zero y.scripts none)
              where
                is-zero : (k : ℕ) → (k == 0) ≡ true → k ≡ 0
                is-zero k e = grind (arith, nat_tests)
            either-way false some = scripted (λ none. absurd (let never : false ≡ true = sym some ∙ ap (λ k. k == 0) none in cc))

          with-lists : Together
          with-lists = by (expanded_at texts pid (bytes_with_ends lists.env) path lists.args) refl
            where
              by : (a : Result Expanded Errno) → expanded_at texts pid (bytes_with_ends lists.env) path lists.args ≡ a → Together
              by (Err e) ends = cancel handed reply e ends (refused_executions_agree table at first pid x.tags path args env here working lists e (called-in first first-begun lists is) ends)
              by (Ok y) ends = either-way y ends (y.scripts == 0) refl

        present : Together
        present = by (read_by_kernel args env here).reply refl
          where
            by : (a : Result Lists Errno) → (read_by_kernel args env here).reply ≡ a → Together
            by (Err e) is = unread-lists e is
            by (Ok lists) is = with-lists lists is

      somewhere : Together
      somewhere = by _ (program_from texts working path) refl refl (programs_are_found_alike Image table at pid x.tags first-begun.base working path first-begun.matched first-begun.works)
        where
          by : (a : Result PlaceTarget Errno) (y : Result TracedProgram Errno) → program_at (around_of table pid at) first-begun.base path ≡ a → program_from texts working path ≡ y → ProgramsAlike table at pid x.tags a y → Together
          by _ _ one two (no_program e) = missing e two
          by _ _ one two (one_program {target} same) = present target one

    along : Together
    along = by (canon_along texts working path) refl
      where
        by : (a : Result Canon Errno) → canon_along texts working path ≡ a → Together
        by (Err e) leads = lost e leads
        by (Ok canon) leads = somewhere canon leads

  -- ---- any path

  either : Together
  either = by path refl
    where
      by : (given : List ℕ) → path ≡ given → Together
      by [] is = empty is
      by (b ∷ rest) is = along (λ none. absurd (differ (sym is ∙ none)))
        where
          differ : b ∷ rest ≡ [] → ⊥
          differ e = cc

pub execves_go_on : TextsAreReadBack → ShelvesHoldTheirItems → {S : Type 0} (scene : Scene S) (path : List ℕ) (args env : ℕ) → ComeToCall scene → asked scene ≡ Ok (call.Execve path args env) → IsCalm scene → GoesOn scene
execves_go_on back hold scene path args env comes decoded calm = either back hold (execve_of comes path args env decoded calm)

pub execves_go_together : TextsAreReadBack → ShelvesHoldTheirItems → (S : Type 0) → ExecvesGoTogether S
execves_go_together back hold S scene path args env comes decoded calm = (execves_go_on back hold scene path args env comes decoded calm).together
