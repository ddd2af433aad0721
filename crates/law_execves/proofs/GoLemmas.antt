-- Execve(2) with its stops keeps two machines together.
use Rattle.std.specs.FinMap as map
use Rattle.std.proofs.Common.{◌≡◌, ℕ, false, List, Some, None, Result, Ok, Err, refl, sym, ap, subst, ◌∙◌, arith, get_or}
use Rattle.std.specs.Prelude.{IsSome}
use Rattle.law_programs.specs.pr_base.declared.errno.Errno.{Errno}
use Rattle.law_programs.specs.rv_mem.Actions.{AreEqualUnmarked, CarriedOut, carried_out}
use Rattle.law_programs.specs.rv_mem.Layout.{layout_of}
use Rattle.law_programs.specs.rv_mem.Memory.{Memory}
use Rattle.law_programs.specs.rv_mem.declared.regs.Regs.{Regs}
use Rattle.law_stops.specs.pt_args.declared.edit.Edit.TheVariants.{Cancel}
use Rattle.law_stops.specs.pt_ident.Identity.{refusal}
use Rattle.law_stops.specs.kr_view.Living.{Each, HasSmallNumbers}
use Rattle.law_stops.specs.kr_view.View.{Row, plain}
use Rattle.law_stops.specs.kr_calls.Decoding.{decoding}
use Rattle.law_stops.specs.kr_calls.declared.request.Request.{Request}
use Rattle.law_stops.specs.kr_calls.declared.request.Request.TheVariants as call
use Rattle.law_programs.proofs.law_allowed.DecodedLemmas.{decoded-are-givable, decoding-leaves-pages}
use Rattle.law_programs.proofs.law_allowed.RowLemmas.{StaysLike}
use Rattle.law_plans.specs.kr_seen.Carrying.{memory_of}
use Rattle.law_programs.specs.kr_execve.Execution.{Program, execution}
use Rattle.law_programs.proofs.law_allowed.RoomLemmas.{lasting-room}
use Rattle.law_stops.specs.kr_model.Applied.{with_image}
use Rattle.law_stops.specs.kr_model.Known.{pages_in_all}
use Rattle.law_stops.specs.kr_model.Lawful.{is_file_at}
use Rattle.law_stops.specs.kr_model.ProcessDirectory.{living_of, space_of}
use Rattle.law_stops.specs.kr_model.State.{Image, Process, State, image_layout}
use Rattle.law_plans.proofs.kr_seen.StandingLemmas.{living-small}
use Rattle.law_stops.specs.kr_steps.Computing.{computed}
use Rattle.law_stops.specs.kr_stops.Stopped.{IsThere, Stopped, edited, image_at, nothing_handed}
use Rattle.law_stops.specs.kr_turns.Turn.{called, calling}
use Rattle.law_stops.proofs.kr_stops.EditLemmas.{edited-twice, image-edited, there as is_there}
use Rattle.law_stops.specs.pt_faker.Faking.{no_longer_called, word_of}
use Rattle.law_stops.specs.pt_faker.Stopping.{after_request, decoded_at, memory_at, with_memory}
use Rattle.law_stops.specs.pt_tracer.Registers.{arguments_at}
use Rattle.law_stops.specs.pt_tracer.Watched.{Tracing, awaiting, entered, exited, with_pending}
use Rattle.law_stops.specs.pt_tracer.declared.plan.Led.{Led}
use Rattle.law_stops.specs.law_edits.Answered.{StandsAtNoCall}
use Rattle.law_stops.specs.law_edits.Exits.{left_with}
use Rattle.law_stops.specs.law_edits.NoCalls.{without_call}
use Rattle.law_stops.proofs.law_edits.AnsweredLemmas.{answered_calls_are_none}
use Rattle.law_stops.proofs.law_edits.StopLemmas.{register_set}
use Rattle.law_stops.specs.law_walks.Scene.{IsMatched}
use Rattle.law_stops.specs.law_walks.States.{IsInUse, scene_of}
use Rattle.law_plans.proofs.law_places.MatchLemmas.{matches_are_matched}
use Rattle.law_stops.specs.law_turns.Calls.{decoded_by, decoded_in}
use Rattle.law_stops.specs.law_turns.Lasting.{CanBeCalled}
use Rattle.law_stops.proofs.law_turns.CalledLemmas.{decoded_lasts, decoded_lives, decoded_process}
use Rattle.law_stops.proofs.law_turns.ImageLemmas.{bare_computed, given}
use Rattle.law_stops.specs.Scene.{Scene, at_call}
use Rattle.law_stops.proofs.CallLemmas as before
use Rattle.law_stops.proofs.CallLemmas.{own_image, plain_named}
use Rattle.law_programs.specs.Executing.{IsSameLoaded, LoadedAlike, none_loaded, one_loaded}
use Rattle.law_programs.proofs.ShowLemmas.{same-pages}
use Rattle.law_execves.specs.Going.{CancelledExecvesGoTogether, EnteredExecvesGoTogether, GoesOn, IsExecveCancelled, IsExecveEntered, done_here, done_there}
use Rattle.law_execves.specs.Replacing.{ArePutAlike, IsReady, IsReadyIn}
use Rattle.law_execves.proofs.EnteredLemmas as goes
use Rattle.law_execves.proofs.ExecveLemmas.{ExecveCall, execve_of}
use Rattle.law_execves.proofs.ReadyLemmas.{loaded_programs_are_ready, ready_programs_can_be_put}
use Rattle.law_execves.proofs.ReplaceLemmas.{space-same}

-- the decoding of a call leaves the layout of a memory
pub decoded_layout : (table : List Row) (made pid : ℕ) (s : State ℕ Image) (p : Process ℕ Image) → CanBeCalled table made pid s p → layout_of (decoded_by p).memory.pages ≡ image_layout p.image
decoded_layout table made pid s p can = ap layout_of (decoding-leaves-pages p.image.regs p.image.memory can.holds)

-- ---- what both have in common

module _ {S : Type 0} {scene : Scene S} (execve : ExecveCall scene) where
  open scene use {table, made, pid, traced as n}
  open execve use {callers, path, args, env, decoded, calm}
  open execve.callers use {comes as c, also_caller as q, also_lives as also}

  abbrev pub r : Request
  r = call.Execve path args env

  abbrev pub x : Tracing
  x = n.watcher

  abbrev pub w : State ℕ Image
  w = n.state

  abbrev pub stop : Stopped
  stop = before.stop callers

  abbrev pub s1 : State ℕ Image
  s1 = before.s1 callers

  abbrev pub p1 : Process ℕ Image
  p1 = before.p1 callers

  abbrev pub at : State ℕ Image
  at = decoded_in pid p1 s1

  pub mine : CanBeCalled table made pid s1 p1
  mine = before.can callers

  pub calling_is : calling 0 pid w ≡ stop
  calling_is = before.calling_is callers

  pub reads : (decoded_by p1).reply ≡ Ok r
  reads = sym (before.decoded_here callers) ∙ decoded

  pub reads_there : (decoded_at stop).reply ≡ Ok r
  reads_there = before.decoded_there callers ∙ sym (before.requests callers calm) ∙ reads

  pub there_stop : IsThere stop
  there_stop = is_there w pid nothing_handed q c.also_lasts.lawful.pids also

  pub at_is : (at_call scene).state ≡ at
  at_is =
      ap (λ t. (after_request (record { state = t; pid = pid; handed = nothing_handed })).state) (before.shelf callers)
      ∙ ap (λ (image : Image). computed pid image.regs (carried_out (decoding image.regs) image.memory).memory s1) (own_image pid s1 p1 mine.lives)

  abbrev pub done : CarriedOut (Result Program Errno)
  done = carried_out (execution table pid at path args env) (memory_of pid at)

  done_is : (done_here scene path args env).reply ≡ done.reply
  done_is = ap (λ t. (carried_out (execution table pid t path args env) (memory_of pid t)).reply) at_is

  pub memories : AreEqualUnmarked p1.image.memory.pages q.image.memory.pages
  memories = (before.match1 callers).images.memories pid p1 q mine.lives also

  abbrev pub dec : Memory
  dec = (decoded_by q).memory

  pub after_is : after_request stop ≡ edited q.image.regs dec stop
  after_is = ap (λ (image : Image). edited image.regs (carried_out (decoding image.regs) image.memory).memory stop) (own_image pid w q also)

  pub after_image : image_at (after_request stop) ≡ record { regs = q.image.regs; memory = dec }
  after_image = ap image_at after_is ∙ image-edited q.image.regs dec stop (subst IsSome (sym also) refl)

  -- whatever memory the tracer left by reading
  pub with_is : (read : Memory) → with_memory read (after_request stop) ≡ edited q.image.regs read stop
  with_is read =
      ap (λ (image : Image). edited image.regs read (after_request stop)) after_image
      ∙ ap (edited q.image.regs read) after_is
      ∙ edited-twice q.image.regs q.image.regs dec read stop

  -- ---- it is cancelled

  module _ (e : Errno) (refuses : done.reply ≡ Err e) (led : Led) (read : Memory) (pages : read.pages ≡ q.image.memory.pages) where
    like : StaysLike q.image.memory.pages read.pages
    like =
        let own = c.also_lasts.lawful.processes pid q also in
        subst (StaysLike q.image.memory.pages) (sym pages) (record { whole = own.whole; placed = own.paged; layout = refl })

    abbrev v : Stopped
    v = no_longer_called (with_memory read (after_request stop))

    v_is : v ≡ edited (without_call q.image.regs) read stop
    v_is = ap no_longer_called (with_is read) ∙ register_set stop there_stop 17 0xffff_ffff_ffff_ffff q.image.regs read

    stands : StandsAtNoCall stop v
    stands =
        subst (StandsAtNoCall stop) (ap no_longer_called (ap (λ (image : Image). edited image.regs read stop) (own_image pid w q also) ∙ sym (with_is read)))
        (answered_calls_are_none stop read r (Cancel e) (refusal e) there_stop reads_there refl)

    pub cancelled : entered x stop ≡ (with_pending (map.insert x.pending pid (awaiting (arguments_at (after_request stop)) r led (Some (refusal e)))) x, no_longer_called (with_memory read (after_request stop)))
        → GoesOn scene
    cancelled enters =
        goes.cancelled_on execve reads reads_there e refuses read led like (subst (AreEqualUnmarked p1.image.memory.pages) (sym pages) memories) v v_is stands enters

  module _ (e : Errno) (alike : IsExecveCancelled scene path args env e) where
    same_pages : alike.read.pages ≡ q.image.memory.pages
    same_pages =
        alike.pages ∙ ap (λ t. (memory_at (after_request t)).pages) calling_is
        ∙ ap (λ (image : Image). image.memory.pages) after_image ∙ before.pages_left callers

    cancelled_alike : GoesOn scene
    cancelled_alike =
        cancelled e (sym done_is ∙ alike.refuses) alike.led alike.read same_pages
        (subst (λ t. entered x t ≡ (with_pending (map.insert x.pending pid (awaiting (arguments_at (after_request t)) r alike.led (Some (refusal e)))) x, no_longer_called (with_memory alike.read (after_request t)))) calling_is alike.enters)

  -- ---- it is carried out

  module _ (registers : List ℕ) (memory : Memory) (led : Led) (host : List ℕ) (put : ℕ) (entry : goes.IsEntered execve registers memory led host put) where
    abbrev regs3 : Regs
    regs3 = record { x = registers; pc = q.image.regs.pc }

    abbrev pub w3 : State ℕ Image
    w3 = computed pid regs3 memory w

    abbrev pub q3 : Process ℕ Image
    q3 = given pid regs3 memory q

    abbrev pub w4 : State ℕ Image
    w4 = decoded_in pid q3 w3

    pub can3 : CanBeCalled plain made pid w3 q3
    can3 = goes.can3 execve registers memory led host put entry

    abbrev pub done4 : CarriedOut (Result Program Errno)
    done4 = carried_out (execution plain pid w4 host put env) (memory_of pid w4)

    -- ---- programs that are loaded

    small : Each HasSmallNumbers (living_of s1)
    small =
        let lawful = mine.lasts.lawful in
        let few = (lasting-room ℕ Image made s1 c.few lawful.tree.sound mine.lasts.lasts).pids in
        living-small s1 lawful.pids (λ pid fd x there. (lawful.descriptors pid fd x there).0) (omega (arith, few))

    matched : IsMatched (scene_of table s1 pid x.tags)
    matched = matches_are_matched table x.tags s1 w pid (before.match1 callers) small

    same_space : space_of table at ≡ space_of table s1
    same_space = space-same table pid (with_image (λ _. record { regs = p1.image.regs; memory = (decoded_by p1).memory })) s1 (λ p. refl)

    module _ (program other : Program) (loads : done.reply ≡ Ok program) (loads4 : done4.reply ≡ Ok other) (same : IsSameLoaded program other) (used : IsInUse (space_of table at) program.exe program.dir program.name led.index) where
      ready_at : IsReadyIn table at program
      ready_at =
          let givable = decoded-are-givable p1.image.regs p1.image.memory r mine.holds reads in
          let text = givable.1 0 _ refl in
          let lasts = decoded_lasts table made pid s1 p1 mine in
          loaded_programs_are_ready table pid at (decoded_process table made pid s1 p1 mine) path args env (memory_of pid at) program lasts.lawful lasts.lasts.texts c.named (decoded_lives table made pid s1 p1 mine) text.0 text.1 loads

      pages_at : pages_in_all image_layout at.living ≡ pages_in_all image_layout s1.living
      pages_at =
          let none : ℕ → ℕ = λ i. 0 in
          sym (same-pages none none at s1 (bare_computed pid p1.image.regs (decoded_by p1).memory none s1.next_pid s1 p1 mine.lasts.lawful.pids.living mine.lives (decoded_layout table made pid s1 p1 mine)))

      ready_here : IsReadyIn table s1 program
      ready_here = subst (λ k. IsReady table s1.tree s1.user k program) pages_at ready_at

      ready_at_there : IsReadyIn plain w4 other
      ready_at_there =
          let givable = decoded-are-givable regs3 memory (call.Execve host put env) entry.bytes entry.reads in
          let text = givable.1 0 _ refl in
          let lasts = decoded_lasts plain made pid w3 q3 can3 in
          loaded_programs_are_ready plain pid w4 (decoded_process plain made pid w3 q3 can3) host put env (memory_of pid w4) other lasts.lawful lasts.lasts.texts plain_named (decoded_lives plain made pid w3 q3 can3) text.0 text.1 loads4

      pages_there : pages_in_all image_layout w4.living ≡ pages_in_all image_layout w.living
      pages_there =
          let none : ℕ → ℕ = λ i. 0 in
          let rise = c.also_lasts.lawful.pids.living in
          sym (same-pages none none w4 w
          (bare_computed pid regs3 (decoded_by q3).memory none w3.next_pid w3 q3 can3.lasts.lawful.pids.living can3.lives (decoded_layout plain made pid w3 q3 can3)
          ∙ bare_computed pid regs3 memory none w.next_pid w q rise also entry.like.layout))

      ready_there : IsReadyIn plain w other
      ready_there = subst (λ k. IsReady plain w.tree w.user k other) pages_there ready_at_there

      put_alike : ArePutAlike table pid s1 w program other led.index
      put_alike = record {
        lives = subst IsSome (sym mine.lives) refl;
        lawful = c.also_lasts.lawful;
        same = same;
        used = subst (λ space. IsInUse space program.exe program.dir program.name led.index) same_space used;
        is_file = ap (λ (x : Program). is_file_at s1.tree x.exe.host) ready_here.is ∙ ready_here.is_file;
        made = ready_programs_can_be_put table pid s1 program mine.lasts.lawful (subst IsSome (sym mine.lives) refl) ready_here;
        also_made = ready_programs_can_be_put plain pid w other c.also_lasts.lawful (subst IsSome (sym also) refl) ready_there;
      }

      zero : get_or other.image.regs.x 10 0 ≡ 0
      zero = ap (λ (x : Program). get_or x.image.regs.x 10 0) ready_there.is

      loaded : GoesOn scene
      loaded = goes.loaded_on execve registers memory led host put entry reads program other loads loads4 matched put_alike zero

    -- what both kernels came to
    pub replies_together : LoadedAlike table at pid x.tags led.index done.reply done4.reply → GoesOn scene
    replies_together replies = by done.reply done4.reply refl refl replies
      where
        by : (a b : Result Program Errno) → done.reply ≡ a → done4.reply ≡ b → LoadedAlike table at pid x.tags led.index a b → GoesOn scene
        by _ _ one two (none_loaded e) = goes.refused_on execve registers memory led host put entry reads e one two
        by _ _ one two (one_loaded {p = program} {q = other} same used) = loaded program other one two same used

  module _ (registers : List ℕ) (memory : Memory) (led : Led) (host : List ℕ) (put : ℕ) (alike : IsExecveEntered scene path args env registers memory led host put) where
    pc_is : {A : Type 0} (f : ℕ → A) → f (image_at stop).regs.pc ≡ f q.image.regs.pc
    pc_is f = ap (λ (image : Image). f image.regs.pc) (own_image pid w q also)

    abbrev kept : Tracing
    kept = with_pending (map.insert x.pending pid (awaiting (arguments_at (after_request stop)) r led None)) x

    entry : goes.IsEntered execve registers memory led host put
    entry = record {
      entered_is =
          subst (λ t. entered x t ≡ (with_pending (map.insert x.pending pid (awaiting (arguments_at (after_request t)) r led None)) x, edited (record { x = registers; pc = (image_at t).regs.pc }) memory t)) calling_is alike.enters
          ∙ pc_is (λ pc. (kept, edited (record { x = registers; pc = pc }) memory stop));
      like = record {
        whole = alike.whole;
        placed = alike.placed;
        layout = alike.layout ∙ ap (λ t. layout_of (memory_at t).pages) calling_is ∙ ap (λ (image : Image). layout_of image.memory.pages) (own_image pid w q also);
      };
      bytes = alike.bytes;
      unmarked =
          subst (λ pages. AreEqualUnmarked pages memory.pages)
          (ap (λ t. (memory_at (record { state = t; pid = pid; handed = nothing_handed })).pages) (before.shelf callers) ∙ ap (λ (image : Image). image.memory.pages) (own_image pid s1 p1 mine.lives)) alike.unmarked;
      reads = sym (ap (λ t. (carried_out (decoding (record { x = registers; pc = (image_at t).regs.pc })) memory).reply) calling_is ∙ pc_is (λ pc. (carried_out (decoding (record { x = registers; pc = pc })) memory).reply)) ∙ alike.finds;
      exits = λ came e stands regs.
          subst (λ t. exited (with_pending (map.insert x.pending pid (awaiting (arguments_at (after_request t)) r led None)) x) (called pid came)
          ≡ left_with (with_pending (map.insert x.pending pid (awaiting (arguments_at (after_request t)) r led None)) x) (called pid came) r led (word_of (refusal e)) (image_at t).regs.x) calling_is (alike.exits came e stands regs);
    }

    there_is : (after_request (edited (record { x = registers; pc = (image_at (calling 0 pid w)).regs.pc }) memory (calling 0 pid w))).state ≡ w4 registers memory led host put entry
    there_is =
        ap (λ t. (after_request (edited (record { x = registers; pc = (image_at t).regs.pc }) memory t)).state) calling_is
        ∙ pc_is (λ pc. (after_request (edited (record { x = registers; pc = pc }) memory stop)).state)
        ∙ ap (λ (image : Image). computed pid image.regs (carried_out (decoding image.regs) image.memory).memory (w3 registers memory led host put entry)) (image-edited (record { x = registers; pc = q.image.regs.pc }) memory stop (subst IsSome (sym also) refl))

    done4_is : (done_there scene path args env registers memory host put).reply ≡ (done4 registers memory led host put entry).reply
    done4_is = ap (λ t. (carried_out (execution plain pid t host put env) (memory_of pid t)).reply) there_is

    entered_together : LoadedAlike table (at_call scene).state pid x.tags led.index (done_here scene path args env).reply (done_there scene path args env registers memory host put).reply
        → GoesOn scene
    entered_together replies =
        replies_together registers memory led host put entry
        (subst (λ t. LoadedAlike table t pid x.tags led.index done.reply (done4 registers memory led host put entry).reply) at_is
        (subst (λ a. LoadedAlike table (at_call scene).state pid x.tags led.index a (done4 registers memory led host put entry).reply) done_is
        (subst (LoadedAlike table (at_call scene).state pid x.tags led.index (done_here scene path args env).reply) done4_is replies)))

-- ---- so both machines stay together

pub cancelled_execves_go_together : (S : Type 0) → CancelledExecvesGoTogether S
cancelled_execves_go_together S scene path args env e comes alike calm = (cancelled_alike (execve_of comes path args env alike.decoded calm) e alike).together

pub entered_execves_go_together : (S : Type 0) → EnteredExecvesGoTogether S
entered_execves_go_together S scene path args env registers memory led host put comes alike replies calm =
    (entered_together (execve_of comes path args env alike.decoded calm) registers memory led host put alike replies).together
