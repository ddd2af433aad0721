-- A call whose paths the tracer swaps, or that it lets pass, with its stops.
use Rattle.std.specs.FinMap as map
use Rattle.std.proofs.Common.{◌≡◌, ℕ, true, false, List, [], ◌∷◌, Option, Some, None, refl, sym, ap, subst, ◌∙◌, arith}
use Rattle.std.specs.Prelude.{IsSome, get_or, nat_eq, slice_set}
use Rattle.std.proofs.lemmas.Bool.Decides.{nat_tests}
use Rattle.std.specs.Int.{cast_signed, w64}
use Rattle.law_turns.proofs.pr_base.MapLemmas.{get-insert_same}
use Rattle.law_edits.specs.rv_mem.Actions.{Action, AreEqualUnmarked, Done, WriteBytes, carried_out}
use Rattle.law_edits.specs.rv_mem.Memory.{Memory, with_pages}
use Rattle.law_edits.specs.rv_mem.Pages.{HoldsBytes, IsPlaced, IsWhole, Pages, written}
use Rattle.law_edits.specs.rv_mem.declared.regs.Regs.{Regs}
use Rattle.law_turns.specs.pt_args.Laws.{ShelvesHoldTheirItems, TextsAreReadBack, poked}
use Rattle.law_turns.specs.pt_args.declared.edit.Edit.TheVariants.{Pass}
use Rattle.law_turns.specs.pt_results.Notes.{noted, tags_after}
use Rattle.law_edits.specs.kr_view.View.{plain}
use Rattle.law_turns.specs.kr_calls.Decoding.{decoding}
use Rattle.law_turns.specs.law_kept.Bytes.{HasBytes}
use Rattle.law_turns.proofs.law_kept.LivingLemmas.{process-bytes}
use Rattle.law_turns.specs.kr_calls.PathTable.{path_at}
use Rattle.law_turns.specs.kr_calls.declared.request.Request.{Request}
use Rattle.law_turns.specs.kr_calls.declared.request.Request.TheVariants as call
use Rattle.law_turns.proofs.law_allowed.RowLemmas.{StaysLike, stays-like}
use Rattle.law_edits.specs.kr_model.State.{Image, Process, State}
use Rattle.law_turns.specs.kr_turns.PlainCall.{Came}
use Rattle.law_turns.specs.kr_stops.Stopped.{IsThere, Stopped, edited, image_at, nothing_handed}
use Rattle.law_turns.specs.kr_turns.Turn.{called}
use Rattle.law_turns.proofs.kr_stops.EditLemmas.{image-edited, there as is_there}
use Rattle.law_edits.specs.pt_faker.Stopping.{after_request, decoded_at, memory_at}
use Rattle.law_edits.specs.pt_tracer.Planning.{edit_for, led_of, planned_by, stack_at, texts_at}
use Rattle.law_edits.specs.pt_tracer.Registers.{arguments_at}
use Rattle.law_edits.specs.pt_tracer.Watched.{Applied, Tracing, after_decoding, after_plan, answer_at, applied, awaiting, by_identities, entered, exited, with_pending, with_tags, without_pending}
use Rattle.law_edits.specs.pt_tracer.declared.pending.Pending.{Pending}
use Rattle.law_edits.specs.pt_tracer.declared.plan.Led.{Led}
use Rattle.law_edits.specs.pt_tracer.declared.registers.Arguments.{Arguments}
use Rattle.law_turns.specs.law_kept.ImagePaths.{is_told_of_paths}
use Rattle.law_edits.specs.Exits.{left_with}
use Rattle.law_turns.specs.Calls.{decoded_by}
use Rattle.law_turns.proofs.CalledLemmas.{decoded_holds}
use Rattle.law_turns.proofs.ImageLemmas.{given}
use Rattle.law_stops.specs.Scene.{IsCalm, Scene, at_first_stop, caller_here, caller_there, edit_there}
use Rattle.law_stops.specs.Swapping.{IsPassedAlike, IsSwappedAlike, PassedCallsGoTogether, SwappedCallsGoTogether}
use Rattle.law_stops.specs.Turning.{StayTogether}
use Rattle.law_stops.proofs.AnsweredLemmas.{lives_changed}
use Rattle.law_stops.proofs.CallLemmas as before
use Rattle.law_stops.proofs.CallLemmas.{exit_status, own_image, plain_named, unwatched_exit}
use Rattle.law_stops.proofs.CallerLemmas.{Callers, callers_of}
use Rattle.law_edits.specs.Requests.{NewText, with_first, with_second, with_swaps}
use Rattle.law_edits.specs.Shelves.{items_at, memory_behind, new_texts, registers_behind, swap_edit}
use Rattle.law_edits.specs.Stops.{CanBeSwapped, IsSwapped}
use Rattle.law_edits.proofs.ExitLemmas.{exits_behind_swaps}
use Rattle.law_edits.proofs.SwapLemmas.{swapped_here}
use Rattle.law_stops.proofs.CarryLemmas.{IsEntered, carried_together, lists_none, runs_none}
use Rattle.law_stops.proofs.PassLemmas.{exits_pass}
use Rattle.law_stops.proofs.RegisterLemmas.{put_beside, put_there}

-- other texts make it no other call
told_first : (text : List ℕ) (r : Request) → is_told_of_paths (with_first text r) ≡ is_told_of_paths r
told_first text (call.Mkdirat dirfd path mode) = refl
told_first text _ = refl

told_second : (text : List ℕ) (r : Request) → is_told_of_paths (with_second text r) ≡ is_told_of_paths r
told_second text (call.Linkat olddir old newdir new flags) = refl
told_second text _ = refl

told_swapped : (first : NewText) (second : Option NewText) (r : Request) → is_told_of_paths (with_swaps first second r) ≡ is_told_of_paths r
told_swapped first None r = told_first first.text r
told_swapped first (Some second) r = told_second second.text (with_first first.text r) ∙ told_first first.text r

-- ---- memory

-- bytes that are written leave the pages where they are
abbrev writes : List (ℕ × List ℕ) → Action (Unit {0})
writes [] = Done tt
writes (p ∷ ps) = WriteBytes p.0 p.1 (writes ps)

written_by : (items : List (ℕ × List ℕ)) (m : Memory) → (carried_out (writes items) m).memory.pages ≡ poked m.pages items
written_by [] m = refl
written_by (p ∷ items) m = written_by items (with_pages m (written m.pages p.0 p.1))

pub poked_stays : (items : List (ℕ × List ℕ)) (m : Memory) → IsWhole m.pages → IsPlaced m.pages → StaysLike m.pages (poked m.pages items)
poked_stays items m whole placed = subst (StaysLike m.pages) (written_by items m) (stays-like (writes items) m whole placed)

pub then_stays : {a b d : Pages} → StaysLike a b → StaysLike b d → StaysLike a d
then_stays first second = record { whole = second.whole; placed = second.placed; layout = second.layout ∙ first.layout }

-- ---- swapped paths

module _ {S : Type 0} {scene : Scene S} (back : TextsAreReadBack) (shelves : ShelvesHoldTheirItems) (callers : Callers scene) (r : Request) (first : NewText) (second : Option NewText)
    (can : CanBeSwapped (caller_there scene) (memory_at (caller_here scene)) r first second) (swap : edit_there scene r ≡ swap_edit (stack_at (at_first_stop scene)) first second) where
  open scene use {pid, traced as n}
  open callers use {comes as c, also_caller as q, also_lives as also}

  abbrev x : Tracing
  x = n.watcher

  abbrev s1 : State ℕ Image
  s1 = before.s1 callers

  abbrev p1 : Process ℕ Image
  p1 = before.p1 callers

  abbrev stop : Stopped
  stop = before.stop callers

  abbrev sp : ℕ
  sp = stack_at (after_request stop)

  abbrev pub regs3 : Regs
  regs3 = registers_behind sp first second q.image.regs

  abbrev pub memory3 : Memory
  memory3 = memory_behind sp first second (decoded_by q).memory

  abbrev left : Stopped
  left = edited regs3 memory3 stop

  can_here : CanBeSwapped stop p1.image.memory r first second
  can_here =
      subst (λ t. CanBeSwapped t p1.image.memory r first second) (before.calling_is callers)
      (subst (λ memory. CanBeSwapped (caller_there scene) memory r first second)
      (ap (λ t. memory_at (record { state = t; pid = pid; handed = nothing_handed })) (before.shelf callers) ∙ ap (λ (image : Image). image.memory) (own_image pid s1 p1 (before.lives1 callers))) can)

  abbrev made_of : Applied
  made_of = applied (swap_edit sp first second) (after_request stop)

  swapped : IsSwapped stop p1.image.memory r first second made_of
  swapped = swapped_here back shelves stop p1.image.memory r first second can_here

  made_is : made_of.stopped ≡ left
  made_is = swapped.stopped ∙ ap (λ (image : Image). edited (registers_behind sp first second image.regs) (memory_behind sp first second (carried_out (decoding image.regs) image.memory).memory) stop) (own_image pid n.state q also)

  swaps : edit_for (texts_at x.bindings x.tags (after_request stop)) (after_request stop) r ≡ swap_edit sp first second
  swaps = subst (λ t. edit_for (texts_at x.bindings x.tags (after_request t)) (after_request t) r ≡ swap_edit (stack_at (after_request t)) first second) (before.calling_is callers) swap

  -- what it leaves
  pub swap_left : (applied (edit_for (texts_at x.bindings x.tags (after_request stop)) (after_request stop) r) (after_request stop)).stopped ≡ left
  swap_left = ap (λ edit. (applied edit (after_request stop)).stopped) swaps ∙ made_is

  image_left : image_at left ≡ record { regs = regs3; memory = memory3 }
  image_left = image-edited regs3 memory3 stop (subst IsSome (sym also) refl)

  pub swap_stays : StaysLike q.image.memory.pages memory3.pages
  swap_stays =
      let own = c.also_lasts.lawful.processes pid q also in
      let read = stays-like (decoding q.image.regs) q.image.memory own.whole own.paged in
      then_stays read (poked_stays (items_at sp (new_texts first second)) (decoded_by q).memory read.whole read.placed)

  -- which holds bytes, as all does that it leaves
  entered_there : is_told_of_paths r ≡ true → (entered x stop).1 ≡ (applied (edit_for (texts_at x.bindings x.tags (after_request stop)) (after_request stop) r) (after_request stop)).stopped
  entered_there kind =
      ap (λ (e : Tracing × Stopped). e.1)
      (ap (after_decoding x (after_request stop)) can_here.decoded ∙ ap (by_identities x r (after_request stop)) c.traces.identities
      ∙ ap (λ lists. after_plan x (after_request stop) r (planned_by x.bindings x.tags (after_request stop) r lists (path_at r 0))) (lists_none r kind))

  pub swap_bytes : is_told_of_paths r ≡ true → HoldsBytes memory3.pages
  swap_bytes kind =
      let has = subst (λ t. HasBytes (entered x t).1.state) (before.calling_is callers) c.watched in
      (process-bytes pid left.state (subst (λ (t : Stopped). HasBytes t.state) (entered_there kind ∙ swap_left) has) (given pid regs3 memory3 q) (lives_changed pid (given pid regs3 memory3) (λ p. refl) n.state q also)).memory

  -- ---- told alike

  module _ (alike : IsSwappedAlike scene r first second) (calm : IsCalm scene) where
    pub swap_entered : IsEntered callers r (with_swaps first second r) alike.told calm regs3.x memory3
    swap_entered = record {
      answer = ap (λ edit. (applied edit (after_request stop)).answer) swaps ∙ swapped.answer;
      stopped = swap_left;
      like = swap_stays;
      bytes = swap_bytes alike.told.kind;
      unmarked = subst (AreEqualUnmarked p1.image.memory.pages) (ap (λ t. (memory_at t).pages) made_is ∙ ap (λ (image : Image). image.memory.pages) image_left) swapped.alike;
      reads = sym (ap (λ t. (decoded_at t).reply) made_is ∙ ap (λ (image : Image). (carried_out (decoding image.regs) image.memory).reply) image_left) ∙ swapped.decodes;
      kind = told_swapped first second r ∙ alike.told.kind;
      exits = λ came word there regs.
          exits_behind_swaps (with_pending (map.insert x.pending pid (awaiting (arguments_at (after_request stop)) r (led_of (texts_at x.bindings x.tags (after_request stop)) pid r) None)) x) stop (called pid came) r first second
          (led_of (texts_at x.bindings x.tags (after_request stop)) pid r) word c.traces.identities (get-insert_same x.pending pid _) (runs_none r alike.told.kind) can_here.decoded can_here.named (is_there n.state pid nothing_handed q c.also_lasts.lawful.pids also) there
          (regs ∙ ap (λ (image : Image). slice_set (registers_behind sp first second image.regs).x 10 word) (sym (own_image pid n.state q also)));
    }

    pub swapped_together : StayTogether scene
    swapped_together = carried_together callers r (with_swaps first second r) alike.told calm _ _ swap_entered

pub swapped_calls_go_together : TextsAreReadBack → ShelvesHoldTheirItems → (S : Type 0) → SwappedCallsGoTogether S
swapped_calls_go_together back shelves S scene r first second comes alike calm = swapped_together back shelves (callers_of comes) r first second alike.can alike.swaps alike calm

-- ---- paths that are left as they are

module _ {S : Type 0} {scene : Scene S} (callers : Callers scene) (r : Request) (alike : IsPassedAlike scene r) (calm : IsCalm scene) where
  open scene use {made, pid, traced as n}
  open callers use {comes as c, also_caller as q, also_lives as also}

  abbrev plain_stop : Stopped
  plain_stop = before.stop callers

  abbrev keeps : Tracing
  keeps = n.watcher

  passes : edit_for (texts_at keeps.bindings keeps.tags (after_request plain_stop)) (after_request plain_stop) r ≡ Pass
  passes = subst (λ t. edit_for (texts_at keeps.bindings keeps.tags (after_request t)) (after_request t) r ≡ Pass) (before.calling_is callers) alike.passes

  abbrev led : Led
  led = led_of (texts_at keeps.bindings keeps.tags (after_request plain_stop)) pid r

  abbrev pending : Pending
  pending = awaiting (arguments_at (after_request plain_stop)) r led None

  abbrev y : Tracing
  y = with_pending (map.insert keeps.pending pid pending) keeps

  after_is : after_request plain_stop ≡ edited q.image.regs (decoded_by q).memory plain_stop
  after_is = ap (λ (image : Image). edited image.regs (carried_out (decoding image.regs) image.memory).memory plain_stop) (own_image pid n.state q also)

  after_image : image_at (after_request plain_stop) ≡ record { regs = q.image.regs; memory = (decoded_by q).memory }
  after_image = ap image_at after_is ∙ image-edited q.image.regs (decoded_by q).memory plain_stop (subst IsSome (sym also) refl)

  module _ (came : Came) (word : ℕ) (there : IsThere (called pid came)) (regs : (image_at (called pid came)).regs.x ≡ slice_set q.image.regs.x 10 word) where
    abbrev v : Stopped
    v = called pid came

    abbrev arguments_of : List ℕ → Arguments
    arguments_of xs = record { a1 = get_or xs 11 0; a2 = get_or xs 12 0; a3 = get_or xs 13 0; a4 = get_or xs 14 0; a5 = get_or xs 15 0; a7 = get_or xs 17 0 }

    beside : (j : ℕ) → nat_eq j 10 ≡ false → get_or (slice_set q.image.regs.x 10 word) j 0 ≡ get_or q.image.regs.x j 0
    beside j other = put_beside q.image.regs.x 10 j word (λ same. absurd (let is : nat_eq j 10 ≡ true = grind (arith, nat_tests) in let never : true ≡ false = sym is ∙ other in cc))

    same_arguments : pending.passed ≡ arguments_at v
    same_arguments =
        ap (λ (image : Image). arguments_of image.regs.x) after_image
        ∙ sym (λ i. record { a1 = beside 11 refl i; a2 = beside 12 refl i; a3 = beside 13 refl i; a4 = beside 14 refl i; a5 = beside 15 refl i; a7 = beside 17 refl i })
        ∙ ap arguments_of (sym regs)

    same_answer : answer_at v ≡ cast_signed w64 word
    same_answer = ap (λ xs. cast_signed w64 (get_or xs 10 0)) regs ∙ ap (cast_signed w64) (put_there q.image.regs.x 10 word (let many = (c.also_sized pid q also).registers in omega (arith, many)))

    old_is : (image_at plain_stop).regs.x ≡ q.image.regs.x
    old_is = ap (λ (image : Image). image.regs.x) (own_image pid n.state q also)

    passed_exit : exited y v ≡ left_with y v r led word (image_at plain_stop).regs.x
    passed_exit =
        exits_pass y v pending c.traces.identities (get-insert_same keeps.pending pid pending) (runs_none r alike.told.kind) refl same_arguments there
        ∙ ap (λ answer. (with_tags (tags_after y.tags pid (noted r led.index answer)) (without_pending pid y), v)) same_answer
        ∙ ap (λ t. (with_tags (tags_after y.tags pid (noted r led.index (cast_signed w64 word))) (without_pending pid y), t))
        (sym (ap (λ xs. edited (record { x = xs; pc = (image_at v).regs.pc }) (memory_at v) v) (ap (λ xs. slice_set xs 10 word) old_is ∙ sym regs) ∙ there.one))

  pub pass_entered : IsEntered callers r r alike.told calm q.image.regs.x (decoded_by q).memory
  pass_entered =
      let own = c.also_lasts.lawful.processes pid q also in
      record {
        answer = ap (λ edit. (applied edit (after_request plain_stop)).answer) passes;
        stopped = ap (λ edit. (applied edit (after_request plain_stop)).stopped) passes ∙ after_is;
        like = stays-like (decoding q.image.regs) q.image.memory own.whole own.paged;
        bytes = decoded_holds plain made pid n.state q (before.can_too callers);
        unmarked = subst (AreEqualUnmarked (before.p1 callers).image.memory.pages) (sym (before.pages_left callers))
            ((before.match1 callers).images.memories pid (before.p1 callers) q (before.lives1 callers) also);
        reads = sym (before.requests_then callers calm) ∙ sym (before.decoded_here callers) ∙ alike.told.decoded;
        kind = alike.told.kind;
        exits = passed_exit;
      }

pub passed_calls_go_together : (S : Type 0) → PassedCallsGoTogether S
passed_calls_go_together S scene r comes alike calm =
    let callers = callers_of comes in carried_together callers r r alike.told calm _ _ (pass_entered callers r alike calm)
