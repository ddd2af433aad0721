-- A call along paths that the tracer answers at its first stop.
use Rattle.std.specs.FinMap as map
use Rattle.std.proofs.Common.{◌≡◌, ℕ, Bool, true, false, cond, List, [], Some, None, Ok, refl, sym, ap, subst, ◌∙◌, ℤ}
use Rattle.std.specs.Prelude.{IsSome}
use Rattle.std.specs.Int.{cast_signed, w64}
use Rattle.law_turns.specs.pr_base.declared.errno.Errno.TheVariants.{EFAULT}
use Rattle.law_edits.specs.rv_mem.Actions.{AreEqualUnmarked, carried_out}
use Rattle.law_edits.specs.rv_mem.Memory.{Memory}
use Rattle.law_turns.specs.pt_args.declared.edit.Edit.TheVariants.{Cancel}
use Rattle.law_turns.specs.pt_results.Notes.{noted, tags_after}
use Rattle.law_turns.specs.kr_calls.Decoding.{decoding}
use Rattle.law_turns.specs.kr_calls.PathTable.{path_at}
use Rattle.law_turns.specs.kr_calls.declared.request.Request.{Request}
use Rattle.law_edits.specs.kr_model.State.{Image, Process, State}
use Rattle.law_edits.specs.kr_model.Walks.{seen}
use Rattle.law_edits.specs.kr_model.declared.outcome.Outcome.TheVariants.{Answer}
use Rattle.law_turns.proofs.law_allowed.RowLemmas.{StaysLike, stays-like}
use Rattle.law_turns.specs.kr_steps.Computing.{computed}
use Rattle.law_turns.specs.kr_stops.Stopped.{IsThere, Stopped, edited, nothing_handed}
use Rattle.law_turns.proofs.kr_stops.EditLemmas.{image-edited, there}
use Rattle.law_edits.specs.pt_faker.Stopping.{after_request, decoded_at, memory_at}
use Rattle.law_edits.specs.pt_faker.Faking.{no_longer_called, word_of}
use Rattle.law_edits.specs.pt_tracer.Planning.{edit_for, led_of, planned_by, texts_at}
use Rattle.law_edits.specs.pt_tracer.Registers.{arguments_at}
use Rattle.law_edits.specs.pt_tracer.Watched.{Tracing, after_decoding, after_plan, applied, awaiting, by_identities, entered, refused, with_pending}
use Rattle.law_edits.specs.pt_tracer.declared.plan.Led.{Led}
use Rattle.law_edits.specs.NoCalls.{without_call}
use Rattle.law_edits.proofs.AnsweredLemmas.{answered_calls_are_none}
use Rattle.law_turns.specs.Calls.{decoded_by, decoded_in}
use Rattle.law_turns.specs.Lasting.{CanBeCalled}
use Rattle.law_turns.specs.Operating.{done_in}
use Rattle.law_stops.proofs.CallLemmas as before
use Rattle.law_stops.proofs.CallLemmas.{exit_status, own_image, unwatched_exit}
use Rattle.law_turns.specs.pt_args.Laws.{poked as pages_poked}
use Rattle.law_turns.specs.pt_args.declared.edit.Edit.{Edit}
use Rattle.law_turns.specs.pt_args.declared.edit.Edit.TheVariants.{Emulate, Pass, Swap}
use Rattle.law_edits.specs.rv_mem.Memory.{with_pages}
use Rattle.law_edits.specs.pt_tracer.Poking.{may_poke, poked}
use Rattle.law_edits.specs.pt_tracer.Registers.{with_arguments}
use Rattle.law_edits.proofs.StopLemmas.{items_put, register_set}
use Rattle.law_stops.specs.Answering.{AnsweredCallsGoTogether, IsAnsweredAlike}
use Rattle.law_stops.specs.Scene.{IsCalm, Scene, at_call}
use Rattle.law_stops.specs.Turning.{StayTogether}
use Rattle.law_stops.proofs.AnsweredLemmas.{answered_together}
use Rattle.law_stops.proofs.CallerLemmas.{Callers, callers_of}
use Rattle.law_stops.proofs.CarryLemmas.{bears_none, lists_none, no_exec_told}
use Rattle.law_stops.proofs.SwapLemmas.{poked_stays, then_stays}

-- what an edit leaves that answers a call: the number of no call, and the bytes that it wrote
pub record IsLeftBy (pid : ℕ) (w : State ℕ Image) (q : Process ℕ Image) (left : Stopped) : Type 0 where
  pub memory : Memory
  pub stopped : left ≡ edited (without_call q.image.regs) memory (record { state = w; pid = pid; handed = nothing_handed })
  pub like : StaysLike q.image.memory.pages memory.pages

module _ (pid : ℕ) (w : State ℕ Image) (q : Process ℕ Image) (there_stop : IsThere (record { state = w; pid = pid; handed = nothing_handed })) (read : Memory) (like : StaysLike q.image.memory.pages read.pages) where
  abbrev stop : Stopped
  stop = record { state = w; pid = pid; handed = nothing_handed }

  abbrev after : Stopped
  after = edited q.image.regs read stop

  -- where nothing is written
  left_alone : IsLeftBy pid w q (no_longer_called after)
  left_alone = record { memory = read; stopped = register_set stop there_stop 17 0xffff_ffff_ffff_ffff q.image.regs read; like = like }

  left_poked : (pokes : List (ℕ × List ℕ)) → IsLeftBy pid w q (no_longer_called (poked pokes after))
  left_poked pokes =
      let memory = with_pages read (pages_poked read.pages pokes) in
      record {
        memory = memory;
        stopped = ap no_longer_called (items_put stop there_stop pokes q.image.regs read) ∙ register_set stop there_stop 17 0xffff_ffff_ffff_ffff q.image.regs memory;
        like = then_stays like (poked_stays pokes read like.whole like.placed);
      }

  left_by : (edit : Edit) (answer : ℤ) → (applied edit after).answer ≡ Some answer → IsLeftBy pid w q (applied edit after).stopped
  left_by Pass answer answers = absurd cc
  left_by (Cancel e) answer answers = left_alone
  left_by (Swap regs pokes) answer answers = by (may_poke pokes after) answers
    where
      by : (b : Bool) → (cond b (record { answer = None; stopped = with_arguments regs (poked pokes after) }) (refused EFAULT after)).answer ≡ Some answer
          → IsLeftBy pid w q (cond b (record { answer = None; stopped = with_arguments regs (poked pokes after) }) (refused EFAULT after)).stopped
      by true answers = absurd cc
      by false answers = left_alone
  left_by (Emulate pokes own) answer answers = by (may_poke pokes after)
    where
      by : (b : Bool) → IsLeftBy pid w q (cond b (record { answer = Some own; stopped = no_longer_called (poked pokes after) }) (refused EFAULT after)).stopped
      by true = left_poked pokes
      by false = left_alone

module _ {S : Type 0} {scene : Scene S} (callers : Callers scene) (r : Request) (answer : ℤ) (both : IsAnsweredAlike scene r answer) (calm : IsCalm scene) where
  open scene use {table, made, pid, traced as n}
  open callers use {comes as c, also_caller as q, also_lives as also}

  abbrev x : Tracing
  x = n.watcher

  abbrev first : Stopped
  first = before.stop callers

  abbrev s1 : State ℕ Image
  s1 = before.s1 callers

  abbrev p1 : Process ℕ Image
  p1 = before.p1 callers

  abbrev at : State ℕ Image
  at = decoded_in pid p1 s1

  abbrev dec : Memory
  dec = (decoded_by q).memory

  mine : CanBeCalled table made pid s1 p1
  mine = before.can callers

  there_first : IsThere first
  there_first = there n.state pid nothing_handed q c.also_lasts.lawful.pids also

  reads_here : (decoded_by p1).reply ≡ Ok r
  reads_here = sym (before.decoded_here callers) ∙ both.decoded

  reads_there : (decoded_at first).reply ≡ Ok r
  reads_there = before.decoded_there callers ∙ sym (before.requests callers calm) ∙ reads_here

  abbrev edit : Edit
  edit = edit_for (texts_at x.bindings x.tags (after_request first)) (after_request first) r

  abbrev led : Led
  led = led_of (texts_at x.bindings x.tags (after_request first)) pid r

  answers : (applied edit (after_request first)).answer ≡ Some answer
  answers = ap (λ t. (applied (edit_for (texts_at x.bindings x.tags (after_request t)) (after_request t) r) (after_request t)).answer) (sym (before.calling_is callers)) ∙ both.answers

  after_is : after_request first ≡ edited q.image.regs dec first
  after_is = ap (λ (image : Image). edited image.regs (carried_out (decoding image.regs) image.memory).memory first) (own_image pid n.state q also)

  left : IsLeftBy pid n.state q (applied edit (after_request first)).stopped
  left =
      let own = c.also_lasts.lawful.processes pid q also in
      subst (λ t. IsLeftBy pid n.state q (applied edit t).stopped) (sym after_is)
      (left_by pid n.state q there_first dec (stays-like (decoding q.image.regs) q.image.memory own.whole own.paged) edit answer (ap (λ t. (applied edit t).answer) (sym after_is) ∙ answers))

  entered_is : entered x first ≡ (with_pending (map.insert x.pending pid (awaiting (arguments_at (after_request first)) r led (Some answer))) x, (applied edit (after_request first)).stopped)
  entered_is =
      ap (after_decoding x (after_request first)) reads_there
      ∙ ap (by_identities x r (after_request first)) c.traces.identities
      ∙ ap (λ lists. after_plan x (after_request first) r (planned_by x.bindings x.tags (after_request first) r lists (path_at r 0))) (lists_none r both.kind)
      ∙ ap (λ a. (with_pending (map.insert x.pending pid (awaiting (arguments_at (after_request first)) r led a)) x, (applied edit (after_request first)).stopped)) answers

  at_is : (at_call scene).state ≡ at
  at_is =
      ap (λ t. (after_request (record { state = t; pid = pid; handed = nothing_handed })).state) (before.shelf callers)
      ∙ ap (λ (image : Image). computed pid image.regs (carried_out (decoding image.regs) image.memory).memory s1) (own_image pid s1 p1 mine.lives)

  replies : (done_in pid r (seen table pid at r) at).reply ≡ record { outcome = Answer answer; changes = [] }
  replies = subst (λ t. (done_in pid r (seen table pid t r) t).reply ≡ record { outcome = Answer answer; changes = [] }) at_is both.replies

  alike : AreEqualUnmarked (done_in pid r (seen table pid at r) at).memory.pages left.memory.pages
  alike =
      let entry = ap (λ t. (applied (edit_for (texts_at x.bindings x.tags (after_request t)) (after_request t) r) (after_request t)).stopped) (before.calling_is callers) ∙ left.stopped in
      let image = image-edited (without_call q.image.regs) left.memory first (subst IsSome (sym also) refl) in
      subst (λ t. AreEqualUnmarked (done_in pid r (seen table pid t r) t).memory.pages left.memory.pages) at_is
      (subst (AreEqualUnmarked (done_in pid r (seen table pid (at_call scene).state r) (at_call scene).state).memory.pages) (ap (λ t. (memory_at t).pages) entry ∙ ap (λ (i : Image). i.memory.pages) image) both.alike)

  silent : tags_after x.tags pid (noted r led.index (cast_signed w64 (word_of answer))) ≡ x.tags
  silent =
      subst (λ t. tags_after x.tags pid (noted r (led_of (texts_at x.bindings x.tags (after_request t)) pid r).index (cast_signed w64 (word_of answer))) ≡ x.tags) (before.calling_is callers) both.silent

  told_together : StayTogether scene
  told_together =
      answered_together callers calm r reads_here (no_exec_told r both.kind) left.memory led answer left.like alike replies silent (applied edit (after_request first)).stopped left.stopped
      (answered_calls_are_none first (decoded_at first).memory r edit answer there_first reads_there answers) entered_is (λ next. bears_none next r answer both.kind)

pub answered_calls_go_together : (S : Type 0) → AnsweredCallsGoTogether S
answered_calls_go_together S scene r answer comes both calm = told_together (callers_of comes) r answer both calm
