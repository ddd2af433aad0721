-- The caller on the plain machine as the tracer leaves it at the first stop: its memory has the pages that it had, and bytes.
use Rattle.std.specs.Prelude.{IsSome}
use Rattle.std.proofs.Common.{◌≡◌, ℕ, Some, refl, sym, ap, subst, ◌∙◌}
use Rattle.law_edits.specs.rv_mem.Actions.{carried_out}
use Rattle.law_edits.specs.rv_mem.Memory.{Memory}
use Rattle.law_edits.specs.rv_mem.Pages.{HoldsBytes}
use Rattle.law_edits.specs.rv_mem.declared.regs.Regs.{Regs}
use Rattle.law_edits.specs.kr_view.View.{plain}
use Rattle.law_turns.specs.kr_calls.Decoding.{decoding}
use Rattle.law_turns.specs.kr_calls.declared.request.Request.{Request}
use Rattle.law_turns.proofs.law_allowed.DecodedLemmas.{decoding-leaves-pages}
use Rattle.law_turns.proofs.law_allowed.RowLemmas.{StaysLike, lawful-image}
use Rattle.law_edits.specs.kr_model.Bare.{bare, pins_of}
use Rattle.law_edits.specs.kr_model.State.{Image, Process, State, image_layout, process, with_process}
use Rattle.law_turns.specs.kr_steps.Calls.{LastsLawful}
use Rattle.law_turns.specs.kr_steps.Computing.{computed}
use Rattle.law_turns.specs.kr_stops.Stopped.{Stopped, edited}
use Rattle.law_turns.proofs.kr_stops.EditLemmas.{image-edited}
use Rattle.law_edits.specs.pt_faker.Stopping.{after_request}
use Rattle.law_edits.specs.pt_tracer.Planning.{edit_for, texts_at}
use Rattle.law_edits.specs.pt_tracer.Watched.{applied}
use Rattle.law_edits.specs.law_walks.BareFacts.{AreSeenAlike}
use Rattle.law_edits.proofs.law_walks.OneMountLemmas.{lawful_states_are_in_one_mount}
use Rattle.law_edits.proofs.law_walks.SightLemmas.{plain_sight_is_bare}
use Rattle.law_turns.specs.Calls.{decoded_by, decoded_in}
use Rattle.law_turns.specs.Lasting.{CanBeCalled}
use Rattle.law_turns.proofs.CalledLemmas.{lasts_living}
use Rattle.law_turns.proofs.ImageLemmas.{bare_computed, given}
use Rattle.law_stops.specs.Scene.{Scene}
use Rattle.law_stops.specs.Swapping.{at_entry}
use Rattle.law_stops.proofs.AnsweredLemmas.{computed_twice, lives_changed}
use Rattle.law_stops.proofs.CallLemmas as before
use Rattle.law_stops.proofs.CallLemmas.{plain_named}
use Rattle.law_stops.proofs.CallerLemmas.{Callers}

module _ {S : Type 0} {scene : Scene S} (callers : Callers scene) where
  open scene use {made, pid, traced as n}
  open callers use {comes as c, also_caller as q, also_lives as also}

  abbrev w : State ℕ Image
  w = n.state

  -- with any registers and such a memory
  module _ (regs : Regs) (memory : Memory) (like : StaysLike q.image.memory.pages memory.pages) where
    abbrev pub state_with : State ℕ Image
    state_with = computed pid regs memory w

    abbrev pub caller_with : Process ℕ Image
    caller_with = given pid regs memory q

    pub lives_with : process pid state_with ≡ Some caller_with
    lives_with = lives_changed pid (given pid regs memory) (λ p. refl) w q also

    pub lasts_with : LastsLawful (λ k. k) plain made state_with
    lasts_with = record { lawful = lawful-image (λ k. k) plain w c.also_lasts.lawful pid q also memory like (λ _. regs); lasts = lasts_living made (with_process pid (given pid regs memory)) w c.also_lasts.lasts }

    -- a call can be made with them
    pub can_with : HoldsBytes memory.pages → CanBeCalled plain made pid state_with caller_with
    can_with bytes = record { lives = lives_with; lasts = lasts_with; few = c.few; holds = bytes; named = plain_named }

  -- nothing but registers and bytes is other
  pub bares_with : (regs others : Regs) (memory other : Memory) → StaysLike q.image.memory.pages memory.pages → StaysLike q.image.memory.pages other.pages
      → bare image_layout (pins_of plain) (computed pid regs memory w) ≡ bare image_layout (pins_of plain) (computed pid others other w)
  bares_with regs others memory other like alike =
      let rise = c.also_lasts.lawful.pids.living in
      bare_computed pid regs memory (pins_of plain) w.next_pid w q rise also like.layout ∙ sym (bare_computed pid others other (pins_of plain) w.next_pid w q rise also alike.layout)

  -- so paths lead where they lead
  pub sights_with : (regs others : Regs) (memory other : Memory) → StaysLike q.image.memory.pages memory.pages → StaysLike q.image.memory.pages other.pages → (r : Request) → AreSeenAlike pid (computed pid regs memory w) (computed pid others other w) r
  sights_with regs others memory other like alike r =
      plain_sight_is_bare (pins_of plain) (pins_of plain) (computed pid regs memory w) (computed pid others other w) pid r (bares_with regs others memory other like alike) (lawful_states_are_in_one_mount (computed pid regs memory w) (lasts_with regs memory like).lawful)
      (lawful_states_are_in_one_mount (computed pid others other w) (lasts_with others other alike).lawful)

  -- ---- behind the decoding of a call

  module _ (regs : Regs) (memory : Memory) (like : StaysLike q.image.memory.pages memory.pages) (bytes : HoldsBytes memory.pages) where
    abbrev pub decoded : Memory
    decoded = (decoded_by (given pid regs memory q)).memory

    abbrev pub decoded_with : State ℕ Image
    decoded_with = decoded_in pid (given pid regs memory q) (computed pid regs memory w)

    pub pages_with : decoded.pages ≡ memory.pages
    pages_with = decoding-leaves-pages regs memory bytes

    pub like_decoded : StaysLike q.image.memory.pages decoded.pages
    like_decoded = subst (StaysLike q.image.memory.pages) (sym pages_with) like

    pub decoded_is : decoded_with ≡ computed pid regs decoded w
    decoded_is = computed_twice pid regs regs memory decoded w

    -- the plain kernel decodes that, where the tracer leaves it
    module _ (r : Request) where
      abbrev stop : Stopped
      stop = before.stop callers

      abbrev pub Leaves : Type 0
      Leaves = (applied (edit_for (texts_at n.watcher.bindings n.watcher.tags (after_request stop)) (after_request stop) r) (after_request stop)).stopped ≡ edited regs memory stop

      pub there_is : Leaves → (after_request (at_entry scene r)).state ≡ decoded_with
      there_is leaves =
          ap (λ t. (after_request (applied (edit_for (texts_at n.watcher.bindings n.watcher.tags (after_request t)) (after_request t) r) (after_request t)).stopped).state) (before.calling_is callers)
          ∙ ap (λ t. (after_request t).state) leaves
          ∙ ap (λ (image : Image). computed pid image.regs (carried_out (decoding image.regs) image.memory).memory (computed pid regs memory w)) (image-edited regs memory stop (subst IsSome (sym also) refl))
