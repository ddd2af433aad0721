-- A calm call at its first stop: a watcher that leaves it to the kernel leaves the process as it is.
use Rattle.std.proofs.Common.{◌≡◌, ℕ, Bool, false, Some, None, sym, ap, ◌∙◌}
use Rattle.law_edits.specs.rv_mem.Actions.{carried_out}
use Rattle.law_turns.specs.kr_calls.Decoding.{decoding}
use Rattle.law_edits.specs.kr_model.State.{Image, Process, State, process}
use Rattle.law_turns.proofs.law_allowed.DecodedLemmas.{decoding-leaves-pages}
use Rattle.law_turns.specs.kr_steps.Computing.{computed}
use Rattle.law_turns.specs.kr_turns.Breaking.{plain_rule}
use Rattle.law_turns.specs.kr_turns.PlainCall.{Came, plain_call}
use Rattle.law_turns.specs.kr_stops.Stopped.{Stopped, nothing_handed}
use Rattle.law_turns.specs.kr_turns.Turn.{Machine, Tally, after_born, after_plain, called, calling, with_broken}
use Rattle.law_turns.specs.kr_stops.Watching.{unwatched}
use Rattle.law_edits.specs.pt_faker.Faking.{Faking, entered as faked_entry, faker}
use Rattle.law_edits.specs.pt_faker.Stopping.{after_request, decoded_at}
use Rattle.law_turns.specs.Calls.{decoded_by, decoded_in}
use Rattle.law_turns.specs.Lasting.{CanBeCalled}
use Rattle.law_turns.proofs.CalledLemmas.{decoded_lives, decoded_process}
use Rattle.law_turns.proofs.ComeLemmas.{after_end_broken}
use Rattle.law_turns.proofs.QuietLemmas.{kept_none}
use Rattle.law_turns.proofs.UnreadLemmas.{calm_unread, unread_before}
use Rattle.law_stops.proofs.CallLemmas as before
use Rattle.law_stops.proofs.CallLemmas.{own_image}
use Rattle.law_stops.proofs.CallerLemmas.{FakedCallers, untold_callers}
use Rattle.law_stops.specs.Going.{IsCalmFaked, faked_after}
use Rattle.law_stops.specs.Scene.{IsCalm, Scene, caller_here}

module _ {scene : Scene Faking} (callers : FakedCallers scene) where
  open scene use {table, made, pid, mounted as m}

  abbrev pub s1 : State ℕ Image
  s1 = before.s1 (untold_callers callers)

  abbrev pub p1 : Process ℕ Image
  p1 = before.p1 (untold_callers callers)

  pub lives1 : process pid s1 ≡ Some p1
  lives1 = before.lives1 (untold_callers callers)

  pub can : CanBeCalled table made pid s1 p1
  can = before.can (untold_callers callers)

  abbrev pub lacks : Bool
  lacks = before.lacks (untold_callers callers)

  -- ---- the first stop

  abbrev pub first : Stopped
  first = record { state = s1; pid = pid; handed = nothing_handed }

  pub calling_is : calling 1 pid m.state ≡ first
  calling_is = ap (λ t. record { state = t; pid = pid; handed = nothing_handed }) (before.shelf (untold_callers callers))

  pub decoded_first : (decoded_at first).reply ≡ (decoded_by p1).reply
  decoded_first = ap (λ (image : Image). (carried_out (decoding image.regs) image.memory).reply) (own_image pid s1 p1 lives1)

  abbrev pub s2 : State ℕ Image
  s2 = decoded_in pid p1 s1

  abbrev pub second : Stopped
  second = record { state = s2; pid = pid; handed = nothing_handed }

  pub after_first : after_request first ≡ second
  after_first = ap (λ (image : Image). record { state = computed pid image.regs (carried_out (decoding image.regs) image.memory).memory s1; pid = pid; handed = nothing_handed }) (own_image pid s1 p1 lives1)

  abbrev pub behind_entry : Faking × Stopped → Machine Faking
  behind_entry e = after_plain faker pid (plain_call table pid e.1.state) e.0 (with_broken (plain_rule 1 table pid lacks e.1.state) m.tally)

  -- what is judged is calm
  pub calm_rule : (e : Faking × Stopped) → (behind_entry e).tally.broken ≡ None → plain_rule 1 table pid lacks e.1.state ≡ None
  calm_rule e calm =
      let came = plain_call table pid e.1.state in
      let rule = plain_rule 1 table pid lacks e.1.state in
      kept_none m.tally.broken rule (sym (after_end_broken faker table pid came.end (called pid came) (after_born faker pid came.child e.0) (with_broken rule m.tally)) ∙ calm)

  -- ---- a call that is left to the kernel

  module _ (f1 : Faking) (enters : faked_entry m.watcher (caller_here scene) ≡ (f1, second)) (calm : IsCalmFaked scene) where
    entered_call : faked_after scene ≡ behind_entry (f1, second)
    entered_call = ap behind_entry enters

    read_twice : (decoded_by (decoded_process table made pid s1 p1 can)).memory.read_marked ≡ false
    read_twice =
        calm_unread table pid lacks s2 (decoded_process table made pid s1 p1 can) (decoded_lives table made pid s1 p1 can)
        (calm_rule (f1, second) (sym (ap (λ (x : Machine Faking). x.tally.broken) entered_call) ∙ calm))

    pub read_once : (decoded_by p1).memory.read_marked ≡ false
    read_once = unread_before (decoding p1.image.regs) (decoded_by p1).memory read_twice

    read_none : p1.image.memory.read_marked ≡ false
    read_none = unread_before (decoding p1.image.regs) p1.image.memory read_once

    same_memory : (decoded_by p1).memory ≡ p1.image.memory
    same_memory = λ i. record { pages = decoding-leaves-pages p1.image.regs p1.image.memory can.holds i; read_marked = (read_once ∙ sym read_none) i }

    same_state : s2 ≡ s1
    same_state = ap (λ memory. computed pid p1.image.regs memory s1) same_memory ∙ before.itself (untold_callers callers)

    abbrev pub judged : Tally
    judged = before.judged (untold_callers callers)

    abbrev pub came : Came
    came = plain_call table pid s1

    pub faked_call : faked_after scene ≡ after_plain faker pid came f1 judged
    faked_call = entered_call ∙ ap (λ t. after_plain faker pid (plain_call table pid t) f1 (with_broken (plain_rule 1 table pid lacks t) m.tally)) same_state

    -- so it breaks no rule where nobody watches either
    pub unwatched_calm : IsCalm scene
    unwatched_calm =
        ap (λ (x : Machine Faking). x.tally.broken) (before.mounted_call (untold_callers callers))
        ∙ after_end_broken unwatched table pid came.end (called pid came) (after_born unwatched pid came.child m.watcher) judged
        ∙ sym (after_end_broken faker table pid came.end (called pid came) (after_born faker pid came.child f1) judged)
        ∙ sym (ap (λ (x : Machine Faking). x.tally.broken) faked_call)
        ∙ calm
