-- Where a step of a process leaves it and the others between the stops of their calls.
use Rattle.std.proofs.Common.{◌≡◌, ℕ, List, Option, Some, None, refl, sym, ap, subst, ◌∙◌}
use Rattle.kr_core.specs.kr_turns.rv_cpu.Run.{Ran, ran}
use Rattle.kr_core.specs.kr_turns.rv_cpu.declared.event.Event.{Event}
use Rattle.kr_core.specs.kr_turns.rv_cpu.declared.event.Event.TheVariants.{Next, Call, Killed}
use Rattle.kr_core.specs.kr_turns.kr_view.View.{Row}
use Rattle.kr_core.specs.kr_turns.kr_model.State.{Image, Process}
use Rattle.kr_core.specs.kr_turns.Breaking.{plain_rule}
use Rattle.kr_core.specs.kr_turns.CallSteps.{Carried}
use Rattle.kr_core.specs.kr_turns.PlainCall.{plain_call}
use Rattle.kr_core.specs.kr_turns.Turn.{Machine, with_broken}
use Rattle.kr_core.specs.kr_turns.declared.plain.CallEnd.TheVariants as end
use Rattle.kr_core.specs.kr_turns.declared.steps.After.{After}
use Rattle.kr_core.specs.kr_turns.declared.steps.After.TheVariants as after
use Rattle.kr_core.specs.kr_turns.kr_stops.Watching.{Watching}
use Rattle.kr_core.specs.kr_turns.kr_stops.declared.handed.Handed.{Handed}
use Rattle.kr_core.proofs.kr_turns.WaitingLemmas.{waits-behind}
use Rattle.kr_core.specs.Between.{between_of, phase_at}
use Rattle.kr_core.specs.Kernel.{Kernel, machine, phase_of}
use Rattle.kr_core.specs.Moving.{IsAfterInstructions, IsMoved, Moved, StepKind, begun_by, computing, paused_after}
use Rattle.kr_core.specs.Stepping.{HasMoved}
use Rattle.kr_core.specs.declared.paused.Begun.{Begun}
use Rattle.kr_core.specs.declared.paused.Between.{Between}
use Rattle.kr_core.specs.declared.paused.Between.TheVariants.{AtCall, Done, Entered}
use Rattle.kr_core.specs.declared.paused.Paused.{Paused}
use Rattle.kr_core.specs.declared.paused.Phase.{Phase}
use Rattle.kr_core.specs.declared.paused.Phase.TheVariants as phase
use Rattle.kr_core.proofs.PausedLemmas.{paused-other, paused-own, run-other, run-own}
use Rattle.kr_core.proofs.SteppingLemmas.{has-phase as stands-at, own-pid}

-- ---- the others

after-others : (pid : ℕ) (told : After) (paused : List Paused) (q : ℕ) → (q ≡ pid → ⊥) → between_of q (paused_after pid told paused) ≡ between_of q paused
after-others pid after.Waiting paused q other = refl
after-others pid (after.Behind handed) paused q other = paused-other pid paused (Done handed) q other
after-others pid after.Gone paused q other = run-other pid paused q other

module _ {S : Type 0} (w : Watching S) (marks : ℕ) (table : List Row) where
  event-others : (pid done : ℕ) (e : Event) (m : Machine S) (paused : List Paused) (made : Moved S) → IsAfterInstructions w marks table pid done e m paused made
      → (q : ℕ) → (q ≡ pid → ⊥) → between_of q made.paused ≡ between_of q paused
  event-others pid done Next m paused made is q other = ap (λ (n : Moved S). between_of q n.paused) is
  event-others pid done Call m paused made is q other = ap (λ (n : Moved S). between_of q n.paused) is ∙ paused-other pid paused AtCall q other
  event-others pid done (Killed signal) m paused made is q other = ap (between_of q) is.4

  move-others : (fuel : ℕ) (p : Process ℕ Image) (o : Option Between) (m : Machine S) (paused : List Paused) (made : Moved S) → IsMoved w marks table fuel p o m paused made
      → (q : ℕ) → (q ≡ p.pid → ⊥) → between_of q made.paused ≡ between_of q paused
  move-others fuel p None m paused made is q other =
      let end : Ran = ran fuel p.image.regs p.image.memory in
      event-others p.pid end.done end.event (computing p end.regs end.memory m) paused made is q other
  move-others fuel p (Some AtCall) m paused made is q other = ap (between_of q) is.2 ∙ paused-other p.pid paused (Entered (begun_by marks p.pid m.state)) q other
  move-others fuel p (Some (Entered begun)) m paused made is q other = ap (λ (n : Moved S). between_of q n.paused) is.leaves ∙ after-others p.pid is.carried.after paused q other
  move-others fuel p (Some (Done handed)) m paused made is q other = ap (between_of q) is.2 ∙ run-other p.pid paused q other

  -- ---- the process itself, which stands behind its first stop

  event-own : (pid done : ℕ) (e : Event) (m : Machine S) (paused : List Paused) (made : Moved S) → IsAfterInstructions w marks table pid done e m paused made
      → between_of pid paused ≡ None → (begun : Begun) → between_of pid made.paused ≡ Some (Entered begun) → ⊥
  event-own pid done Next m paused made is ran begun at = absurd (let no : None ≡ Some (Entered begun) = sym ran ∙ sym (ap (λ (n : Moved S). between_of pid n.paused) is) ∙ at in cc)
  event-own pid done Call m paused made is ran begun at =
      absurd (let no : Some AtCall ≡ Some (Entered begun) = sym (paused-own pid paused AtCall) ∙ sym (ap (λ (n : Moved S). between_of pid n.paused) is) ∙ at in cc)
  event-own pid done (Killed signal) m paused made is ran begun at = absurd (let no : None ≡ Some (Entered begun) = sym ran ∙ sym (ap (between_of pid) is.4) ∙ at in cc)

  -- where it stood before is told by its phase
  abbrev IsOwn : ℕ → Process ℕ Image → Machine S → List Paused → Moved S → Option Between → Type 0
  IsOwn fuel p m paused made o = IsMoved w marks table fuel p o m paused made

  run-own-entered : (fuel : ℕ) (p : Process ℕ Image) (o : Option Between) (m : Machine S) (paused : List Paused) (made : Moved S) → between_of p.pid paused ≡ o → phase_at o ≡ phase.Running → IsOwn fuel p m paused made o
      → (begun : Begun) → between_of p.pid made.paused ≡ Some (Entered begun) → ⊥
  run-own-entered fuel p None m paused made stood at is begun entered =
      let end : Ran = ran fuel p.image.regs p.image.memory in
      event-own p.pid end.done end.event (computing p end.regs end.memory m) paused made is stood begun entered
  run-own-entered fuel p (Some AtCall) m paused made stood at is begun entered = absurd cc
  run-own-entered fuel p (Some (Entered own)) m paused made stood at is begun entered = absurd cc
  run-own-entered fuel p (Some (Done handed)) m paused made stood at is begun entered = absurd cc

  leave-own-entered : (fuel : ℕ) (p : Process ℕ Image) (o : Option Between) (m : Machine S) (paused : List Paused) (made : Moved S) → phase_at o ≡ phase.Done → IsOwn fuel p m paused made o
      → (begun : Begun) → between_of p.pid made.paused ≡ Some (Entered begun) → ⊥
  leave-own-entered fuel p None m paused made at is begun entered = absurd cc
  leave-own-entered fuel p (Some AtCall) m paused made at is begun entered = absurd cc
  leave-own-entered fuel p (Some (Entered own)) m paused made at is begun entered = absurd cc
  leave-own-entered fuel p (Some (Done handed)) m paused made at is begun entered =
      absurd (let no : None ≡ Some (Entered begun) = sym (run-own p.pid paused) ∙ sym (ap (between_of p.pid) is.2) ∙ entered in cc)

  -- a call whose caller stands there still waits, and leaves it as it stood
  pub record HasWaited (pid : ℕ) (m : Machine S) (o : Option Between) (begun : Begun) : Type 0 where
    pub stood : o ≡ Some (Entered begun)
    pub waits : (plain_call table pid m.state).end ≡ end.Waits

  after-own : (pid : ℕ) (told : After) (paused : List Paused) (begun : Begun) → between_of pid (paused_after pid told paused) ≡ Some (Entered begun) → (told ≡ after.Waiting) × (between_of pid paused ≡ Some (Entered begun))
  after-own pid after.Waiting paused begun entered = (refl, entered)
  after-own pid (after.Behind handed) paused begun entered = absurd (let no : Some (Done handed) ≡ Some (Entered begun) = sym (paused-own pid paused (Done handed)) ∙ entered in cc)
  after-own pid after.Gone paused begun entered = absurd (let no : None ≡ Some (Entered begun) = sym (run-own pid paused) ∙ entered in cc)

  call-own-entered : (fuel : ℕ) (p : Process ℕ Image) (o : Option Between) (m : Machine S) (paused : List Paused) (made : Moved S) → between_of p.pid paused ≡ o → phase_at o ≡ phase.Entered → IsOwn fuel p m paused made o
      → (begun : Begun) → between_of p.pid made.paused ≡ Some (Entered begun) → HasWaited p.pid m o begun
  call-own-entered fuel p None m paused made stood at is begun entered = absurd cc
  call-own-entered fuel p (Some AtCall) m paused made stood at is begun entered = absurd cc
  call-own-entered fuel p (Some (Entered own)) m paused made stood at is begun entered =
      let left = after-own p.pid is.carried.after paused begun (sym (ap (λ (n : Moved S). between_of p.pid n.paused) is.leaves) ∙ entered) in
      record {
        stood = sym stood ∙ left.1;
        waits =
            waits-behind w p.pid (plain_call table p.pid m.state) is.calls.bearing (with_broken (plain_rule marks table p.pid own.no_shelf m.state) m.tally)
            (plain_call table p.pid m.state).end is.carried is.calls.carried left.0;
      }
  call-own-entered fuel p (Some (Done handed)) m paused made stood at is begun entered = absurd cc

-- ---- of kernels

module _ {P S T : Type 0} {M : ℕ} (number : T → ℕ) (w : Watching S) (table : List Row) (fuel pid : ℕ) (kind : StepKind) (old new : Kernel P S T M) (has : HasMoved number w table fuel pid kind old new) where
  same-pid : has.own.pid ≡ pid
  same-pid = own-pid pid (machine number old).state has.own has.lives

  abbrev made : Moved S
  made = record { kind = kind; machine = machine number new; paused = new.paused }

  -- the phase of the process, by the number that is kept with it
  phase-of-own : (at : Phase) → phase_of number pid old ≡ Some at → phase_at (between_of has.own.pid old.paused) ≡ at
  phase-of-own at e = ap (λ n. phase_at (between_of n old.paused)) same-pid ∙ (stands-at number pid old old refl at e).stands

  entered-of-own : (begun : Begun) → between_of pid new.paused ≡ Some (Entered begun) → between_of has.own.pid new.paused ≡ Some (Entered begun)
  entered-of-own begun entered = ap (λ n. between_of n new.paused) same-pid ∙ entered

  pub others-stay : (q : ℕ) → (q ≡ pid → ⊥) → between_of q new.paused ≡ between_of q old.paused
  others-stay q other = move-others w M table fuel has.own (between_of has.own.pid old.paused) (machine number old) old.paused made has.moves q (λ same. other (same ∙ same-pid))

  pub run-not-entered : phase_of number pid old ≡ Some phase.Running → (begun : Begun) → between_of pid new.paused ≡ Some (Entered begun) → ⊥
  run-not-entered at begun entered =
      run-own-entered w M table fuel has.own (between_of has.own.pid old.paused) (machine number old) old.paused made refl (phase-of-own phase.Running at) has.moves begun (entered-of-own begun entered)

  pub left-not-entered : phase_of number pid old ≡ Some phase.Done → (begun : Begun) → between_of pid new.paused ≡ Some (Entered begun) → ⊥
  left-not-entered at begun entered =
      leave-own-entered w M table fuel has.own (between_of has.own.pid old.paused) (machine number old) old.paused made (phase-of-own phase.Done at) has.moves begun (entered-of-own begun entered)

  pub entered-waits : phase_of number pid old ≡ Some phase.Entered → (begun : Begun) → between_of pid new.paused ≡ Some (Entered begun)
      → HasWaited w M table pid (machine number old) (between_of pid old.paused) begun
  entered-waits at begun entered =
      subst (λ n. HasWaited w M table n (machine number old) (between_of n old.paused) begun) same-pid
      (call-own-entered w M table fuel has.own (between_of has.own.pid old.paused) (machine number old) old.paused made refl (phase-of-own phase.Entered at) has.moves begun (entered-of-own begun entered))
