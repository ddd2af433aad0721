-- The steps of a kernel, and the turn that is made of them.
use Rattle.std.proofs.Common.{◌≡◌, ◌+◌, ℕ, suc, true, false, List, [], Option, Some, None, refl, sym, ap, subst, arith, ◌∙◌}
use Rattle.std.specs.Prelude.{◌-◌, ◌↔◌, IsSome}
use Rattle.std.specs.Option.{option_map}
use Rattle.std.proofs.lemmas.Option.{same_Some}
use Rattle.kr_turns.specs.rv_cpu.Run.{ran}
use Rattle.kr_turns.specs.rv_cpu.declared.event.Event.{Event}
use Rattle.kr_turns.specs.rv_cpu.declared.event.Event.TheVariants.{Call, Killed, Next}
use Rattle.kr_turns.specs.kr_view.View.{Row}
use Rattle.kr_turns.specs.kr_model.State.{Image, Process, State, is_pid, process}
use Rattle.kr_turns.specs.kr_ops.Meaning.{meaning}
use Rattle.kr_turns.specs.kr_ops.declared.state.State.{State as Kept}
use Rattle.kr_turns.specs.kr_seen.Numbered.{process_numbered, state_numbered}
use Rattle.kr_turns.proofs.kr_seen.LookLemmas.{process-numbered}
use Rattle.kr_turns.specs.kr_stops.Stopped.{computed}
use Rattle.kr_turns.specs.kr_stops.Watching.{Watching}
use Rattle.kr_turns.specs.kr_stops.declared.handed.Handed.{Handed}
use Rattle.kr_turns.specs.CallSteps.{Carried, IsCarriedBy, IsCarriedOut, IsEntered, IsExited, IsExitedIf}
use Rattle.kr_turns.specs.Making.{EndsAs, IsStretch, machine_of, status_by, tally_after}
use Rattle.kr_turns.specs.Breaking.{plain_rule}
use Rattle.kr_turns.specs.PlainCall.{Came, plain_call}
use Rattle.kr_turns.specs.Shelving.{lacks_in}
use Rattle.kr_turns.specs.Turn.{IsAfterEvent, IsTurnOf, IsWatchedCall, Machine, Tally, with_broken}
use Rattle.kr_turns.specs.declared.plain.CallEnd.{CallEnd}
use Rattle.kr_turns.specs.declared.plain.CallEnd.TheVariants as end
use Rattle.kr_turns.specs.declared.steps.After.{After}
use Rattle.kr_turns.specs.declared.steps.After.TheVariants as after
use Rattle.kr_turns.specs.declared.steps.Halt.{Halt}
use Rattle.kr_turns.specs.declared.steps.Halt.TheVariants as halt
use Rattle.kr_turns.specs.declared.steps.Stretch.{Stretch}
use Rattle.kr_turns.proofs.StepLemmas.{watched-calls-are-three-steps}
use Rattle.kr_turns.proofs.WaitingLemmas.{waits-behind}
use Rattle.kr_turns.proofs.kr_stops.EditLemmas.{computed-lives}
use Rattle.kr_turns.proofs.law_lawful.ProcessChangeLemmas.{found-passes}
use Rattle.kr_turns.proofs.law_lawful.SumLemmas.{passed-test}
use Rattle.kr_core.specs.Between.{begun_at, between_of, is_exec_at, paused_at, phase_at, unpaused}
use Rattle.kr_core.specs.Kernel.{HasRun, Kernel, Picks, machine, phase_of}
use Rattle.kr_core.specs.Moving.{Entry, Exit, Instructions, IsAfterInstructions, IsMoved, IsPlainlyMoved, Plain, begun_by, computing, paused_after, paused_by}
use Rattle.kr_core.specs.Stepping.{BornRun, HasCalled, HasMadeCall, HasMoved, HasRunFor, HasTurned, IsLeftAt, RunsAgain, is_done}
use Rattle.kr_core.specs.declared.paused.Begun.{Begun}
use Rattle.kr_core.specs.declared.paused.Between.{Between}
use Rattle.kr_core.specs.declared.paused.Between.TheVariants.{AtCall, Done, Entered}
use Rattle.kr_core.specs.declared.paused.Paused.{Paused}
use Rattle.kr_core.specs.declared.paused.Phase.{Phase}
use Rattle.kr_core.specs.declared.paused.Phase.TheVariants as phase
use Rattle.kr_core.proofs.PausedLemmas.{paused-alone, paused-other, paused-own, run-alone, run-other, running-at}

-- a process is found by its number
pub own-pid : (pid : ℕ) (s : State ℕ Image) (p : Process ℕ Image) → process pid s ≡ Some p → p.pid ≡ pid
own-pid pid s p lives = passed-test p.pid pid (found-passes (is_pid pid) s.living p lives)

-- ---- the phase of a process

module _ {P S T : Type 0} {M : ℕ} (number : T → ℕ) where
  -- a process with a phase lives, and stands there
  pub record HasPhase (pid : ℕ) (k : Kernel P S T M) (at : Phase) : Type 0 where
    pub own : Process ℕ Image
    pub lives : process pid (machine number k).state ≡ Some own
    pub stands : phase_at (between_of pid k.paused) ≡ at

  pub has-phase : (pid : ℕ) (own k : Kernel P S T M) → own ≡ k → (at : Phase) → phase_of number pid k ≡ Some at → HasPhase pid own at
  has-phase pid own k is at e = by (process pid (machine number own).state) refl (ap (phase_of number pid) is ∙ e)
    where
      by : (o : Option (Process ℕ Image)) → process pid (machine number own).state ≡ o → option_map (λ (p : Process ℕ Image). phase_at (between_of pid own.paused)) o ≡ Some at → HasPhase pid own at
      by None lives e = absurd cc
      by (Some p) lives e = record { own = p; lives = lives; stands = same_Some (phase_at (between_of pid own.paused)) at e }

  pub phase-is : (pid : ℕ) (k : Kernel P S T M) → IsSome (process pid (machine number k).state) → (at : Phase) → phase_at (between_of pid k.paused) ≡ at → phase_of number pid k ≡ Some at
  phase-is pid k lives at stands = by (process pid (machine number k).state) lives
    where
      by : (o : Option (Process ℕ Image)) → IsSome o → option_map (λ (p : Process ℕ Image). phase_at (between_of pid k.paused)) o ≡ Some at
      by None lives = absurd cc
      by (Some p) lives = ap (λ (a : Phase). Some a) stands

  pub phase-told : (pid : ℕ) (own k : Kernel P S T M) → own ≡ k → IsSome (process pid (machine number own).state) → (at : Phase) → phase_at (between_of pid own.paused) ≡ at → Some at ≡ phase_of number pid k
  phase-told pid own k is lives at stands = sym (phase-is pid own lives at stands) ∙ ap (phase_of number pid) is

  -- one that doesn't live has none
  pub no-phase : (pid : ℕ) (own k : Kernel P S T M) → own ≡ k → process pid (meaning own.state) ≡ None → None ≡ phase_of number pid k
  no-phase pid own k is none =
      sym (ap (option_map (λ (p : Process ℕ Image). phase_at (between_of pid own.paused))) (process-numbered number pid (meaning own.state) ∙ ap (option_map (process_numbered number)) none))
      ∙ ap (phase_of number pid) is

  pub left-at : (pid : ℕ) (new : Kernel P S T M) (old : List Paused) (begun : Begun) → between_of pid old ≡ Some (Entered begun) → (told : After) → new.paused ≡ paused_after pid told old
      → ((told ≡ after.Gone → ⊥) → IsSome (process pid (machine number new).state)) → IsLeftAt number pid new told
  left-at pid new old begun stood after.Waiting paused lives = phase-is pid new (lives (λ e. cc)) phase.Entered (ap phase_at (ap (between_of pid) paused ∙ stood))
  left-at pid new old begun stood (after.Behind handed) paused lives = phase-is pid new (lives (λ e. cc)) phase.Done (ap phase_at (ap (between_of pid) paused ∙ paused-own pid old (Done handed)))
  left-at pid new old begun stood after.Gone paused lives = tt

  -- ---- processes that are born

  pub born-run : (pid : ℕ) (old new : Kernel P S T M) (told : After) → IsSome (process pid (machine number old).state) → new.paused ≡ paused_after pid told old.paused
      → ((q : ℕ) (between : Between) → between_of q old.paused ≡ Some between → IsSome (process q (machine number old).state)) → BornRun number old new
  born-run pid old new told lives paused standing = record {
    runs = λ q none born.
        let other = λ (same : q ≡ pid). (let no : false ≡ true = subst IsSome (subst (λ n. process n (machine number old).state ≡ None) same none) lives in absurd cc) in
        let ran : between_of q old.paused ≡ None = by q none (between_of q old.paused) refl in
        phase-is q new born phase.Running (ap phase_at (ap (between_of q) paused ∙ kept q other told ∙ ran));
  }
    where
      by : (q : ℕ) → process q (machine number old).state ≡ None → (o : Option Between) → between_of q old.paused ≡ o → o ≡ None
      by q none None at = refl
      by q none (Some between) at = absurd (let no : false ≡ true = subst IsSome none (standing q between at) in cc)

      kept : (q : ℕ) → (q ≡ pid → ⊥) → (told : After) → between_of q (paused_after pid told old.paused) ≡ between_of q old.paused
      kept q other after.Waiting = refl
      kept q other (after.Behind handed) = paused-other pid old.paused (Done handed) q other
      kept q other after.Gone = run-other pid old.paused q other

-- ---- instructions

module _ {S : Type 0} (w : Watching S) (marks : ℕ) (table : List Row) where
  -- one that stands at a call then was left with its instructions done, and lives if it did
  pub call-lives : (pid done : ℕ) (e : Event) (m new : Machine S) (told : Stretch) → EndsAs w marks table pid done e m new told → told.halt ≡ halt.AtCall → (q : ℕ) → IsSome (process q m.state) → IsSome (process q new.state)
  call-lives pid done Next m new told ends at q lives = absurd (let no : halt.Spent ≡ halt.AtCall = sym ends.0 ∙ at in cc)
  call-lives pid done Call m new told ends at q lives = subst (λ (n : Machine S). IsSome (process q n.state)) (sym ends.2) lives
  call-lives pid done (Killed signal) m new told ends at q lives = absurd (let no : halt.Killed (128 + signal) ≡ halt.AtCall = sym ends.0 ∙ at in cc)

  -- they are a step
  ends-move : (pid done : ℕ) (e : Event) (m new : Machine S) (told : Stretch) (old : List Paused) → EndsAs w marks table pid done e m new told
      → IsAfterInstructions w marks table pid done e m old (record { kind = Instructions told.done; machine = new; paused = paused_by pid told.halt old })
  ends-move pid done Next m new told old ends = λ i. record { kind = Instructions (ends.1 i); machine = ends.2 i; paused = paused_by pid (ends.0 i) old }
  ends-move pid done Call m new told old ends = λ i. record { kind = Instructions (ends.1 i); machine = ends.2 i; paused = paused_by pid (ends.0 i) old }
  ends-move pid done (Killed signal) m new told old ends = (ap Instructions ends.1, ends.2, ends.3, ends.4, ap (λ (h : Halt). paused_by pid h old) ends.0)

  -- and with the call, if they come to one, a turn
  abbrev Follows : Halt → (pid : ℕ) → Machine S → Machine S → Type 0
  Follows halt.Spent pid mid new = new ≡ mid
  Follows halt.AtCall pid mid new = IsWatchedCall w marks table pid mid new
  Follows (halt.Killed status) pid mid new = new ≡ mid

  ends-turn : (pid done : ℕ) (e : Event) (m mid new : Machine S) (told : Stretch) → EndsAs w marks table pid done e m mid told → Follows told.halt pid mid new → IsAfterEvent w marks table pid e m new
  ends-turn pid done Next m mid new told ends follows = let same : new ≡ mid = subst (λ (h : Halt). Follows h pid mid new) ends.0 follows in same ∙ ends.2
  ends-turn pid done Call m mid new told ends follows =
      subst (λ (n : Machine S). IsWatchedCall w marks table pid n new) ends.2 (subst (λ (h : Halt). Follows h pid mid new) ends.0 follows)
  ends-turn pid done (Killed signal) m mid new told ends follows =
      let same : new ≡ mid = subst (λ (h : Halt). Follows h pid mid new) ends.0 follows in
      (ap (λ (n : Machine S). n.state) same ∙ ends.2, subst (λ (n : Machine S). w.forgets m.watcher pid n.watcher) (sym same) ends.3, ap (λ (n : Machine S). n.tally) same ∙ ends.4)

module _ {S T : Type 0} {M : ℕ} (w : Watching S) (number : T → ℕ) where
  pub stretch-lives : (fuel pid : ℕ) (old : Kept T M) (x : S) (new : Kept T M) (y : S) (told : Stretch) → IsStretch w number fuel pid old x new y told
      → (p : Process ℕ Image) → process pid (state_numbered number (meaning old)) ≡ Some p → told.halt ≡ halt.AtCall → IsSome (process pid (state_numbered number (meaning new)))
  stretch-lives fuel pid old x new y told is p lives at =
      let tally : Tally = record { status = 0; broken = None } in
      let s = state_numbered number (meaning old) in
      let end = ran fuel p.image.regs p.image.memory in
      call-lives w M [] p.pid end.done end.event (record { state = computed p.pid end.regs end.memory s; watcher = x; tally = tally })
      (machine_of number new y (tally_after (status_by told.halt) told.broken tally)) told (is.ends [] p lives tally) at pid
      (subst (λ n. IsSome (process pid (computed n end.regs end.memory s))) (sym (own-pid pid s p lives)) (computed-lives pid end.regs end.memory s (subst IsSome (sym lives) refl)))

-- ---- steps of a kernel

module _ {P S T : Type 0} {M : ℕ} (number : T → ℕ) (w : Watching S) (table : List Row) where
  pub run-moves : (fuel pid : ℕ) (old new : Kernel P S T M) (told : Stretch) → phase_of number pid old ≡ Some phase.Running → HasRunFor number w table fuel pid old new told
      → HasMoved number w table fuel pid (Instructions told.done) old new
  run-moves fuel pid old new told running has =
      let p = has.own in
      let same = own-pid pid (machine number old).state p has.lives in
      let ran-before : between_of p.pid old.paused ≡ None = ap (λ n. between_of n old.paused) same ∙ running-at (between_of pid old.paused) (has-phase number pid old old refl phase.Running running).stands in
      let end = ran fuel p.image.regs p.image.memory in
      let moved = ends-move w M table p.pid end.done end.event (computing p end.regs end.memory (machine number old)) (machine number new) told old.paused has.ends in
      let paused : paused_by p.pid told.halt old.paused ≡ new.paused = ap (λ n. paused_by n told.halt old.paused) same ∙ sym has.paused in
      record {
        own = p;
        lives = has.lives;
        moves =
            subst (λ (o : Option Between). IsMoved w M table fuel p o (machine number old) old.paused (record { kind = Instructions told.done; machine = machine number new; paused = new.paused })) (sym ran-before)
            (subst (λ (l : List Paused). IsAfterInstructions w M table p.pid end.done end.event (computing p end.regs end.memory (machine number old)) old.paused (record { kind = Instructions told.done; machine = machine number new; paused = l })) paused moved);
        calls = has.calls;
        places = has.places;
        turns = has.turns;
      }

  -- the first stop and the second one, with any fuel
  module _ (fuel pid : ℕ) (old new : Kernel P S T M) (p : Process ℕ Image) (lives : process pid (machine number old).state ≡ Some p) (places : new.places ≡ old.places) (turns : new.turns ≡ old.turns) where
    same-pid : p.pid ≡ pid
    same-pid = own-pid pid (machine number old).state p lives

    stood-at : (between : Between) → between_of pid old.paused ≡ Some between → between_of p.pid old.paused ≡ Some between
    stood-at between stood = ap (λ n. between_of n old.paused) same-pid ∙ stood

    pub enter-moves : between_of pid old.paused ≡ Some AtCall → IsEntered w M pid (machine number old) (machine number new)
        → new.paused ≡ paused_at pid (Entered (begun_by M pid (machine number old).state)) old.paused → new.calls ≡ old.calls → HasMoved number w table fuel pid Entry old new
    enter-moves stood enters paused calls = record {
      own = p;
      lives = lives;
      moves =
          subst (λ (o : Option Between). IsMoved w M table fuel p o (machine number old) old.paused (record { kind = Entry; machine = machine number new; paused = new.paused })) (sym (stood-at AtCall stood)) (
            refl,
            subst (λ n. IsEntered w M n (machine number old) (machine number new)) (sym same-pid) enters,
            paused ∙ ap (λ n. paused_at n (Entered (begun_by M n (machine number old).state)) old.paused) (sym same-pid),
          );
      calls = calls;
      places = places;
      turns = turns;
    }

    pub leave-moves : (handed : Handed) → between_of pid old.paused ≡ Some (Done handed) → IsExited w pid handed (machine number old) (machine number new)
        → new.paused ≡ unpaused pid old.paused → new.calls ≡ old.calls → HasMoved number w table fuel pid Exit old new
    leave-moves handed stood exits paused calls = record {
      own = p;
      lives = lives;
      moves =
          subst (λ (o : Option Between). IsMoved w M table fuel p o (machine number old) old.paused (record { kind = Exit; machine = machine number new; paused = new.paused })) (sym (stood-at (Done handed) stood)) (
            refl,
            subst (λ n. IsExited w n handed (machine number old) (machine number new)) (sym same-pid) exits,
            paused ∙ ap (λ n. unpaused n old.paused) (sym same-pid),
          );
      calls = calls;
      places = places;
      turns = turns;
    }

  pub call-moves : (fuel pid : ℕ) (old new : Kernel P S T M) (told : After) → HasCalled number w table pid old new told → HasMoved number w table fuel pid (Plain (is_exec_at (between_of pid old.paused))) old new
  call-moves fuel pid old new told has =
      let p = has.own in
      let same = own-pid pid (machine number old).state p has.lives in
      let carried : Carried S = record { machine = machine number new; after = told } in
      let exec : is_exec_at (between_of pid old.paused) ≡ has.begun.exec = ap is_exec_at has.stood in
      let moved : IsPlainlyMoved w M table p.pid has.begun (machine number old) old.paused (record { kind = Plain (is_exec_at (between_of pid old.paused)); machine = machine number new; paused = new.paused }) = record {
        carried = carried;
        calls = subst (λ n. IsCarriedOut w M table n has.begun.no_shelf (machine number old) carried) (sym same) has.carried;
        leaves = λ i. record { kind = Plain (exec i); machine = machine number new; paused = (has.paused ∙ ap (λ n. paused_after n told old.paused) (sym same)) i };
      } in
      record {
        own = p;
        lives = has.lives;
        moves =
            subst (λ (o : Option Between). IsMoved w M table fuel p o (machine number old) old.paused (record { kind = Plain (is_exec_at (between_of pid old.paused)); machine = machine number new; paused = new.paused }))
            (sym (ap (λ n. between_of n old.paused) same ∙ has.stood)) moved;
        calls = has.calls;
        places = has.places;
        turns = has.turns;
      }

  -- a call isn't done exactly where it waits
  pub call-waits : (pid : ℕ) (old new : Kernel P S T M) (told : After) → HasCalled number w table pid old new told → (is_done told ≡ false) ↔ ((plain_call table pid (machine number old).state).end ≡ end.Waits)
  call-waits pid old new told has =
      let came : Came = plain_call table pid (machine number old).state in
      let tally : Tally = with_broken (plain_rule M table pid has.begun.no_shelf (machine number old).state) (machine number old).tally in
      let carried : Carried S = record { machine = machine number new; after = told } in (
        λ undone. waits-behind w pid came has.carried.bearing tally came.end carried has.carried.carried (undone-waits told undone),
        λ waits. ap is_done (told-waiting came has.carried.bearing tally came.end carried has.carried.carried waits),
      )
    where
      undone-waits : (told : After) → is_done told ≡ false → told ≡ after.Waiting
      undone-waits after.Waiting undone = refl
      undone-waits (after.Behind handed) undone = absurd cc
      undone-waits after.Gone undone = absurd cc

      told-waiting : (came : Came) (x : S) (tally : Tally) (e : CallEnd) (c : Carried S) → IsCarriedBy w pid e came x tally c → e ≡ end.Waits → c.after ≡ after.Waiting
      told-waiting came x tally end.Answered c is waits = absurd cc
      told-waiting came x tally end.Replaced c is waits = absurd cc
      told-waiting came x tally end.Waits c is waits = ap (λ (d : Carried S). d.after) is
      told-waiting came x tally (end.Ended status) c is waits = absurd cc

  -- ---- a turn

  -- what is known of the first stop of the call of a process that alone doesn't run
  pub record HasBegun (pid : ℕ) (old new : Kernel P S T M) : Type 0 where
    pub enters : IsEntered w M pid (machine number old) (machine number new)
    pub paused : new.paused ≡ paused_at pid (Entered (begun_by M pid (machine number old).state)) []

  pub has-begun : (pid : ℕ) (old new : Kernel P S T M) → old.paused ≡ paused_at pid AtCall [] → HasMoved number w table 0 pid Entry old new → HasBegun pid old new
  has-begun pid old new alone has =
      let p = has.own in
      let same = own-pid pid (machine number old).state p has.lives in
      let stood : between_of p.pid old.paused ≡ Some AtCall = ap (λ n. between_of n old.paused) same ∙ ap (between_of pid) alone ∙ paused-own pid [] AtCall in
      let moved = subst (λ (o : Option Between). IsMoved w M table 0 p o (machine number old) old.paused (record { kind = Entry; machine = machine number new; paused = new.paused })) stood has.moves in
      record {
        enters = subst (λ n. IsEntered w M n (machine number old) (machine number new)) same moved.1;
        paused =
            moved.2
            ∙ ap (λ n. paused_at n (Entered (begun_by M n (machine number old).state)) old.paused) same
            ∙ ap (paused_at pid (Entered (begun_by M pid (machine number old).state))) alone
            ∙ paused-alone pid AtCall (Entered (begun_by M pid (machine number old).state));
      }

  -- the call behind it, of what was kept
  pub record HasGone (pid : ℕ) (first old new : Kernel P S T M) (told : After) : Type 0 where
    pub carried : IsCarriedOut w M table pid (lacks_in M pid (machine number first).state) (machine number old) (record { machine = machine number new; after = told })
    pub paused : new.paused ≡ paused_after pid told (paused_at pid (Entered (begun_by M pid (machine number first).state)) [])

  pub has-gone : (pid : ℕ) (first old new : Kernel P S T M) (told : After) → HasBegun pid first old → HasCalled number w table pid old new told → HasGone pid first old new told
  has-gone pid first old new told begun has =
      let own = begun_by M pid (machine number first).state in
      let kept : Some own ≡ Some has.begun = ap begun_at (sym (ap (between_of pid) begun.paused ∙ paused-own pid [] (Entered own)) ∙ has.stood) in
      let same : own ≡ has.begun = same_Some own has.begun kept in
      record {
        carried = subst (λ (b : Begun). IsCarriedOut w M table pid b.no_shelf (machine number old) (record { machine = machine number new; after = told })) (sym same) has.carried;
        paused = has.paused ∙ ap (paused_after pid told) begun.paused;
      }

  -- the whole call, from its three steps
  pub whole-call : (pid : ℕ) (first entered called last : Kernel P S T M) (told : After) → HasBegun pid first entered → HasGone pid first entered called told
      → IsExitedIf w pid told (machine number called) (machine number last) → IsWatchedCall w M table pid (machine number first) (machine number last)
  whole-call pid first entered called last told begun gone exits =
      (watched-calls-are-three-steps w).joined M table pid (machine number first) (machine number last)
      (record { between = machine number entered; behind = record { machine = machine number called; after = told }; enters = begun.enters; calls = gone.carried; exits = exits })

  module _ (pid : ℕ) (first entered called last : Kernel P S T M) (told : After) (alone : first.paused ≡ paused_at pid AtCall []) (entry : HasMoved number w table 0 pid Entry first entered) (behind : HasCalled number w table pid entered called told) where
    begun : HasBegun pid first entered
    begun = has-begun pid first entered alone entry

    gone : HasGone pid first entered called told
    gone = has-gone pid first entered called told begun behind

    -- it waits, and its caller runs again
    pub made-waiting : told ≡ after.Waiting → RunsAgain number pid called last → HasMadeCall number w table pid first last
    made-waiting is again = record {
      call = whole-call pid first entered called last told begun gone (subst (λ (a : After). IsExitedIf w pid a (machine number called) (machine number last)) (sym is) again.stays);
      running =
          again.paused
          ∙ ap (unpaused pid) (gone.paused ∙ ap (λ (a : After). paused_after pid a (paused_at pid (Entered (begun_by M pid (machine number first).state)) [])) is)
          ∙ run-alone pid (Entered (begun_by M pid (machine number first).state));
      calls = again.calls ∙ behind.calls ∙ ap suc entry.calls;
      places = again.places ∙ behind.places ∙ entry.places;
      turns = again.turns ∙ behind.turns ∙ entry.turns;
    }

    -- it ended its caller
    pub made-gone : told ≡ after.Gone → HasMadeCall number w table pid first called
    made-gone is = record {
      call = whole-call pid first entered called called told begun gone (subst (λ (a : After). IsExitedIf w pid a (machine number called) (machine number called)) (sym is) refl);
      running =
          gone.paused ∙ ap (λ (a : After). paused_after pid a (paused_at pid (Entered (begun_by M pid (machine number first).state)) [])) is
          ∙ run-alone pid (Entered (begun_by M pid (machine number first).state));
      calls = behind.calls ∙ ap suc entry.calls;
      places = behind.places ∙ entry.places;
      turns = behind.turns ∙ entry.turns;
    }

    -- where its caller is paused that comes to the second stop
    pub paused-done : (handed : Handed) → told ≡ after.Behind handed → called.paused ≡ paused_at pid (Done handed) []
    paused-done handed is =
        gone.paused ∙ ap (λ (a : After). paused_after pid a (paused_at pid (Entered (begun_by M pid (machine number first).state)) [])) is
        ∙ paused-alone pid (Entered (begun_by M pid (machine number first).state)) (Done handed)

    pub made-done : (handed : Handed) → told ≡ after.Behind handed → HasMoved number w table 0 pid Exit called last → HasMadeCall number w table pid first last
    made-done handed is leaves =
        let p = leaves.own in
        let same = own-pid pid (machine number called).state p leaves.lives in
        let paused = paused-done handed is in
        let stood : between_of p.pid called.paused ≡ Some (Done handed) = ap (λ n. between_of n called.paused) same ∙ ap (between_of pid) paused ∙ paused-own pid [] (Done handed) in
        let moved = subst (λ (o : Option Between). IsMoved w M table 0 p o (machine number called) called.paused (record { kind = Exit; machine = machine number last; paused = last.paused })) stood leaves.moves in
        let exits = subst (λ n. IsExited w n handed (machine number called) (machine number last)) same moved.1 in
        record {
          call = whole-call pid first entered called last told begun gone (subst (λ (a : After). IsExitedIf w pid a (machine number called) (machine number last)) (sym is) exits);
          running = moved.2 ∙ ap (λ n. unpaused n called.paused) same ∙ ap (unpaused pid) paused ∙ run-alone pid (Done handed);
          calls = leaves.calls ∙ behind.calls ∙ ap suc entry.calls;
          places = leaves.places ∙ behind.places ∙ entry.places;
          turns = leaves.turns ∙ behind.turns ∙ entry.turns;
        }

  pub turned-alone : (fuel pid : ℕ) (old mid : Kernel P S T M) (told : Stretch) → old.paused ≡ [] → HasRunFor number w table fuel pid old mid told → (told.halt ≡ halt.AtCall → ⊥) → HasTurned number w table fuel pid old mid
  turned-alone fuel pid old mid told running has other =
      let p = has.own in
      let end = ran fuel p.image.regs p.image.memory in
      record {
        own = p;
        lives = has.lives;
        turn = ends-turn w M table p.pid end.done end.event (computing p end.regs end.memory (machine number old)) (machine number mid) (machine number mid) told has.ends (still told.halt p.pid other);
        running = has.paused ∙ left told.halt other ∙ running;
        calls = let same = has.calls in omega arith;
        places = has.places;
        turns = has.turns;
      }
    where
      still : (h : Halt) (n : ℕ) → (h ≡ halt.AtCall → ⊥) → Follows w M table h n (machine number mid) (machine number mid)
      still halt.Spent n other = refl
      still halt.AtCall n other = absurd (other refl)
      still (halt.Killed status) n other = refl

      left : (h : Halt) → (h ≡ halt.AtCall → ⊥) → paused_by pid h old.paused ≡ old.paused
      left halt.Spent other = refl
      left halt.AtCall other = absurd (other refl)
      left (halt.Killed status) other = refl

  pub turned-calling : (fuel pid : ℕ) (old mid new : Kernel P S T M) (told : Stretch) → HasRunFor number w table fuel pid old mid told → told.halt ≡ halt.AtCall → HasMadeCall number w table pid mid new → HasTurned number w table fuel pid old new
  turned-calling fuel pid old mid new told has at made =
      let p = has.own in
      let same = own-pid pid (machine number old).state p has.lives in
      let end = ran fuel p.image.regs p.image.memory in
      let call = subst (λ n. IsWatchedCall w M table n (machine number mid) (machine number new)) (sym same) made.call in
      record {
        own = p;
        lives = has.lives;
        turn =
            ends-turn w M table p.pid end.done end.event (computing p end.regs end.memory (machine number old)) (machine number mid) (machine number new) told has.ends
            (subst (λ (h : Halt). Follows w M table h p.pid (machine number mid) (machine number new)) (sym at) call);
        running = made.running;
        calls = let first = has.calls in let second = made.calls in omega arith;
        places = made.places ∙ has.places;
        turns = made.turns ∙ has.turns;
      }

  -- the turn of the process that was picked, once it is counted
  pub made-turn : (pick fuel pid : ℕ) (old mid new : Kernel P S T M) → Picks number pick pid old → HasTurned number w table fuel pid old mid → machine number new ≡ machine number mid → new.turns ≡ suc mid.turns → new.places ≡ mid.places
      → HasRun number w table pick fuel old new
  made-turn pick fuel pid old mid new picks turned machines turns places =
      let same : turned.own ≡ picks.own = same_Some turned.own picks.own (sym turned.lives ∙ picks.lives) in
      record {
        process = picks.own;
        picked = picks.picked;
        turn = subst (λ (m : Machine S). IsTurnOf w M table fuel picks.own (machine number old) m) (sym machines) (subst (λ (p : Process ℕ Image). IsTurnOf w M table fuel p (machine number old) (machine number mid)) same turned.turn);
        turns = turns ∙ ap suc turned.turns;
        places = places ∙ turned.places;
      }
