-- Instructions of a process that runs: the turn that stands for them does as many, and a call with which they end is left to be met.
use Rattle.std.proofs.Common.{◌≡◌, inl, inr, ℕ, zero, suc, ◌+◌, ◌-◌, true, false, ◌||◌, ◌∷◌, Option, Some, None, refl, sym, ap, subst, ◌∙◌, arith}
use Rattle.std.specs.Prelude.{◌==◌, IsSome}
use Rattle.std.proofs.lemmas.Bool.{or_cases, or_left, or_right}
use Rattle.std.proofs.lemmas.Option.{same_Some}
use Rattle.kr_loose.specs.rv_mem.Actions.{carried_out}
use Rattle.kr_loose.specs.rv_mem.Memory.{Memory}
use Rattle.kr_loose.specs.rv_mem.declared.regs.Regs.{Regs}
use Rattle.kr_loose.specs.kr_turns.rv_cpu.Run.{Ran, at_rest, counted, ran, ran_holding}
use Rattle.kr_loose.specs.kr_turns.rv_cpu.Step.{step}
use Rattle.kr_loose.specs.kr_turns.rv_cpu.declared.event.Event.{Event}
use Rattle.kr_loose.specs.kr_turns.rv_cpu.declared.event.Event.TheVariants.{Next, Call, Killed}
use Rattle.kr_loose.specs.kr_turns.rv_cpu.declared.reservation.Held.{Held}
use Rattle.kr_loose.specs.kr_model.Lawful.{ArePids}
use Rattle.kr_loose.specs.kr_model.State.{Image, Process, State, process}
use Rattle.kr_loose.specs.kr_stops.Stopped.{Stopped, computed, image_in, nothing_handed}
use Rattle.kr_loose.specs.kr_core.kr_calm.Calm.{kept}
use Rattle.kr_loose.specs.kr_core.kr_calm.declared.rule.Rule.{Rule}
use Rattle.kr_loose.specs.kr_turns.Run.{after_put}
use Rattle.kr_loose.specs.kr_turns.Steps.{picked_process}
use Rattle.kr_loose.specs.kr_turns.Turn.{Machine, Tally, after_event, by_pick, killed, turn, with_broken, with_status}
use Rattle.kr_loose.specs.kr_core.Between.{between_of, paused_at}
use Rattle.kr_loose.specs.kr_core.Moving.{Instructions, Moved, computing, idle_moved, tally_killed}
use Rattle.kr_loose.specs.kr_core.declared.paused.Between.{Between}
use Rattle.kr_loose.specs.kr_core.declared.paused.Between.TheVariants.{AtCall}
use Rattle.kr_loose.specs.LooseRun.{Loose, noted}
use Rattle.kr_loose.specs.Marks.{HasNoMarks}
use Rattle.kr_loose.specs.Parting.{PartsAtCall}
use Rattle.kr_loose.specs.Slots.{slots_of_kind}
use Rattle.kr_loose.proofs.LivingLemmas.{process-unmarked}
use Rattle.kr_loose.proofs.PartingLemmas.{runs-part-at-calls}
use Rattle.law_beside.specs.Beside.{AreBeside, laid}
use Rattle.law_beside.proofs.kr_core.PausedLemmas.{paused-other, paused-own}
use Rattle.law_beside.proofs.kr_core.rv_cpu.RunLemmas.{ran-next, ran-stop, ran-zero}
use Rattle.law_beside.proofs.kr_core.kr_stops.EditLemmas.{computed-lives, image-edited, there}
use Rattle.law_beside.proofs.kr_core.kr_turns.ApartLemmas.{killed-leaves}
use Rattle.law_beside.proofs.kr_core.kr_turns.MakingLemmas.{one_done}
use Rattle.law_beside.proofs.kr_core.law_lawful.SumLemmas.{passed-test, same-test}
use Rattle.law_loose.specs.Lagging.{ComesAlike, GoesAlike, MeetsCall, stays_in}
use Rattle.law_loose.specs.Staying.{MeetsNone, behind_turns}
use Rattle.law_loose.proofs.AloneLemmas.{computing-leaves-going, computing-leaves-pids, death-ends-waiting, death-leaves-going}
use Rattle.law_loose.proofs.BelowLemmas.{Whole}
use Rattle.law_loose.proofs.OtherLemmas.{At, IsLeft, LagsOf, OtherGoes, Stand, StaysOther, both-stay, image_of, step_by, still-lags, then-goes, turned-lags}
use Rattle.law_loose.proofs.StopLemmas.{at, computed-found}

abbrev Machines : Type 0
Machines = State ℕ Image

-- ---- as many instructions as were done

stops : {A : Type 0} → Call ≡ Next → A
stops e = absurd cc

dies : {A : Type 0} {signal : ℕ} → Killed signal ≡ Next → A
dies e = absurd cc

-- where none was done, all is as it was
ran-rests : (fuel : ℕ) (regs : Regs) (memory : Memory) → (ran fuel regs memory).done ≡ 0 → ran fuel regs memory ≡ at_rest regs memory
ran-rests zero regs memory e = ran-zero None regs memory
ran-rests (suc fuel) regs memory e = let some = one_done (suc fuel) None regs memory (omega arith) in absurd (omega (arith, e, some))

abbrev ComesAsFar : ℕ → Type 0
ComesAsFar fuel = (held : Option Held) (s : Regs) (m : Memory) → ran_holding (ran_holding fuel held s m).done held s m ≡ ran_holding fuel held s m

stopped-as-far : (fuel : ℕ) (held : Option Held) (s : Regs) (m : Memory) → ((carried_out (step s held) m).reply.event ≡ Next → ⊥) → ran_holding (ran_holding (suc fuel) held s m).done held s m ≡ ran_holding (suc fuel) held s m
stopped-as-far fuel held s m isnt =
    ap (λ (r : Ran). ran_holding r.done held s m) (ran-stop fuel held s m isnt) ∙ ran-stop zero held s m isnt ∙ sym (ran-stop fuel held s m isnt)

next-as-far : (fuel : ℕ) → ComesAsFar fuel → (held : Option Held) (s : Regs) (m : Memory) → (carried_out (step s held) m).reply.event ≡ Next → ran_holding (ran_holding (suc fuel) held s m).done held s m ≡ ran_holding (suc fuel) held s m
next-as-far fuel before held s m is =
    let first = carried_out (step s held) m in
    let rest : Ran = ran_holding fuel first.reply.held first.reply.regs first.memory in
    let one : 1 + rest.done ≡ suc rest.done = omega arith in
    ap (λ (r : Ran). ran_holding r.done held s m) (ran-next fuel held s m is)
    ∙ ap (λ (k : ℕ). ran_holding k held s m) one
    ∙ ran-next rest.done held s m is
    ∙ ap (counted 1) (before first.reply.held first.reply.regs first.memory)
    ∙ sym (ran-next fuel held s m is)

by-first : (fuel : ℕ) → ComesAsFar fuel → (held : Option Held) (s : Regs) (m : Memory) (e : Event) → (carried_out (step s held) m).reply.event ≡ e → ran_holding (ran_holding (suc fuel) held s m).done held s m ≡ ran_holding (suc fuel) held s m
by-first fuel before held s m Next is = next-as-far fuel before held s m is
by-first fuel before held s m Call is = stopped-as-far fuel held s m (λ next. stops (sym is ∙ next))
by-first fuel before held s m (Killed signal) is = stopped-as-far fuel held s m (λ next. dies (sym is ∙ next))

as-far : (fuel : ℕ) → ComesAsFar fuel
as-far zero held s m = ap (λ (r : Ran). ran_holding r.done held s m) (ran-zero held s m)
as-far (suc fuel) held s m = by-first fuel (as-far fuel) held s m (carried_out (step s held) m).reply.event refl

-- as much fuel as instructions were done comes as far
pub ran-again : (fuel done : ℕ) (regs : Regs) (memory : Memory) (end : Ran) → ran fuel regs memory ≡ end → end.done ≡ done → ran done regs memory ≡ end
ran-again fuel done regs memory end is as_many =
    ap (λ (k : ℕ). ran k regs memory) (sym as_many ∙ sym (ap (λ (r : Ran). r.done) is)) ∙ as-far fuel None regs memory ∙ is

-- ---- what is told

kept-none : (o : Option Rule) → kept o None ≡ o
kept-none (Some rule) = refl
kept-none None = refl

pub unbroken : (t : Tally) → with_broken None t ≡ t
unbroken t = ap (λ (b : Option Rule). record { status = t.status; broken = b }) (kept-none t.broken)

-- ---- two processes that compute on the same

pub two-alike : (q pid : ℕ) (s t : Machines) → laid s ≡ laid t → image_in q s ≡ image_in q t → image_in pid s ≡ image_in pid t → AreBeside (λ r. (r == q) || (r == pid)) s t
two-alike q pid s t same one own = record {
  same = same;
  images = λ r is.
      elim (or_cases (r == q) (r == pid) is) [
        | inl here ↦ subst (λ (k : ℕ). image_in k s ≡ image_in k t) (sym (passed-test r q here)) one
        | inr here ↦ subst (λ (k : ℕ). image_in k s ≡ image_in k t) (sym (passed-test r pid here)) own
      ];
}

pub first-of-two : (q pid : ℕ) → ((q == q) || (q == pid)) ≡ true
first-of-two q pid = or_left (q == q) (q == pid) (same-test q q refl)

pub second-of-two : (q pid : ℕ) → ((pid == q) || (pid == pid)) ≡ true
second-of-two q pid = or_right (pid == q) (pid == pid) (same-test pid pid refl)

-- one that is given an image computes on it
own-image : (pid : ℕ) (regs : Regs) (memory : Memory) (s : Machines) (p : Process ℕ Image) → process pid s ≡ Some p → image_in pid (computed pid regs memory s) ≡ record { regs = regs; memory = memory }
own-image pid regs memory s p lives = image-edited regs memory (at pid s) (subst IsSome (sym lives) refl)

-- and one that is given its own is as it was
own-given : (pid : ℕ) (s : Machines) (p : Process ℕ Image) → ArePids s → process pid s ≡ Some p → computed pid p.image.regs p.image.memory s ≡ s
own-given pid s p pids lives =
    ap (λ (i : Image). computed pid i.regs i.memory s) (sym (ap image_of lives)) ∙ ap (λ (t : Stopped). t.state) (there s pid nothing_handed p pids lives).one

module _ {S Part Kept : Type 0} (w : Whole S Part Kept) (pick : ℕ) (p : Process ℕ Image) (n : Machine S) (x : Loose S) (st : Stand w pick p n x) where
  -- ---- a turn of the process that is picked

  abbrev pub computed_by : Ran → Machine S → Machine S
  computed_by end m = record { state = computed p.pid end.regs end.memory m.state; watcher = m.watcher; tally = m.tally }

  pub turned-by : (fuel : ℕ) (end : Ran) → ran fuel st.other.image.regs st.other.image.memory ≡ end → turn w.f 0 w.table pick fuel n ≡ after_event w.f 0 w.table p.pid end.event (computed_by end n)
  turned-by fuel end is =
      ap (λ (o : Option (Process ℕ Image)). by_pick w.f 0 w.table fuel o n) st.picked
      ∙ ap (λ (r : Ran). after_event w.f 0 w.table st.other.pid r.event (record { state = computed st.other.pid r.regs r.memory n.state; watcher = n.watcher; tally = n.tally })) is
      ∙ ap (λ (k : ℕ). after_event w.f 0 w.table k end.event (record { state = computed k end.regs end.memory n.state; watcher = n.watcher; tally = n.tally })) st.numbered

  pub other-image : st.other.image ≡ image_in p.pid n.state
  other-image = sym (ap image_of st.lives_turns)

  pub picked-is : (q : Process ℕ Image) → picked_process n.state pick ≡ Some q → st.other ≡ q
  picked-is q picked = same_Some st.other q (sym st.picked ∙ picked)

  -- one that doesn't come to a call
  meets-nothing : (fuel : ℕ) (end : Ran) → ran fuel st.other.image.regs st.other.image.memory ≡ end → (end.event ≡ Call → ⊥) → MeetsNone w.f w.table (record { pick = pick; fuel = fuel }) n
  meets-nothing fuel end is none q picked calls =
      absurd (none (sym (ap (λ (r : Ran). r.event) is) ∙ ap (λ (r : Process ℕ Image). (ran fuel r.image.regs r.image.memory).event) (picked-is q picked) ∙ calls))

  -- ---- of one that runs

  module _ (fuel : ℕ) (runs : GoesAlike w.f w.asks w.l p.pid n x.machine) (stood : between_of p.pid x.paused ≡ None) (end : Ran) (is : ran fuel p.image.regs p.image.memory ≡ end) where
    abbrev given : Image
    given = record { regs = end.regs; memory = end.memory }

    same-image : st.other.image ≡ p.image
    same-image = other-image ∙ runs.image ∙ ap image_of st.lives_loose

    ran-as : (more : ℕ) (to : Ran) → ran more p.image.regs p.image.memory ≡ to → ran more st.other.image.regs st.other.image.memory ≡ to
    ran-as more to e = ap (λ (i : Image). ran more i.regs i.memory) same-image ∙ e

    image-turns : image_in p.pid (computed_by end n).state ≡ given
    image-turns = own-image p.pid end.regs end.memory n.state st.other st.lives_turns

    image-loose : image_in p.pid (computed_by end x.machine).state ≡ given
    image-loose = own-image p.pid end.regs end.memory x.machine.state p st.lives_loose

    computed-laid : laid (computed_by end n).state ≡ laid (computed_by end x.machine).state
    computed-laid =
        let none : AreBeside (λ q. false) n.state x.machine.state = record { same = st.lags.same; images = λ q no. absurd cc } in
        (w.below.ends.computed (λ q. false) p.pid end.regs end.memory n.state x.machine.state none).same

    computed-goes : stays_in p.pid (computed_by end n).state ≡ false
    computed-goes = computing-leaves-going p.pid p.pid end.regs end.memory n.state st.pids_turns runs.goes

    -- the others, whatever is told
    computed-stays : (q : ℕ) → (q ≡ p.pid → ⊥) → (m : Machine S) (tally : Tally) → StaysOther w q m (record { state = (computed_by end m).state; watcher = m.watcher; tally = tally })
    computed-stays q other m tally = record { found = computed-found p.pid q other end.regs end.memory m.state; part = refl; kept = refl }

    computed-others : (one two : Tally) (q : ℕ) → (q ≡ p.pid → ⊥)
        → OtherGoes w q n x.machine (record { state = (computed_by end n).state; watcher = n.watcher; tally = one }) (record { state = (computed_by end x.machine).state; watcher = x.machine.watcher; tally = two })
    computed-others one two q other =
        both-stay w q n x.machine (record { state = (computed_by end n).state; watcher = n.watcher; tally = one }) (record { state = (computed_by end x.machine).state; watcher = x.machine.watcher; tally = two })
        (computed-stays q other n one) (computed-stays q other x.machine two)

    -- with other numbers that are told
    abbrev left_by : Machine S → Tally → Machine S
    left_by m tally = record { state = (computed_by end m).state; watcher = m.watcher; tally = tally }

    -- ---- where fuel was used up

    abbrev next_moved : ℕ → Moved S
    next_moved done = idle_moved 0 w.table p.pid done (computing p end.regs end.memory x.machine) x.paused

    pub next-lags : (done : ℕ) → end.done ≡ done → end.event ≡ Next → w.Good (behind_turns w.f w.table (slots_of_kind pick (Instructions done)) n) → LagsOf w n (slots_of_kind pick (Instructions done)) (noted pick p.pid (next_moved done) x)
    next-lags zero none event good =
        let rests : end ≡ at_rest p.image.regs p.image.memory = sym is ∙ ran-rests fuel p.image.regs p.image.memory (ap (λ (r : Ran). r.done) is ∙ none) in
        let unmoved : (computed_by end x.machine).state ≡ x.machine.state =
        ap (λ (r : Ran). computed p.pid r.regs r.memory x.machine.state) rests ∙ own-given p.pid x.machine.state p st.pids_loose st.lives_loose in
        let itself : GoesAlike w.f w.asks w.l p.pid n (left_by x.machine (with_broken None x.machine.tally)) =
        record { image = runs.image ∙ sym (ap (image_in p.pid) unmoved); part = runs.part; goes = runs.goes } in
        still-lags w pick p n x st (next_moved zero) (λ q other. refl) (ap laid (sym unmoved)) (sym (unbroken x.machine.tally)) st.lags.fits_steps
        (λ q other. computed-stays q other x.machine (with_broken None x.machine.tally))
        (subst (λ (o : Option Between). At w p.pid o (step_by w pick p.pid (next_moved zero) x ∷ x.steps) n (left_by x.machine (with_broken None x.machine.tally))) (sym stood) itself)
    next-lags (suc k) some event good =
        let all : ran (suc k) st.other.image.regs st.other.image.memory ≡ end = ran-as (suc k) end (ran-again fuel (suc k) p.image.regs p.image.memory end is some) in
        let to : Machine S = left_by n (with_broken None n.tally) in
        let turned : turn w.f 0 w.table pick (suc k) n ≡ to = turned-by (suc k) end all ∙ ap (λ (e : Event). after_event w.f 0 w.table p.pid e (computed_by end n)) event in
        let itself : GoesAlike w.f w.asks w.l p.pid (after_put to) (after_put (left_by x.machine (with_broken None x.machine.tally))) =
        record { image = image-turns ∙ sym image-loose; part = runs.part; goes = computed-goes } in
        turned-lags w pick p n x st (next_moved (suc k)) (λ q other. refl) (suc k) to turned computed-laid good
        (w.scene.stays.tame (record { pick = pick; fuel = suc k }) n st.good st.tame (meets-nothing (suc k) end all (λ calls. (let no : Next ≡ Call = sym event ∙ calls in cc))))
        (ap (with_broken None) st.lags.tally) st.lags.fits_turns st.lags.fits_steps (computed-others (with_broken None n.tally) (with_broken None x.machine.tally))
        (subst (λ (o : Option Between). At w p.pid o (step_by w pick p.pid (next_moved (suc k)) x ∷ x.steps) (after_put to) (after_put (left_by x.machine (with_broken None x.machine.tally)))) (sym stood) itself)

    -- ---- where a call was met

    abbrev call_moved : ℕ → Moved S
    call_moved done = record { kind = Instructions done; machine = computing p end.regs end.memory x.machine; paused = paused_at p.pid AtCall x.paused }

    module _ (event : end.event ≡ Call) where
      clear : HasNoMarks p.image.memory.pages
      clear = subst (λ (i : Image). HasNoMarks i.memory.pages) same-image (process-unmarked p.pid n.state (w.scene.stays.unmarked n st.good) st.other st.lives_turns)

      parts : PartsAtCall end p.image.regs p.image.memory
      parts = subst (λ (r : Ran). PartsAtCall r p.image.regs p.image.memory) is (runs-part-at-calls fuel p.image.regs p.image.memory clear (ap (λ (r : Ran). r.event) is ∙ event))

      comes-alike : (k h : Machine S) → image_in p.pid k.state ≡ given → image_in p.pid h.state ≡ given → w.l.part p.pid h.watcher ≡ w.l.part p.pid k.watcher → stays_in p.pid k.state ≡ false → IsSome (process p.pid k.state)
          → ComesAlike w.f w.asks w.l p.pid k h
      comes-alike k h one other part goes lives = record {
        alike = record { image = one ∙ sym other; part = part; goes = goes };
        lives = lives;
        meets = subst MeetsCall (sym one) parts.again;
      }

      abbrev image_by : Ran → Image
      image_by r = record { regs = r.regs; memory = r.memory }

      pub call-lags : (done : ℕ) → end.done - 1 ≡ done → w.Good (behind_turns w.f w.table (slots_of_kind pick (Instructions done)) n) → LagsOf w n (slots_of_kind pick (Instructions done)) (noted pick p.pid (call_moved done) x)
      call-lags zero none good =
          let rests : at_rest p.image.regs p.image.memory ≡ record { event = Next; regs = end.regs; memory = end.memory; done = end.done - 1 } =
          sym (ran-zero None p.image.regs p.image.memory) ∙ ap (λ (k : ℕ). ran k p.image.regs p.image.memory) (sym none) ∙ parts.before in
          let own : given ≡ p.image = sym (ap image_by rests) in
          let unmoved : (computed_by end x.machine).state ≡ x.machine.state =
          ap (λ (i : Image). computed p.pid i.regs i.memory x.machine.state) own ∙ own-given p.pid x.machine.state p st.pids_loose st.lives_loose in
          let itself : ComesAlike w.f w.asks w.l p.pid n (computed_by end x.machine) =
          comes-alike n (computed_by end x.machine) (runs.image ∙ ap image_of st.lives_loose ∙ sym own) image-loose runs.part runs.goes (subst IsSome (sym st.lives_turns) refl) in
          still-lags w pick p n x st (call_moved zero) (paused-other p.pid x.paused AtCall) (ap laid (sym unmoved)) refl st.lags.fits_steps (λ q other. computed-stays q other x.machine x.machine.tally)
          (subst (λ (o : Option Between). At w p.pid o (step_by w pick p.pid (call_moved zero) x ∷ x.steps) n (computed_by end x.machine)) (sym (paused-own p.pid x.paused AtCall)) itself)
      call-lags (suc k) some good =
          let before : Ran = record { event = Next; regs = end.regs; memory = end.memory; done = end.done - 1 } in
          let all : ran (suc k) st.other.image.regs st.other.image.memory ≡ before = ran-as (suc k) before (ap (λ (k : ℕ). ran k p.image.regs p.image.memory) (sym some) ∙ parts.before) in
          let to : Machine S = left_by n (with_broken None n.tally) in
          let turned : turn w.f 0 w.table pick (suc k) n ≡ to = turned-by (suc k) before all in
          let itself : ComesAlike w.f w.asks w.l p.pid (after_put to) (after_put (computed_by end x.machine)) =
          comes-alike (after_put to) (after_put (computed_by end x.machine)) image-turns image-loose runs.part computed-goes
          (computed-lives p.pid end.regs end.memory n.state (subst IsSome (sym st.lives_turns) refl)) in
          turned-lags w pick p n x st (call_moved (suc k)) (paused-other p.pid x.paused AtCall) (suc k) to turned computed-laid good
          (w.scene.stays.tame (record { pick = pick; fuel = suc k }) n st.good st.tame (meets-nothing (suc k) before all (λ calls. (let no : Next ≡ Call = calls in cc))))
          (unbroken n.tally ∙ st.lags.tally) st.lags.fits_turns st.lags.fits_steps (computed-others (with_broken None n.tally) x.machine.tally)
          (subst (λ (o : Option Between). At w p.pid o (step_by w pick p.pid (call_moved (suc k)) x ∷ x.steps) (after_put to) (after_put (computed_by end x.machine))) (sym (paused-own p.pid x.paused AtCall)) itself)

    -- ---- where one of them killed

    module _ (signal : ℕ) (event : end.event ≡ Killed signal) where
      abbrev dead : Machine S → Tally → Machine S
      dead m tally = record { state = killed p.pid signal (computed_by end m).state; watcher = w.f.gone m.watcher p.pid; tally = tally }

      abbrev tally_of : Tally → Tally
      tally_of tally = with_status (128 + signal) (with_broken None tally)

      abbrev kill_moved : ℕ → Moved S
      kill_moved done = record { kind = Instructions done; machine = dead x.machine (tally_killed 0 w.table p.pid signal (computing p end.regs end.memory x.machine)); paused = x.paused }

      computed-pids : ArePids (computed_by end n).state
      computed-pids = computing-leaves-pids p.pid end.regs end.memory n.state st.pids_turns

      both-dead : (q : ℕ) → image_in q (computed_by end n).state ≡ image_in q (computed_by end x.machine).state
          → AreBeside (λ r. (r == q) || (r == p.pid)) (killed p.pid signal (computed_by end n).state) (killed p.pid signal (computed_by end x.machine).state)
      both-dead q one =
          w.below.ends.killed (λ r. (r == q) || (r == p.pid)) p.pid signal (computed_by end n).state (computed_by end x.machine).state computed-pids
          (two-alike q p.pid (computed_by end n).state (computed_by end x.machine).state computed-laid one (image-turns ∙ sym image-loose))

      own-dead : AreBeside (λ r. (r == p.pid) || (r == p.pid)) (killed p.pid signal (computed_by end n).state) (killed p.pid signal (computed_by end x.machine).state)
      own-dead = both-dead p.pid (image-turns ∙ sym image-loose)

      dead-left : (q : ℕ) → (q ≡ p.pid → ⊥) → (m : Machine S) (tally : Tally) → w.fits m.watcher → IsLeft w q (computed_by end m) (dead m tally)
      dead-left q other m tally fits = record {
        on = (killed-leaves p.pid signal (computed_by end m).state (killed p.pid signal (computed_by end m).state) refl).others q other;
        part = w.scene.local.gone_part m.watcher p.pid q fits other;
        kept = w.scene.local.gone_kept m.watcher p.pid q fits other;
      }

      dead-others : (one two : Tally) (q : ℕ) → (q ≡ p.pid → ⊥) → OtherGoes w q (computed_by end n) (computed_by end x.machine) (dead n one) (dead x.machine two)
      dead-others one two q other = record {
        images = λ e. (both-dead q e).images q (first-of-two q p.pid);
        goes = λ e. death-leaves-going p.pid q signal (computed_by end n).state computed-pids e;
        parts = λ e. w.scene.local.gone_part x.machine.watcher p.pid q st.lags.fits_steps other ∙ e ∙ sym (w.scene.local.gone_part n.watcher p.pid q st.lags.fits_turns other);
        turns_left = λ lives. dead-left q other n one st.lags.fits_turns;
        loose_left = λ lives. dead-left q other x.machine two st.lags.fits_steps;
      }

      pub kill-lags : (done : ℕ) → end.done ≡ done → w.Good (behind_turns w.f w.table (slots_of_kind pick (Instructions done)) n) → LagsOf w n (slots_of_kind pick (Instructions done)) (noted pick p.pid (kill_moved done) x)
      kill-lags zero none good =
          let rests : end ≡ at_rest p.image.regs p.image.memory = sym is ∙ ran-rests fuel p.image.regs p.image.memory (ap (λ (r : Ran). r.done) is ∙ none) in
          absurd (let no : Killed signal ≡ Next = sym event ∙ ap (λ (r : Ran). r.event) rests in cc)
      kill-lags (suc k) some good =
          let all : ran (suc k) st.other.image.regs st.other.image.memory ≡ end = ran-as (suc k) end (ran-again fuel (suc k) p.image.regs p.image.memory end is some) in
          let to : Machine S = dead n (tally_of n.tally) in
          let gone : Machine S = dead x.machine (tally_of x.machine.tally) in
          let turned : turn w.f 0 w.table pick (suc k) n ≡ to = turned-by (suc k) end all ∙ ap (λ (e : Event). after_event w.f 0 w.table p.pid e (computed_by end n)) event in
          let itself : GoesAlike w.f w.asks w.l p.pid (after_put to) (after_put gone) = record {
            image = own-dead.images p.pid (first-of-two p.pid p.pid);
            part = w.scene.local.gone_own n.watcher x.machine.watcher p.pid st.lags.fits_turns st.lags.fits_steps runs.part;
            goes = death-ends-waiting p.pid signal (computed_by end n).state;
          } in
          turned-lags w pick p n x st (kill_moved (suc k)) (λ q other. refl) (suc k) to turned own-dead.same good
          (w.scene.stays.tame (record { pick = pick; fuel = suc k }) n st.good st.tame (meets-nothing (suc k) end all (λ calls. (let no : Killed signal ≡ Call = sym event ∙ calls in cc))))
          (ap tally_of st.lags.tally) (w.scene.local.gone_fits n.watcher p.pid st.lags.fits_turns) (w.scene.local.gone_fits x.machine.watcher p.pid st.lags.fits_steps)
          (λ q other. then-goes w q n x.machine (computed_by end n) (computed_by end x.machine) to gone (computed-others n.tally x.machine.tally q other) (dead-others (tally_of n.tally) (tally_of x.machine.tally) q other))
          (subst (λ (o : Option Between). At w p.pid o (step_by w pick p.pid (kill_moved (suc k)) x ∷ x.steps) (after_put to) (after_put gone)) (sym stood) itself)
