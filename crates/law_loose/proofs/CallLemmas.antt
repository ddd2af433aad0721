-- A call that a quiet loose run carries out behind its first stop: the turn that stands for it makes all three steps, and comes to the same but for the
-- second stop, which is still to come in the loose run.
use Rattle.std.proofs.Common.{◌≡◌, inl, inr, ◌⊎◌, ℕ, Bool, true, false, ◌||◌, List, [], ◌∷◌, Option, Some, None, refl, sym, ap, subst, ◌∙◌}
use Rattle.std.specs.Prelude.{map as map_list, ◌==◌, IsSome, Result, Ok, Err}
use Rattle.std.specs.List.{All}
use Rattle.std.specs.Option.{option_map, option_map_or}
use Rattle.std.proofs.lemmas.Bool.{cases_eq, or_left}
use Rattle.std.proofs.lemmas.Option.{same_Some}
use Rattle.kr_loose.specs.kr_core.pr_base.declared.errno.Errno.{Errno}
use Rattle.kr_loose.specs.kr_turns.rv_cpu.Run.{Ran, ran}
use Rattle.kr_loose.specs.kr_turns.rv_cpu.declared.event.Event.TheVariants.{Call}
use Rattle.kr_loose.specs.kr_view.View.{Row}
use Rattle.kr_loose.specs.kr_view.declared.target.Reach.{Reach}
use Rattle.kr_loose.specs.kr_core.kr_calls.Arguments.{number}
use Rattle.kr_loose.specs.kr_core.kr_calls.declared.request.Request.{Request}
use Rattle.kr_loose.specs.kr_core.kr_calls.declared.request.Request.TheVariants as call
use Rattle.kr_loose.specs.rv_mem.Actions.{carried_out as carried_out_on}
use Rattle.kr_loose.specs.kr_core.kr_calls.Decoding.{decoding}
use Rattle.kr_loose.specs.kr_model.Applied.{with_living}
use Rattle.kr_loose.specs.kr_model.Lawful.{ArePids, RiseFrom}
use Rattle.kr_loose.specs.kr_model.State.{Image, Process, State, at_pid, process}
use Rattle.kr_loose.specs.kr_core.kr_calm.declared.rule.Rule.{Rule}
use Rattle.kr_loose.specs.kr_core.kr_steps.Answering.{going, waiting}
use Rattle.kr_loose.specs.kr_stops.Stopped.{IsThere, Stopped, computed, edited, image_at, image_in, nothing_handed}
use Rattle.kr_loose.specs.kr_stops.declared.handed.Handed.{Handed}
use Rattle.kr_loose.specs.kr_turns.Breaking.{decoded_rule, nothing_reached, plain_rule, plain_rule_of, requested_rule}
use Rattle.kr_loose.specs.kr_turns.CallSteps.{behind_if, carried_by, carried_out, entered, exited}
use Rattle.kr_loose.specs.kr_turns.PlainCall.{Came, plain_call, plain_reach}
use Rattle.kr_loose.specs.kr_turns.Run.{Slot, after_put, cleared}
use Rattle.kr_loose.specs.kr_turns.Shelving.{lacks_in}
use Rattle.kr_loose.specs.kr_turns.Turn.{Machine, Tally, after_born, after_end, after_exit, called, calling, turn, watched_call, with_broken, with_status}
use Rattle.kr_loose.specs.kr_turns.declared.plain.CallEnd.{CallEnd}
use Rattle.kr_loose.specs.kr_turns.declared.plain.CallEnd.TheVariants as end
use Rattle.kr_loose.specs.kr_turns.declared.steps.After.{After}
use Rattle.kr_loose.specs.kr_turns.declared.steps.After.TheVariants.{Behind, Gone, Waiting}
use Rattle.kr_loose.specs.kr_core.Between.{between_of}
use Rattle.kr_loose.specs.kr_core.Moving.{Moved, calls_execve, plainly_moved}
use Rattle.kr_loose.specs.kr_core.declared.paused.Begun.{Begun}
use Rattle.kr_loose.specs.kr_core.declared.paused.Between.{Between}
use Rattle.kr_loose.specs.kr_core.declared.paused.Between.TheVariants.{Done, Entered}
use Rattle.kr_loose.specs.LooseRun.{Loose, noted}
use Rattle.kr_loose.specs.Marks.{AreUnmarked}
use Rattle.kr_loose.specs.Quiet.{LeavesFor, others_since_entry}
use Rattle.kr_loose.specs.WaitingCalls.{LeavesAll}
use Rattle.kr_loose.specs.Local.{EntersAlike, ExitsAlike}
use Rattle.kr_loose.proofs.WaitingLemmas.{waits-leave-all}
use Rattle.law_beside.specs.Beside.{laid}
use Rattle.law_beside.specs.Calls.{ComeBeside, is_child}
use Rattle.law_beside.proofs.kr_core.PausedLemmas.{paused-other, paused-own, run-other, run-own}
use Rattle.law_beside.proofs.kr_core.kr_stops.EditLemmas.{own-same, there}
use Rattle.law_beside.proofs.kr_core.kr_turns.ApartLemmas.{called-leaves}
use Rattle.law_beside.proofs.kr_core.law_lawful.ProcessChangeLemmas.{found as found-changed}
use Rattle.law_loose.specs.Lagging.{GoesAlike, HasBegun, IsAhead, IsBehind, MeetsCall, leaving, stays_in}
use Rattle.law_loose.specs.Staying.{MeetsNone, behind_turn}
use Rattle.law_loose.proofs.AloneLemmas.{call-ends-waiting, call-leaves-going, child-is-new}
use Rattle.law_loose.proofs.BelowLemmas.{Whole}
use Rattle.law_loose.proofs.OtherLemmas.{At, IsLeft, LagsOf, OtherGoes, Stand, StaysOther, both-stay, image_of, left-other, left-then, same-waits, stays-same, step_by, then-goes, turned-lags, waits_of}
use Rattle.law_loose.proofs.RunningLemmas.{computed_by, first-of-two, other-image, picked-is, second-of-two, turned-by, two-alike}
use Rattle.law_loose.proofs.StopLemmas.{at, calls-there, entry-edits, entry-laid, entry-lives, entry-pid, entry-pids, entry-stays, exit-image, exit-laid, exit-lives, exit-stays, state-called}

abbrev Machines : Type 0
Machines = State ℕ Image

-- ---- a kernel that keeps no marks judges no call

module _ (table : List Row) (pid : ℕ) (no_shelf : Bool) where
  request-unjudged : (r : Request) (s : Machines) → requested_rule 0 table pid no_shelf r s ≡ None
  request-unjudged (call.Execve path args env) s = refl
  request-unjudged _ s = refl

  decoded-unjudged : (result : Result Request Errno) (s : Machines) → decoded_rule 0 table pid no_shelf result s ≡ None
  decoded-unjudged (Ok r) s = request-unjudged r s
  decoded-unjudged (Err e) s = refl

  unjudged : (s : Machines) → plain_rule 0 table pid no_shelf s ≡ None
  unjudged s = by (process pid s)
    where
      by : (o : Option (Process ℕ Image)) → option_map_or (plain_rule_of 0 table pid no_shelf s) o None ≡ None
      by None = refl
      by (Some p) = decoded-unjudged (carried_out_on (decoding p.image.regs) p.image.memory).reply (computed pid p.image.regs (carried_out_on (decoding p.image.regs) p.image.memory).memory s)

-- ---- what lives

some-of : {A : Type 0} (o : Option A) → IsSome o → (v : A) × (o ≡ Some v)
some-of None lives = absurd cc
some-of (Some v) lives = (v, refl)

is-child-or : (c : Option ℕ) (q : ℕ) → (c ≡ Some q) ⊎ (c ≡ Some q → ⊥)
is-child-or None q = inr (λ e. cc)
is-child-or (Some k) q =
    elim (cases_eq k q) [
      | inl is ↦ inl (ap (λ (n : ℕ). Some n) is)
      | inr other ↦ inr (λ e. other (same_Some k q e))
    ]

-- one that lives among processes whose numbers rise is there, whatever number comes next
there-by : (s : Machines) (pid : ℕ) (handed : Handed) (next : ℕ) (p : Process ℕ Image) → RiseFrom 2 next (map_list (λ p. p.pid) s.living) → process pid s ≡ Some p → IsThere (record { state = s; pid = pid; handed = handed })
there-by s pid handed next p rise lives = record {
  lives = subst IsSome (sym lives) refl;
  one =
      ap (λ (o : Option (Process ℕ Image)). edited (image_of o).regs (image_of o).memory (record { state = s; pid = pid; handed = handed })) lives
      ∙ ap (λ (ps : List (Process ℕ Image)). record { state = with_living (λ _. ps) s; pid = pid; handed = handed }) (own-same next pid 2 s.living p rise lives);
}

-- ---- children

module _ {S Part Kept : Type 0} (w : Whole S Part Kept) (pid : ℕ) where
  born-fits : (child : Option ℕ) (a : S) → w.fits a → w.fits (after_born w.f pid child a)
  born-fits None a fits = fits
  born-fits (Some c) a fits = w.scene.local.born_fits a pid c fits

  born-kept : (child : Option ℕ) (a : S) (q : ℕ) → w.fits a → w.l.kept q (after_born w.f pid child a) ≡ w.l.kept q a
  born-kept None a q fits = refl
  born-kept (Some c) a q fits = w.scene.local.born_kept a pid c q fits

  born-part : (child : Option ℕ) (a : S) (q : ℕ) → (child ≡ Some q → ⊥) → w.fits a → w.l.part q (after_born w.f pid child a) ≡ w.l.part q a
  born-part None a q none fits = refl
  born-part (Some c) a q none fits = w.scene.local.born_part a pid c q fits (λ is. none (ap (λ (n : ℕ). Some n) (sym is)))

  born-child : (child : Option ℕ) (a b : S) (q : ℕ) → child ≡ Some q → w.fits a → w.fits b → w.l.part pid b ≡ w.l.part pid a → w.l.part q (after_born w.f pid child b) ≡ w.l.part q (after_born w.f pid child a)
  born-child None a b q is fits fits_other part = absurd cc
  born-child (Some c) a b q is fits fits_other part =
      subst (λ (k : ℕ). w.l.part k (w.f.born b pid c) ≡ w.l.part k (w.f.born a pid c)) (same_Some c q is) (w.scene.local.born_child a b pid c fits fits_other part)

-- ---- the call

module _ {S Part Kept : Type 0} (w : Whole S Part Kept) (pick : ℕ) (p : Process ℕ Image) (n : Machine S) (x : Loose S) (st : Stand w pick p n x) (begun : Begun)
    (h : HasBegun w.f w.asks w.l p.pid begun x.steps n x.machine) (stood : between_of p.pid x.paused ≡ Some (Entered begun)) (all : All (LeavesFor begun.exec) (others_since_entry p.pid x.steps))
    (unmet : (plain_reach w.table p.pid x.machine.state nothing_reached).met_proc ≡ false) where
  abbrev slot : Slot
  slot = record { pick = pick; fuel = 1 }

  -- the machine of turns behind the first stop of this turn
  abbrev mid : Machine S
  mid = entered w.f 0 p.pid n

  -- what the call comes to, in both
  abbrev one : Came
  one = plain_call w.table p.pid mid.state

  abbrev other : Came
  other = plain_call w.table p.pid x.machine.state

  ahead : IsAhead w.f w.asks w.l p.pid n x.machine
  ahead = h.ahead all

  fits_mid : w.fits mid.watcher
  fits_mid = w.scene.local.entry_fits n.watcher (calling 0 p.pid n.state) st.lags.fits_turns

  mid-pids : ArePids mid.state
  mid-pids = entry-pids w p.pid n st.lags.fits_turns st.pids_turns st.other st.lives_turns

  mid-lives : IsSome (process p.pid mid.state)
  mid-lives = entry-lives w p.pid n st.lags.fits_turns st.pids_turns st.other st.lives_turns

  mid-stays : (q : ℕ) → (q ≡ p.pid → ⊥) → StaysOther w q n mid
  mid-stays = entry-stays w p.pid n st.lags.fits_turns st.pids_turns st.other st.lives_turns

  mid-laid : laid mid.state ≡ laid x.machine.state
  mid-laid = sym (entry-laid w p.pid n st.lags.fits_turns st.pids_turns st.other st.lives_turns) ∙ st.lags.same

  own-alike : image_in p.pid mid.state ≡ image_in p.pid x.machine.state
  own-alike = sym ahead.image

  come : (q : ℕ) → image_in q mid.state ≡ image_in q x.machine.state → ComeBeside (λ r. (r == q) || (r == p.pid)) one other
  come q alike =
      w.below.calls.call (λ r. (r == q) || (r == p.pid)) w.table p.pid mid.state x.machine.state mid-pids (second-of-two q p.pid) (two-alike q p.pid mid.state x.machine.state mid-laid alike own-alike)

  come-own : ComeBeside (λ r. (r == p.pid) || (r == p.pid)) one other
  come-own = come p.pid own-alike

  come-image : (q : ℕ) → image_in q mid.state ≡ image_in q x.machine.state → image_in q one.state ≡ image_in q other.state
  come-image q alike = (come q alike).state.images q (or_left ((q == q) || (q == p.pid)) (is_child one.child q) (first-of-two q p.pid))

  -- ---- the watchers behind the call, before the second stop

  abbrev bearing : S
  bearing = after_born w.f p.pid one.child mid.watcher

  abbrev bearing_too : S
  bearing_too = after_born w.f p.pid other.child x.machine.watcher

  fits_bearing : w.fits bearing
  fits_bearing = born-fits w p.pid one.child mid.watcher fits_mid

  fits_too : w.fits bearing_too
  fits_too = born-fits w p.pid other.child x.machine.watcher st.lags.fits_steps

  -- who lives is no child
  no-child : (q : ℕ) → IsSome (process q mid.state) → one.child ≡ Some q → ⊥
  no-child q lives is = child-is-new w.table p.pid q mid.state mid-pids is lives

  no-child-too : (q : ℕ) → IsSome (process q mid.state) → other.child ≡ Some q → ⊥
  no-child-too q lives is = no-child q lives (come-own.child ∙ is)

  part-entered : w.l.part p.pid mid.watcher ≡ w.l.part p.pid n.watcher
  part-entered = w.scene.local.entry_part n.watcher (calling 0 p.pid n.state) p.pid st.lags.fits_turns

  part-bearing : w.l.part p.pid bearing ≡ w.l.part p.pid n.watcher
  part-bearing = born-part w p.pid one.child mid.watcher p.pid (no-child p.pid mid-lives) fits_mid ∙ part-entered

  own-part : w.l.part p.pid bearing_too ≡ w.l.part p.pid bearing
  own-part = born-part w p.pid other.child x.machine.watcher p.pid (no-child-too p.pid mid-lives) st.lags.fits_steps ∙ h.part ∙ sym part-bearing

  own-kept : w.l.kept p.pid bearing ≡ w.l.kept p.pid bearing_too
  own-kept =
      born-kept w p.pid one.child mid.watcher p.pid fits_mid ∙ sym ahead.kept ∙ sym (born-kept w p.pid other.child x.machine.watcher p.pid st.lags.fits_steps)

  -- ---- both machines there

  abbrev turns_at : Tally → Machine S
  turns_at tally = record { state = one.state; watcher = bearing; tally = tally }

  abbrev loose_at : Tally → Machine S
  loose_at tally = record { state = other.state; watcher = bearing_too; tally = tally }

  part-of : (q : ℕ) → w.l.part q x.machine.watcher ≡ w.l.part q n.watcher → w.l.part q bearing_too ≡ w.l.part q bearing
  part-of q same =
      elim (is-child-or one.child q) [
        | inl is ↦
            ap (λ (c : Option ℕ). w.l.part q (after_born w.f p.pid c x.machine.watcher)) (sym come-own.child)
            ∙ born-child w p.pid one.child mid.watcher x.machine.watcher q is fits_mid st.lags.fits_steps (h.part ∙ sym part-entered)
        | inr none ↦
            born-part w p.pid other.child x.machine.watcher q (λ is. none (come-own.child ∙ is)) st.lags.fits_steps
            ∙ same
            ∙ sym (w.scene.local.entry_part n.watcher (calling 0 p.pid n.state) q st.lags.fits_turns)
            ∙ sym (born-part w p.pid one.child mid.watcher q none fits_mid)
      ]

  module _ (q : ℕ) (apart : q ≡ p.pid → ⊥) where
    left-turns : (tally : Tally) → IsSome (process q n.state) → IsLeft w q n (turns_at tally)
    left-turns tally lives =
        let there_still : IsSome (process q mid.state) = subst IsSome (sym (mid-stays q apart).found) lives in
        let first : IsLeft w q n mid = left-other w q n mid (mid-stays q apart) in
        let second : IsLeft w q mid (turns_at tally) = record {
          on = (called-leaves w.table p.pid mid.state one.state refl).others q apart;
          part = born-part w p.pid one.child mid.watcher q (no-child q there_still) fits_mid;
          kept = born-kept w p.pid one.child mid.watcher q fits_mid;
        } in
        left-then w q n mid (turns_at tally) first second

    left-loose : (tally : Tally) → IsSome (process q x.machine.state) → IsLeft w q x.machine (loose_at tally)
    left-loose tally lives = record {
      on = (called-leaves w.table p.pid x.machine.state other.state refl).others q apart;
      part = born-part w p.pid other.child x.machine.watcher q (no-child-too q (w.below.equal.lives q x.machine.state mid.state (sym mid-laid) lives)) st.lags.fits_steps;
      kept = born-kept w p.pid other.child x.machine.watcher q st.lags.fits_steps;
    }

    others-go : (tally more : Tally) → OtherGoes w q n x.machine (turns_at tally) (loose_at more)
    others-go tally more = record {
      images = λ e. come-image q (ap image_of (mid-stays q apart).found ∙ e);
      goes = λ e. call-leaves-going w.table p.pid q mid.state apart mid-pids (ap waits_of (mid-stays q apart).found ∙ e);
      parts = part-of q;
      turns_left = left-turns tally;
      loose_left = left-loose more;
    }

  -- ---- what is told

  abbrev tally_turns : Tally
  tally_turns = with_broken (plain_rule 0 w.table p.pid (lacks_in 0 p.pid n.state) mid.state) n.tally

  abbrev tally_loose : Tally
  tally_loose = with_broken (plain_rule 0 w.table p.pid begun.no_shelf x.machine.state) x.machine.tally

  tally-same : tally_turns ≡ tally_loose
  tally-same =
      ap (λ (r : Option Rule). with_broken r n.tally) (unjudged w.table p.pid (lacks_in 0 p.pid n.state) mid.state)
      ∙ ap (with_broken None) st.lags.tally
      ∙ sym (ap (λ (r : Option Rule). with_broken r x.machine.tally) (unjudged w.table p.pid begun.no_shelf x.machine.state))

  -- ---- the turn

  -- its one instruction is the call, and it is made in the state that there was
  abbrev at_call : Ran
  at_call = record { event = Call; regs = (image_in p.pid n.state).regs; memory = (image_in p.pid n.state).memory; done = 1 }

  ran-call : ran 1 st.other.image.regs st.other.image.memory ≡ at_call
  ran-call = ap (λ (i : Image). ran 1 i.regs i.memory) (other-image w pick p n x st) ∙ h.meets 0

  unmoved : computed p.pid (image_in p.pid n.state).regs (image_in p.pid n.state).memory n.state ≡ n.state
  unmoved = ap (λ (t : Stopped). t.state) (there n.state p.pid nothing_handed st.other st.pids_turns st.lives_turns).one

  turn-calls : turn w.f 0 w.table pick 1 n ≡ after_end w.f p.pid one.end (called p.pid one) bearing tally_turns
  turn-calls =
      let before : computed_by w pick p n x st at_call n ≡ n = λ i. record { state = unmoved i; watcher = n.watcher; tally = n.tally } in
      turned-by w pick p n x st 1 at_call ran-call ∙ ap (watched_call w.f 0 w.table p.pid) before

  turn-ends : (e : CallEnd) → other.end ≡ e → turn w.f 0 w.table pick 1 n ≡ after_end w.f p.pid e (called p.pid one) bearing tally_turns
  turn-ends e is = turn-calls ∙ ap (λ (last : CallEnd). after_end w.f p.pid last (called p.pid one) bearing tally_turns) (come-own.end ∙ is)

  -- ---- its walks

  abbrev met_in : ℕ → Machines → Bool
  met_in k s = (plain_reach w.table k (w.f.entry n.watcher (calling 0 k s)).1.state nothing_reached).met_proc

  abbrev met_by_turn : Process ℕ Image → Bool
  met_by_turn r = met_in r.pid (computed r.pid (ran 1 r.image.regs r.image.memory).regs (ran 1 r.image.regs r.image.memory).memory n.state)

  reach-same : plain_reach w.table p.pid mid.state nothing_reached ≡ plain_reach w.table p.pid x.machine.state nothing_reached
  reach-same =
      w.below.calls.reach (λ r. (r == p.pid) || (r == p.pid)) w.table p.pid mid.state x.machine.state nothing_reached (second-of-two p.pid p.pid)
      (two-alike p.pid p.pid mid.state x.machine.state mid-laid own-alike own-alike)

  none-met : met_by_turn st.other ≡ false
  none-met =
      ap (λ (r : Ran). met_in st.other.pid (computed st.other.pid r.regs r.memory n.state)) ran-call
      ∙ ap (λ (k : ℕ). met_in k (computed k at_call.regs at_call.memory n.state)) st.numbered
      ∙ ap (met_in p.pid) unmoved
      ∙ ap (λ (r : Reach). r.met_proc) reach-same
      ∙ unmet

  meets-none : MeetsNone w.f w.table slot n
  meets-none q picked calls = subst (λ (r : Process ℕ Image). met_by_turn r ≡ false) (picked-is w pick p n x st q picked) none-met

  module _ (good : w.Good (behind_turn w.f w.table slot n)) where
    tame : w.Tame (behind_turn w.f w.table slot n)
    tame = w.scene.stays.tame slot n st.good st.tame meets-none

    abbrev moved_by : After → Machine S → Moved S
    moved_by after machine = plainly_moved p.pid begun.exec (record { machine = machine; after = after }) x.paused

    -- ---- where it ended its caller

    abbrev ended_turns : ℕ → Machine S
    ended_turns told = record { state = one.state; watcher = w.f.gone bearing p.pid; tally = with_status told tally_turns }

    abbrev ended_loose : ℕ → Machine S
    ended_loose told = record { state = other.state; watcher = w.f.gone bearing_too p.pid; tally = with_status told tally_loose }

    ended-others : (told q : ℕ) → (q ≡ p.pid → ⊥) → OtherGoes w q (turns_at tally_turns) (loose_at tally_loose) (ended_turns told) (ended_loose told)
    ended-others told q apart =
        both-stay w q (turns_at tally_turns) (loose_at tally_loose) (ended_turns told) (ended_loose told)
        (record { found = refl; part = w.scene.local.gone_part bearing p.pid q fits_bearing apart; kept = w.scene.local.gone_kept bearing p.pid q fits_bearing apart })
        (record { found = refl; part = w.scene.local.gone_part bearing_too p.pid q fits_too apart; kept = w.scene.local.gone_kept bearing_too p.pid q fits_too apart })

    ended-lags : (told : ℕ) → other.end ≡ end.Ended told → LagsOf w n (slot ∷ []) (noted pick p.pid (moved_by Gone (ended_loose told)) x)
    ended-lags told is =
        let itself : GoesAlike w.f w.asks w.l p.pid (after_put (ended_turns told)) (after_put (ended_loose told)) = record {
          image = come-image p.pid own-alike;
          part = w.scene.local.gone_own bearing bearing_too p.pid fits_bearing fits_too own-part;
          goes = call-ends-waiting w.table p.pid mid.state (λ waits. absurd (let no : end.Ended told ≡ end.Waits = sym (come-own.end ∙ is) ∙ waits in cc));
        } in
        turned-lags w pick p n x st (moved_by Gone (ended_loose told)) (run-other p.pid x.paused) 1 (ended_turns told) (turn-ends (end.Ended told) is) come-own.state.same good tame
        (ap (with_status told) tally-same) (w.scene.local.gone_fits bearing p.pid fits_bearing) (w.scene.local.gone_fits bearing_too p.pid fits_too)
        (λ q apart. then-goes w q n x.machine (turns_at tally_turns) (loose_at tally_loose) (ended_turns told) (ended_loose told) (others-go q apart tally_turns tally_loose) (ended-others told q apart))
        (subst (λ (o : Option Between). At w p.pid o (step_by w pick p.pid (moved_by Gone (ended_loose told)) x ∷ x.steps) (after_put (ended_turns told)) (after_put (ended_loose told))) (sym (run-own p.pid x.paused)) itself)

    -- ---- where it was answered

    -- and its caller doesn't live
    gone-lags : turn w.f 0 w.table pick 1 n ≡ turns_at tally_turns → stays_in p.pid one.state ≡ false → LagsOf w n (slot ∷ []) (noted pick p.pid (moved_by Gone (loose_at tally_loose)) x)
    gone-lags is goes =
        let itself : GoesAlike w.f w.asks w.l p.pid (after_put (turns_at tally_turns)) (after_put (loose_at tally_loose)) = record { image = come-image p.pid own-alike; part = own-part; goes = goes } in
        turned-lags w pick p n x st (moved_by Gone (loose_at tally_loose)) (run-other p.pid x.paused) 1 (turns_at tally_turns) is come-own.state.same good tame tally-same fits_bearing fits_too
        (λ q apart. others-go q apart tally_turns tally_loose)
        (subst (λ (o : Option Between). At w p.pid o (step_by w pick p.pid (moved_by Gone (loose_at tally_loose)) x ∷ x.steps) (after_put (turns_at tally_turns)) (after_put (loose_at tally_loose))) (sym (run-own p.pid x.paused)) itself)

    -- the turn makes the second stop, too
    abbrev exited_turns : Machine S
    exited_turns = exited w.f p.pid one.handed (turns_at tally_turns)

    module _ (is : turn w.f 0 w.table pick 1 n ≡ exited_turns) (goes : stays_in p.pid one.state ≡ false) (q_turns : Process ℕ Image) (lives : process p.pid one.state ≡ Some q_turns) where
      -- numbers are apart behind the turn, and so they are before that stop
      rises : RiseFrom 2 (turn w.f 0 w.table pick 1 n).state.next_pid (map_list (λ (r : Process ℕ Image). r.pid) one.state.living)
      rises =
          let next : ℕ = (turn w.f 0 w.table pick 1 n).state.next_pid in
          let behind : ArePids (behind_turn w.f w.table slot n).state = w.scene.stays.pids (behind_turn w.f w.table slot n) good in
          subst (λ (numbers : List ℕ). RiseFrom 2 next numbers) (w.scene.local.exit_living bearing (leaving p.pid one.handed (turns_at tally_turns)) fits_bearing)
          (subst (λ (t : Machine S). RiseFrom 2 next (map_list (λ (r : Process ℕ Image). r.pid) t.state.living)) is behind.living)

      leaves-there : IsThere (leaving p.pid one.handed (turns_at tally_turns))
      leaves-there = there-by one.state p.pid one.handed (turn w.f 0 w.table pick 1 n).state.next_pid q_turns rises lives

      turns-laid : laid one.state ≡ laid exited_turns.state
      turns-laid = exit-laid w p.pid one.handed (turns_at tally_turns) fits_bearing leaves-there

      exits-alike : ExitsAlike w.f w.asks w.l bearing_too bearing (leaving p.pid other.handed (after_put (loose_at tally_loose))) (leaving p.pid one.handed (turns_at tally_turns))
      exits-alike =
          w.scene.local.exit_alike bearing_too bearing (leaving p.pid other.handed (after_put (loose_at tally_loose))) (leaving p.pid one.handed (turns_at tally_turns)) fits_too fits_bearing
          refl (sym own-part) own-kept come-own.handed (come-image p.pid own-alike)

      behind-itself : IsBehind w.f w.asks w.l p.pid other.handed (after_put exited_turns) (after_put (loose_at tally_loose))
      behind-itself = record {
        lives = exit-lives w p.pid one.handed (turns_at tally_turns) fits_bearing leaves-there;
        goes = same-waits p.pid exited_turns.state one.state (sym turns-laid) ∙ goes;
        image = exit-image w p.pid one.handed (turns_at tally_turns) fits_bearing leaves-there ∙ exits-alike.image;
        part = exits-alike.part;
      }

      exited-others : (q : ℕ) → (q ≡ p.pid → ⊥) → OtherGoes w q (turns_at tally_turns) (loose_at tally_loose) exited_turns (loose_at tally_loose)
      exited-others q apart =
          both-stay w q (turns_at tally_turns) (loose_at tally_loose) exited_turns (loose_at tally_loose)
          (exit-stays w p.pid one.handed (turns_at tally_turns) fits_bearing leaves-there q apart) (stays-same w q (loose_at tally_loose))

      behind-lags : LagsOf w n (slot ∷ []) (noted pick p.pid (moved_by (Behind other.handed) (loose_at tally_loose)) x)
      behind-lags =
          turned-lags w pick p n x st (moved_by (Behind other.handed) (loose_at tally_loose)) (paused-other p.pid x.paused (Done other.handed)) 1 exited_turns is (sym turns-laid ∙ come-own.state.same) good tame
          tally-same (w.scene.local.exit_fits bearing (leaving p.pid one.handed (turns_at tally_turns)) fits_bearing) fits_too
          (λ q apart. then-goes w q n x.machine (turns_at tally_turns) (loose_at tally_loose) exited_turns (loose_at tally_loose) (others-go q apart tally_turns tally_loose) (exited-others q apart))
          (subst (λ (o : Option Between). At w p.pid o (step_by w pick p.pid (moved_by (Behind other.handed) (loose_at tally_loose)) x ∷ x.steps) (after_put exited_turns) (after_put (loose_at tally_loose)))
          (sym (paused-own p.pid x.paused (Done other.handed))) behind-itself)

    answered-lags : (o_turns o_loose : Option (Process ℕ Image)) → process p.pid one.state ≡ o_turns → process p.pid other.state ≡ o_loose → turn w.f 0 w.table pick 1 n ≡ after_exit w.f (called p.pid one) bearing tally_turns o_turns
        → stays_in p.pid one.state ≡ false → LagsOf w n (slot ∷ []) (noted pick p.pid (moved_by (behind_if other.handed o_loose) (loose_at tally_loose)) x)
    answered-lags None None first second is goes = gone-lags is goes
    answered-lags (Some q) (Some r) first second is goes = behind-lags is goes q first
    answered-lags None (Some r) first second is goes =
        absurd (let no : false ≡ true = subst IsSome first (w.below.equal.lives p.pid other.state one.state (sym come-own.state.same) (subst IsSome (sym second) refl)) in cc)
    answered-lags (Some q) None first second is goes =
        absurd (let no : false ≡ true = subst IsSome second (w.below.equal.lives p.pid one.state other.state come-own.state.same (subst IsSome (sym first) refl)) in cc)

    -- ---- where it waits

    module _ (is : other.end ≡ end.Waits) where
      mid-there : IsThere (at p.pid mid.state)
      mid-there =
          let own = some-of (process p.pid mid.state) mid-lives in
          there mid.state p.pid nothing_handed own.0 mid-pids own.1

      mid-unmarked : AreUnmarked mid.state
      mid-unmarked =
          w.scene.marks.entry n.watcher (calling 0 p.pid n.state)
          (subst (λ (s : Machines). AreUnmarked s) (sym (state-called w p.pid n st.lags.fits_turns st.pids_turns st.other st.lives_turns)) (w.scene.stays.unmarked n st.good))

      left-all : LeavesAll (at p.pid mid.state) one
      left-all = waits-leave-all w.table (at p.pid mid.state) mid-there mid-unmarked (come-own.end ∙ is)

      -- the first stop left a call that can wait as it was
      stopped-same : (w.f.entry n.watcher (calling 0 p.pid n.state)).1 ≡ calling 0 p.pid n.state
      stopped-same =
          let t : Stopped = calling 0 p.pid n.state in
          let u : Stopped = (w.f.entry n.watcher t).1 in
          let is_there : IsThere t = calls-there w p.pid n st.lags.fits_turns st.pids_turns st.other st.lives_turns in
          let edits = entry-edits w p.pid n st.lags.fits_turns st.pids_turns st.other st.lives_turns in
          let still : image_in p.pid u.state ≡ image_at t = w.scene.local.entry_waits n.watcher t left-all.request st.lags.fits_turns is_there left-all.decoded left-all.may in
          let own : image_at u ≡ image_at t = ap (λ (k : ℕ). image_in k u.state) (entry-pid w p.pid n st.lags.fits_turns st.pids_turns st.other st.lives_turns) ∙ still in
          edits.becomes ∙ ap (λ (i : Image). edited i.regs i.memory t) own ∙ is_there.one

      mid-same : mid.state ≡ n.state
      mid-same = ap (λ (t : Stopped). t.state) stopped-same ∙ state-called w p.pid n st.lags.fits_turns st.pids_turns st.other st.lives_turns

      waited : one.state ≡ waiting p.pid n.state
      waited = left-all.state ∙ ap (waiting p.pid) mid-same

      image-waited : image_in p.pid one.state ≡ image_in p.pid n.state
      image-waited = left-all.image ∙ ap (image_in p.pid) mid-same

      waiting-lives : IsSome (process p.pid one.state)
      waiting-lives =
          let found : process p.pid (waiting p.pid n.state) ≡ option_map (at_pid p.pid (going (λ regs. regs) true)) (process p.pid n.state) = found-changed p.pid (going (λ regs. regs) true) (λ q. refl) p.pid n.state.living in
          subst (λ (s : Machines). IsSome (process p.pid s)) (sym waited) (subst IsSome (sym (found ∙ ap (option_map (at_pid p.pid (going (λ regs. regs) true))) st.lives_turns)) refl)

      abbrev exec : Bool
      exec = calls_execve p.pid n.state

      again : EntersAlike w.f w.asks w.l n.watcher bearing p.pid n.state (cleared one.state)
      again =
          let turned : turn w.f 0 w.table pick 1 n ≡ turns_at tally_turns = turn-ends end.Waits is in
          let behind : (behind_turn w.f w.table slot n).state ≡ cleared (waiting p.pid n.state) = ap (λ (t : Machine S). cleared t.state) turned ∙ ap cleared waited in
          let stays : w.Stays exec p.pid n.state (behind_turn w.f w.table slot n).state = w.scene.stays.waits exec p.pid n (behind_turn w.f w.table slot n) st.good st.tame good tame behind in
          w.scene.local.entry_lasts n.watcher bearing p.pid n.state (cleared one.state) st.lags.fits_turns fits_bearing part-bearing
          (subst (λ (t : Machine S). w.Stays exec p.pid n.state (cleared t.state)) turned stays) ahead.unmet

      waits-lags : LagsOf w n (slot ∷ []) (noted pick p.pid (moved_by Waiting (loose_at tally_loose)) x)
      waits-lags =
          let now : IsAhead w.f w.asks w.l p.pid (after_put (turns_at tally_turns)) (after_put (loose_at tally_loose)) = record {
            image = sym (come-image p.pid own-alike) ∙ left-all.image ∙ sym again.image;
            kept = born-kept w p.pid other.child x.machine.watcher p.pid st.lags.fits_steps ∙ ahead.kept ∙ sym again.kept;
            unmet = again.unmet;
          } in
          let itself : HasBegun w.f w.asks w.l p.pid begun (step_by w pick p.pid (moved_by Waiting (loose_at tally_loose)) x ∷ x.steps) (after_put (turns_at tally_turns)) (after_put (loose_at tally_loose)) = record {
            part = own-part;
            lives = waiting-lives;
            meets = subst MeetsCall (sym image-waited) h.meets;
            exec = h.exec ∙ ap (λ (i : Image). number i.regs == 221) (sym image-waited);
            waiting = λ e. come-image p.pid own-alike;
            ahead = λ left. now;
          } in
          turned-lags w pick p n x st (moved_by Waiting (loose_at tally_loose)) (λ q apart. refl) 1 (turns_at tally_turns) (turn-ends end.Waits is) come-own.state.same good tame tally-same fits_bearing fits_too
          (λ q apart. others-go q apart tally_turns tally_loose)
          (subst (λ (o : Option Between). At w p.pid o (step_by w pick p.pid (moved_by Waiting (loose_at tally_loose)) x ∷ x.steps) (after_put (turns_at tally_turns)) (after_put (loose_at tally_loose))) (sym stood) itself)

    -- ---- however it ended

    goes-behind : (e : CallEnd) → other.end ≡ e → (e ≡ end.Waits → ⊥) → stays_in p.pid one.state ≡ false
    goes-behind e is done = call-ends-waiting w.table p.pid mid.state (λ waits. done (sym (come-own.end ∙ is) ∙ waits))

    by-end : (e : CallEnd) → other.end ≡ e → LagsOf w n (slot ∷ []) (noted pick p.pid (plainly_moved p.pid begun.exec (carried_by w.f p.pid e other bearing_too tally_loose) x.paused) x)
    by-end end.Answered is = answered-lags (process p.pid one.state) (process p.pid other.state) refl refl (turn-ends end.Answered is) (goes-behind end.Answered is (λ e. cc))
    by-end end.Replaced is = answered-lags (process p.pid one.state) (process p.pid other.state) refl refl (turn-ends end.Replaced is) (goes-behind end.Replaced is (λ e. cc))
    by-end end.Waits is = waits-lags is
    by-end (end.Ended told) is = ended-lags told is

    pub plain-lags : LagsOf w n (slot ∷ []) (noted pick p.pid (plainly_moved p.pid begun.exec (carried_out w.f 0 w.table p.pid begun.no_shelf x.machine) x.paused) x)
    plain-lags = by-end other.end refl
