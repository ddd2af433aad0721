-- Stops of a process's call by themselves, as a loose run makes them: no turn stands for them.
use Rattle.std.proofs.Common.{◌≡◌, ℕ, true, false, [], ◌∷◌, Option, Some, refl, sym, ap, subst, ◌∙◌}
use Rattle.std.specs.Prelude.{◌==◌, IsSome}
use Rattle.kr_loose.specs.rv_mem.Memory.{Memory}
use Rattle.kr_loose.specs.rv_mem.declared.regs.Regs.{Regs}
use Rattle.kr_loose.specs.kr_core.kr_calls.Arguments.{number}
use Rattle.kr_loose.specs.kr_model.Applied.{with_image}
use Rattle.kr_loose.specs.kr_model.Lawful.{ArePids}
use Rattle.kr_loose.specs.kr_model.State.{Image, Process, State, process}
use Rattle.kr_loose.specs.kr_stops.Stopped.{IsEdited, IsThere, Stopped, computed, image_at, image_in, nothing_handed}
use Rattle.kr_loose.specs.kr_stops.declared.handed.Handed.{Handed}
use Rattle.kr_loose.specs.kr_turns.CallSteps.{entered, exited}
use Rattle.kr_loose.specs.kr_turns.Turn.{Machine, calling}
use Rattle.kr_loose.specs.kr_core.Between.{paused_at, unpaused}
use Rattle.kr_loose.specs.kr_core.Moving.{Entry, Exit, Moved, begun_by, calls_execve}
use Rattle.kr_loose.specs.kr_core.declared.paused.Begun.{Begun}
use Rattle.kr_loose.specs.kr_core.declared.paused.Between.{Between}
use Rattle.kr_loose.specs.kr_core.declared.paused.Between.TheVariants.{Entered}
use Rattle.kr_loose.specs.LooseRun.{Loose, noted}
use Rattle.kr_loose.specs.Local.{EntersAlike}
use Rattle.law_beside.specs.Beside.{AreBeside, laid}
use Rattle.law_beside.proofs.kr_core.PausedLemmas.{paused-other, paused-own, run-other, run-own}
use Rattle.law_beside.proofs.kr_core.kr_stops.EditLemmas.{there}
use Rattle.law_beside.proofs.kr_core.law_allowed.OthersLemmas.{others_same}
use Rattle.law_loose.specs.Lagging.{ComesAlike, GoesAlike, HasBegun, IsBehind, leaving}
use Rattle.law_loose.proofs.BelowLemmas.{Whole}
use Rattle.law_loose.proofs.OtherLemmas.{At, LagsOf, Stand, StaysOther, step_by, still-lags}

abbrev Machines : Type 0
Machines = State ℕ Image

-- ---- a process that is given other registers and another memory

pub computed-found : (pid q : ℕ) → (q ≡ pid → ⊥) → (regs : Regs) (memory : Memory) (s : Machines) → process q (computed pid regs memory s) ≡ process q s
computed-found pid q other regs memory s = others_same ℕ Image pid (with_image (λ (image : Image). record { regs = regs; memory = memory })) (λ p. refl) s q other

edited-found : (t u : Stopped) → IsEdited t u → (q : ℕ) → (q ≡ t.pid → ⊥) → process q u.state ≡ process q t.state
edited-found t u edits q other =
    ap (λ (v : Stopped). process q v.state) edits.becomes ∙ computed-found t.pid q other (image_at u).regs (image_at u).memory t.state

abbrev pub at : ℕ → Machines → Stopped
at pid s = record { state = s; pid = pid; handed = nothing_handed }

module _ {S Part Kept : Type 0} (w : Whole S Part Kept) where
  edited-laid : (t u : Stopped) → IsThere t → IsEdited t u → laid t.state ≡ laid u.state
  edited-laid t u is edits =
      let none : AreBeside (λ q. false) t.state t.state = w.below.equal.itself (λ q. false) t.state in
      sym (w.below.edits.first (λ q. false) t u t.state is edits none).same

  -- ---- the first stop

  module _ (pid : ℕ) (m : Machine S) (fits : w.fits m.watcher) (pids : ArePids m.state) (p : Process ℕ Image) (lives : process pid m.state ≡ Some p) where
    abbrev pub entry_of : S × Stopped
    entry_of = w.f.entry m.watcher (calling 0 pid m.state)

    -- a kernel that keeps no marks marks no shelf
    pub called-there : calling 0 pid m.state ≡ at pid m.state
    called-there = (there m.state pid nothing_handed p pids lives).one

    pub calls-there : IsThere (calling 0 pid m.state)
    calls-there = subst IsThere (sym called-there) (there m.state pid nothing_handed p pids lives)

    pub state-called : (calling 0 pid m.state).state ≡ m.state
    state-called = ap (λ (t : Stopped). t.state) called-there

    pub entry-edits : IsEdited (calling 0 pid m.state) entry_of.1
    entry-edits = w.scene.local.entry_edits m.watcher (calling 0 pid m.state) fits calls-there

    pub entry-pid : entry_of.1.pid ≡ pid
    entry-pid = ap (λ (t : Stopped). t.pid) entry-edits.becomes

    pub entry-laid : laid m.state ≡ laid entry_of.1.state
    entry-laid = ap laid (sym state-called) ∙ edited-laid (calling 0 pid m.state) entry_of.1 calls-there entry-edits

    pub entry-pids : ArePids entry_of.1.state
    entry-pids = w.below.equal.pids m.state entry_of.1.state entry-laid pids

    pub entry-lives : IsSome (process pid entry_of.1.state)
    entry-lives = w.below.equal.lives pid m.state entry_of.1.state entry-laid (subst IsSome (sym lives) refl)

    pub entry-stays : (q : ℕ) → (q ≡ pid → ⊥) → StaysOther w q m (entered w.f 0 pid m)
    entry-stays q other = record {
      found = edited-found (calling 0 pid m.state) entry_of.1 entry-edits q other ∙ ap (process q) state-called;
      part = w.scene.local.entry_part m.watcher (calling 0 pid m.state) q fits;
      kept = w.scene.local.entry_kept m.watcher (calling 0 pid m.state) q fits other;
    }

  -- it is a step
  module _ (pick : ℕ) (p : Process ℕ Image) (n : Machine S) (x : Loose S) (st : Stand w pick p n x) where
    abbrev begun_now : Begun
    begun_now = begun_by 0 p.pid x.machine.state

    abbrev pub entering : Moved S
    entering = record { kind = Entry; machine = entered w.f 0 p.pid x.machine; paused = paused_at p.pid (Entered begun_now) x.paused }

    -- made now, in the machine of turns
    enters-alike : ComesAlike w.f w.asks w.l p.pid n x.machine → w.asks x.machine.watcher (calling 0 p.pid x.machine.state) ≡ false
        → EntersAlike w.f w.asks w.l x.machine.watcher n.watcher p.pid x.machine.state n.state
    enters-alike c unmet =
        w.scene.local.entry_lasts x.machine.watcher n.watcher p.pid x.machine.state n.state st.lags.fits_steps st.lags.fits_turns (sym c.alike.part)
        (w.scene.stays.beside (calls_execve p.pid x.machine.state) p.pid x.machine.state n st.good st.tame st.lags.same c.alike.image) unmet

    has-begun : ComesAlike w.f w.asks w.l p.pid n x.machine → w.asks x.machine.watcher (calling 0 p.pid x.machine.state) ≡ false
        → HasBegun w.f w.asks w.l p.pid begun_now (step_by w pick p.pid entering x ∷ x.steps) n (entered w.f 0 p.pid x.machine)
    has-begun c unmet =
        let now = enters-alike c unmet in
        record {
          part = w.scene.local.entry_part x.machine.watcher (calling 0 p.pid x.machine.state) p.pid st.lags.fits_steps ∙ c.alike.part;
          lives = c.lives;
          meets = c.meets;
          exec = ap (λ (i : Image). number i.regs == 221) (sym c.alike.image);
          waiting = λ e. absurd (let no : false ≡ true = sym c.alike.goes ∙ e in cc);
          ahead = λ all. record { image = sym now.image; kept = sym now.kept; unmet = now.unmet };
        }

    pub entry-lags : ComesAlike w.f w.asks w.l p.pid n x.machine → w.asks x.machine.watcher (calling 0 p.pid x.machine.state) ≡ false → LagsOf w n [] (noted pick p.pid entering x)
    entry-lags c unmet =
        still-lags w pick p n x st entering (paused-other p.pid x.paused (Entered begun_now))
        (entry-laid p.pid x.machine st.lags.fits_steps st.pids_loose p st.lives_loose) refl
        (w.scene.local.entry_fits x.machine.watcher (calling 0 p.pid x.machine.state) st.lags.fits_steps)
        (entry-stays p.pid x.machine st.lags.fits_steps st.pids_loose p st.lives_loose)
        (subst (λ (o : Option Between). At w p.pid o (step_by w pick p.pid entering x ∷ x.steps) n (entered w.f 0 p.pid x.machine)) (sym (paused-own p.pid x.paused (Entered begun_now)))
        (has-begun c unmet))

  -- ---- the second stop

  module _ (pid : ℕ) (handed : Handed) (m : Machine S) (fits : w.fits m.watcher) (leaves-there : IsThere (leaving pid handed m)) where
    abbrev pub exit_of : S × Stopped
    exit_of = w.f.exit m.watcher (leaving pid handed m)

    exit-edits : IsEdited (leaving pid handed m) exit_of.1
    exit-edits = w.scene.local.exit_edits m.watcher (leaving pid handed m) fits leaves-there

    -- what is left at the number of the process, as it is told of the stop
    pub exit-image : image_in pid exit_of.1.state ≡ image_at exit_of.1
    exit-image = ap (λ (k : ℕ). image_in k exit_of.1.state) (sym (ap (λ (t : Stopped). t.pid) exit-edits.becomes))

    pub exit-laid : laid m.state ≡ laid exit_of.1.state
    exit-laid = edited-laid (leaving pid handed m) exit_of.1 leaves-there exit-edits

    pub exit-lives : IsSome (process pid exit_of.1.state)
    exit-lives = w.below.equal.lives pid m.state exit_of.1.state exit-laid leaves-there.lives

    pub exit-stays : (q : ℕ) → (q ≡ pid → ⊥) → StaysOther w q m (exited w.f pid handed m)
    exit-stays q other = record {
      found = edited-found (leaving pid handed m) exit_of.1 exit-edits q other;
      part = w.scene.local.exit_part m.watcher (leaving pid handed m) q fits other;
      kept = w.scene.local.exit_kept m.watcher (leaving pid handed m) q fits other;
    }

  -- it is a step
  module _ (pick : ℕ) (p : Process ℕ Image) (n : Machine S) (x : Loose S) (st : Stand w pick p n x) (handed : Handed) where
    abbrev pub exiting : Moved S
    exiting = record { kind = Exit; machine = exited w.f p.pid handed x.machine; paused = unpaused p.pid x.paused }

    pub exit-lags : IsBehind w.f w.asks w.l p.pid handed n x.machine → LagsOf w n [] (noted pick p.pid exiting x)
    exit-lags b =
        let is_there : IsThere (leaving p.pid handed x.machine) = there x.machine.state p.pid handed p st.pids_loose st.lives_loose in
        let runs : GoesAlike w.f w.asks w.l p.pid n (exited w.f p.pid handed x.machine) = record {
          image = b.image ∙ sym (exit-image p.pid handed x.machine st.lags.fits_steps is_there);
          part = sym b.part;
          goes = b.goes;
        } in
        still-lags w pick p n x st exiting (run-other p.pid x.paused)
        (exit-laid p.pid handed x.machine st.lags.fits_steps is_there) refl
        (w.scene.local.exit_fits x.machine.watcher (leaving p.pid handed x.machine) st.lags.fits_steps)
        (exit-stays p.pid handed x.machine st.lags.fits_steps is_there)
        (subst (λ (o : Option Between). At w p.pid o (step_by w pick p.pid exiting x ∷ x.steps) n (exited w.f p.pid handed x.machine)) (sym (run-own p.pid x.paused)) runs)
