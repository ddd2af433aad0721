-- What lasts behind a turn in which no call is made.
use Rattle.std.proofs.Common.{◌≡◌, ℕ, suc, List, [], ◌∷◌, Option, Some, None, refl, sym, ap, subst, ◌∙◌, arith}
use Rattle.std.specs.Prelude.{IsSome}
use Rattle.std.specs.Option.{option_map}
use Rattle.kr_core.specs.rv_cpu.Run.{ran}
use Rattle.kr_core.specs.rv_cpu.declared.event.Event.{Event}
use Rattle.kr_core.specs.rv_cpu.declared.event.Event.TheVariants.{Next, Call, Killed}
use Rattle.law_places.specs.kr_view.View.{Row, plain}
use Rattle.kr_core.specs.law_allowed.Lasting.{AreModest}
use Rattle.kr_core.proofs.law_allowed.ChangeLemmas.{modest-last}
use Rattle.kr_core.specs.law_lawful.Laws.{CanAllBeMade}
use Rattle.kr_core.proofs.law_lawful.ChangeLemmas.{all-changes-keep}
use Rattle.kr_core.proofs.law_lawful.ProcessChangeLemmas.{found}
use Rattle.law_places.specs.kr_model.Applied.{all_applied, images}
use Rattle.law_places.specs.kr_model.Change.{Change, End}
use Rattle.law_places.specs.kr_model.State.{Image, Process, State, at_pid, process}
use Rattle.kr_core.proofs.law_allowed.RowLemmas.{lawful-image}
use Rattle.kr_core.specs.kr_steps.Calls.{LastsLawful}
use Rattle.kr_core.specs.kr_steps.Computing.{computed}
use Rattle.kr_core.specs.kr_steps.Waiting.{picked_process}
use Rattle.kr_core.proofs.kr_steps.ComputingLemmas.{ran-stays-like}
use Rattle.kr_core.specs.kr_turns.Breaking.{no_mounts}
use Rattle.kr_core.specs.kr_turns.Turn.{Machine, after_event, by_pick, turn}
use Rattle.kr_core.specs.kr_stops.Watching.{Watcher}
use Rattle.law_turns.specs.Quiet.{MakesNoCall}
use Rattle.law_turns.specs.Runs.{QuietTurnsGoTogether}
use Rattle.law_turns.proofs.ImageLemmas.{given}
use Rattle.law_turns.proofs.QuietLemmas.{picked_lives, quiet_alike}

module _ (table : List Row) (made : ℕ) where
  abbrev LastsHere : ℕ → State ℕ Image → Type 0
  LastsHere calls s = LastsLawful (λ m. m) table calls s

  -- with changes that can be made, and draw and make little
  changed_lasts : (pid : ℕ) (cs : List Change) (s : State ℕ Image) → CanAllBeMade (λ m. m) table no_mounts pid s cs → AreModest s.user cs → LastsHere made s → LastsHere (suc made) (all_applied images no_mounts pid cs s)
  changed_lasts pid cs s can modest l = record {
    lawful = all-changes-keep ℕ (λ m. m) table no_mounts pid cs s l.lawful can;
    lasts = modest-last ℕ (λ m. m) table no_mounts pid made cs s l.lawful can modest l.lasts;
  }

  idle_lasts : (s : State ℕ Image) → LastsHere made s → LastsHere (suc made) s
  idle_lasts s l = changed_lasts 0 [] s tt (record { users = tt; drawn = record { names = omega arith; files = omega arith; pids = omega arith } }) l

  ended_lasts : (pid status : ℕ) (s : State ℕ Image) → IsSome (process pid s) → LastsHere made s → LastsHere (suc made) (all_applied images no_mounts pid (End status ∷ []) s)
  ended_lasts pid status s lives l = changed_lasts pid (End status ∷ []) s (lives, lives, tt) (record { users = (tt, tt); drawn = record { names = omega arith; files = omega arith; pids = omega arith } }) l

  -- instructions draw nothing
  pub run_lasts : (fuel : ℕ) (s : State ℕ Image) (p : Process ℕ Image) → process p.pid s ≡ Some p → LastsHere made s → LastsHere made (computed p.pid (ran fuel p.image.regs p.image.memory).regs (ran fuel p.image.regs p.image.memory).memory s)
  run_lasts fuel s p lives l =
      let own = l.lawful.processes p.pid p lives in
      let like = ran-stays-like fuel None p.image.regs p.image.memory own.whole own.paged in
      record {
        lawful = lawful-image (λ m. m) table s l.lawful p.pid p lives (ran fuel p.image.regs p.image.memory).memory like (λ _. (ran fuel p.image.regs p.image.memory).regs);
        lasts = record {
          texts = l.lasts.texts;
          owners = l.lasts.owners;
          user = l.lasts.user;
          drawn = record { inodes = l.lasts.drawn.inodes; serials = l.lasts.drawn.serials; files = l.lasts.drawn.files; pipes = l.lasts.drawn.pipes; pids = l.lasts.drawn.pids };
        };
      }

  module _ {S : Type 0} (watcher : Watcher S) (marks : ℕ) (rows : List Row) where
    event_lasts : (pid : ℕ) (e : Event) (m : Machine S) → (e ≡ Call → ⊥) → IsSome (process pid m.state) → LastsHere made m.state → LastsHere (suc made) (after_event watcher marks rows pid e m).state
    event_lasts pid Next m quiet lives l = idle_lasts m.state l
    event_lasts pid (Killed signal) m quiet lives l = ended_lasts pid signal m.state lives l
    event_lasts pid Call m quiet lives l = absurd (quiet refl)

    pub quiet_lasts : (pick fuel : ℕ) (m : Machine S) → MakesNoCall fuel (picked_process m.state pick) → LastsHere made m.state → LastsHere (suc made) (turn watcher marks rows pick fuel m).state
    quiet_lasts pick fuel m quiet l = by (picked_process m.state pick) refl quiet
      where
        by : (o : Option (Process ℕ Image)) → picked_process m.state pick ≡ o → MakesNoCall fuel o → LastsHere (suc made) (by_pick watcher marks rows fuel o m).state
        by None is quiet = idle_lasts m.state l
        by (Some p) is quiet =
            let lives = picked_lives m.state.next_pid m.state pick p l.lawful.pids.living is in
            let end = ran fuel p.image.regs p.image.memory in
            let there : IsSome (process p.pid (computed p.pid end.regs end.memory m.state)) = subst IsSome (sym (found p.pid (given p.pid end.regs end.memory) (λ p. refl) p.pid m.state.living ∙ ap (option_map (at_pid p.pid (given p.pid end.regs end.memory))) lives)) refl in
            event_lasts p.pid end.event (record { state = computed p.pid end.regs end.memory m.state; watcher = m.watcher; tally = m.tally }) quiet there (run_lasts fuel m.state p lives l)

pub quiet_turns_go_together : (S T : Type 0) → QuietTurnsGoTogether S T
quiet_turns_go_together S T watcher tracer tags_in table pick fuel made m n drops quiet calm both =
    let alike = quiet_alike watcher tracer tags_in table pick fuel m n drops quiet calm both.also_lasts.lawful both.matches in
    record {
      matches = alike.matches;
      lasts = quiet_lasts table made watcher 1 table pick fuel m quiet both.lasts;
      also_lasts = quiet_lasts plain made tracer 0 plain pick fuel n alike.quiet both.also_lasts;
    }
