-- What each part of a turn leaves of the processes that don't run in it.
use Rattle.std.proofs.Common.{◌≡◌, ◌≢◌, inl, inr, ◌<◌, ◌%◌, ℕ, zero, suc, List, [], ◌∷◌, length, Option, Some, None, refl, sym, ap, subst, arith}
use Rattle.std.specs.Prelude.{slice_get}
use Rattle.std.specs.List.{filter}
use Rattle.kr_turns.specs.rv_cpu.Run.{ran}
use Rattle.kr_turns.specs.rv_cpu.declared.event.Event.{Event}
use Rattle.kr_turns.specs.rv_cpu.declared.event.Event.TheVariants.{Next, Call, Killed}
use Rattle.kr_first.specs.kr_view.View.{Row}
use Rattle.kr_first.specs.kr_model.Applied.{images}
use Rattle.kr_first.specs.kr_model.Change.{End}
use Rattle.kr_first.specs.kr_model.State.{Image, Process, State, process}
use Rattle.kr_turns.specs.kr_calm.Shelf.{shelved_by}
use Rattle.kr_first.specs.law_allowed.Others.{LivesOn}
use Rattle.kr_first.proofs.law_allowed.OthersLemmas.{lives_on, others_live, unchanged}
use Rattle.kr_turns.specs.kr_steps.Computing.{computed}
use Rattle.kr_turns.specs.kr_steps.Waiting.{goes_on, ready_processes}
use Rattle.kr_turns.specs.Breaking.{no_mounts, plain_rule}
use Rattle.kr_turns.specs.PlainCall.{Came, plain_call}
use Rattle.kr_turns.specs.Shelving.{lacks_in, shelved_in}
use Rattle.kr_turns.specs.kr_stops.Stopped.{Stopped, image_in}
use Rattle.kr_turns.specs.Turn.{Machine, Tally, after_born, after_end, after_event, after_exit, by_pick, called, calling, killed, turn_of, watched_call, with_broken}
use Rattle.kr_turns.specs.kr_stops.Watching.{Watcher}
use Rattle.kr_turns.specs.declared.plain.CallEnd.{CallEnd}
use Rattle.kr_turns.specs.declared.plain.CallEnd.TheVariants as end
use Rattle.kr_turns.proofs.ApartLemmas.{call_leaves, computed_leaves}
use Rattle.kr_turns.proofs.MakingLemmas.{one_done}
use Rattle.law_kept.specs.MemoriesApart.{EditsAtMost, EditsItsOwn, OthersLiveOnInTurns, RestsWhereNoneIsReady, RunsOneThatIsReady}

abbrev Machines : Type 0
Machines = State ℕ Image

module _ (pid q : ℕ) (other : q ≢ pid) where
  -- ---- stops

  edit_leaves : (t u : Stopped) → t.pid ≡ pid → EditsAtMost t u → LivesOn q t.state u.state
  edit_leaves t u is (inl same) = subst (LivesOn q t.state) (sym same) (unchanged q t.state)
  edit_leaves t u is (inr edit) =
      let own : LivesOn q t.state (computed t.pid edit.0 edit.1.0 t.state) = subst (λ n. LivesOn q t.state (computed n edit.0 edit.1.0 t.state)) (sym is) (computed_leaves pid q other edit.0 edit.1.0 t.state) in
      subst (LivesOn q t.state) (sym edit.1.1) own

  module _ {S : Type 0} (w : Watcher S) (edits : EditsItsOwn w) where
    exit_leaves : (s : Machines) (t : Stopped) (x : S) (tally : Tally) (o : Option (Process ℕ Image)) → t.pid ≡ pid → LivesOn q s t.state → LivesOn q s (after_exit w t x tally o).state
    exit_leaves s t x tally None is lives = lives
    exit_leaves s t x tally (Some p) is lives = lives_on q s t.state (w.exit x t).1.state lives (edit_leaves t (w.exit x t).1 is (edits.exit x t))

    end_leaves : (e : CallEnd) (s : Machines) (t : Stopped) (x : S) (tally : Tally) → t.pid ≡ pid → LivesOn q s t.state → LivesOn q s (after_end w pid e t x tally).state
    end_leaves end.Answered s t x tally is lives = exit_leaves s t x tally (process pid t.state) is lives
    end_leaves end.Replaced s t x tally is lives = exit_leaves s t x tally (process pid t.state) is lives
    end_leaves end.Waits s t x tally is lives = lives
    end_leaves (end.Ended told) s t x tally is lives = lives

    module _ (marks : ℕ) (table : List Row) where
      watched_leaves : (m : Machine S) → LivesOn q m.state (watched_call w marks table pid m).state
      watched_leaves m =
          let own : Image = image_in pid m.state in
          let shelved : Machines = shelved_in marks pid m.state in
          let entered : S × Stopped = w.entry m.watcher (calling marks pid m.state) in
          let came : Came = plain_call table pid entered.1.state in
          let first : LivesOn q m.state shelved = computed_leaves pid q other own.regs (shelved_by marks own.regs own.memory) m.state in
          let second : LivesOn q m.state entered.1.state = lives_on q m.state shelved entered.1.state first (edit_leaves (calling marks pid m.state) entered.1 refl (edits.entry m.watcher (calling marks pid m.state))) in
          let third : LivesOn q m.state came.state = lives_on q m.state entered.1.state came.state second (call_leaves pid q other table entered.1.state) in
          let tally : Tally = with_broken (plain_rule marks table pid (lacks_in marks pid m.state) entered.1.state) m.tally in
          end_leaves came.end m.state (called pid came) (after_born w pid came.child entered.0) tally refl third

      event_leaves : (e : Event) (s : Machines) (m : Machine S) → LivesOn q s m.state → LivesOn q s (after_event w marks table pid e m).state
      event_leaves Next s m lives = lives
      event_leaves Call s m lives = lives_on q s m.state (watched_call w marks table pid m).state lives (watched_leaves m)
      event_leaves (Killed signal) s m lives = lives_on q s m.state (killed pid signal m.state) lives (others_live ℕ Image images no_mounts pid (End signal) m.state q other)

-- ---- the laws

pub others_live_on : (S : Type 0) → OthersLiveOnInTurns S
others_live_on S w edits marks table pick fuel m p picked q other =
    let end = ran fuel p.image.regs p.image.memory in
    let after : Machine S = record { state = computed p.pid end.regs end.memory m.state; watcher = m.watcher; tally = m.tally } in
    let turned : LivesOn q m.state (turn_of w marks table fuel p m).state = event_leaves p.pid q other w edits marks table end.event m.state after (computed_leaves p.pid q other end.regs end.memory m.state) in
    subst (λ (o : Option (Process ℕ Image)). LivesOn q m.state (by_pick w marks table fuel o m).state) (sym picked) turned

pub one_runs : RunsOneThatIsReady
one_runs s pick some = by (ready_processes s) some
  where
    taken : (ps : List (Process ℕ Image)) (k : ℕ) → k < length ps → (p : Process ℕ Image) × (slice_get ps k ≡ Some p)
    taken [] k short = absurd (omega arith)
    taken (p ∷ ps) zero short = (p, refl)
    taken (p ∷ ps) (suc k) short = taken ps k (omega arith)

    by : (ps : List (Process ℕ Image)) → ps ≢ [] → (p : Process ℕ Image) × (slice_get ps (pick % length ps) ≡ Some p) × ((fuel : ℕ) → 0 < fuel → 0 < (ran fuel p.image.regs p.image.memory).done)
    by [] some = absurd (some refl)
    by (p ∷ ps) some =
        let one = taken (p ∷ ps) (pick % suc (length ps)) (omega arith) in
        (one.0, one.1, λ fuel enough. one_done fuel None one.0.image.regs one.0.image.memory enough)

pub rest_without_ready : (S : Type 0) → RestsWhereNoneIsReady S
rest_without_ready S = record {
  rests = λ w marks table pick fuel m none. ap (λ (ps : List (Process ℕ Image)). by_pick w marks table fuel (slice_get ps (pick % length ps)) m) none;
  dead = λ s none. ap (filter (goes_on s)) none;
}
