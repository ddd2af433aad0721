-- Runs of machines that match, turn by turn.
use Rattle.std.proofs.Common.{◌≡◌, ◌+◌, ◌≤◌, ◌^◌, ℕ, zero, suc, List, ◌∷◌, Option, Some, None, refl, sym, ap, subst, ◌∙◌, arith}
use Rattle.std.specs.Option.{option_map_or}
use Rattle.std.proofs.lemmas.Option.{same_Some}
use Rattle.pt_results.specs.pt_bind.Tags.{TagTable}
use Rattle.kr_core.specs.rv_cpu.Run.{ran}
use Rattle.kr_core.specs.rv_cpu.declared.event.Event.{Event}
use Rattle.kr_core.specs.rv_cpu.declared.event.Event.TheVariants.{Next, Call, Killed}
use Rattle.kr_core.specs.kr_tree.Tree.{nodes}
use Rattle.kr_core.proofs.kr_tree.HoldLemmas.{trees_look_alike_with_fewer_holds}
use Rattle.law_places.specs.kr_view.View.{Row, plain}
use Rattle.law_places.specs.kr_model.Bare.{pins_of}
use Rattle.law_places.specs.kr_model.State.{Image, Process, State, process}
use Rattle.law_kept.specs.Bytes.{HasBytes}
use Rattle.law_places.specs.kr_calm.Calm.{kept}
use Rattle.kr_core.specs.kr_steps.Waiting.{picked_process}
use Rattle.kr_core.specs.kr_turns.Run.{Ending, Spent, Slot, after_put, cleared, ended, ending_of, put_by, run_from, turned, with_put}
use Rattle.kr_core.specs.kr_stops.Stopped.{Stopped}
use Rattle.kr_core.specs.kr_turns.Breaking.{plain_rule}
use Rattle.kr_core.specs.kr_turns.PlainCall.{plain_call}
use Rattle.kr_core.specs.kr_turns.Shelving.{lacks_in}
use Rattle.kr_core.specs.kr_turns.Turn.{Machine, Tally, after_born, after_end, after_event, after_exit, by_pick, called, calling, turn, with_broken}
use Rattle.kr_core.specs.kr_stops.Watching.{Watcher}
use Rattle.kr_core.specs.kr_turns.declared.plain.CallEnd.{CallEnd}
use Rattle.kr_core.specs.kr_turns.declared.plain.CallEnd.TheVariants as end
use Rattle.law_turns.specs.Quiet.{MachinesMatch}
use Rattle.law_turns.specs.Runs.{ComeAlike, GoTogether, KeepOn, RunsComeAlike, TurnsGoTogether}
use Rattle.law_turns.proofs.ClearLemmas.{go_cleared}
use Rattle.law_turns.proofs.PickLemmas.{matches_go_on_alike}
use Rattle.law_places.specs.kr_calm.declared.rule.Rule.{Rule}

-- ---- the calm rules

kept_before : (before now : Option Rule) → kept before now ≡ None → before ≡ None
kept_before None now e = refl
kept_before (Some rule) now e = e

module _ {S : Type 0} (watcher : Watcher S) (table : List Row) where
  -- a call's second stop breaks no rule
  after_exit_broken : (t : Stopped) (x : S) (tally : Tally) (o : Option (Process ℕ Image)) → (after_exit watcher t x tally o).tally.broken ≡ tally.broken
  after_exit_broken t x tally None = refl
  after_exit_broken t x tally (Some p) = refl

  pub after_end_broken : (pid : ℕ) (e : CallEnd) (t : Stopped) (x : S) (tally : Tally) → (after_end watcher pid e t x tally).tally.broken ≡ tally.broken
  after_end_broken pid end.Answered t x tally = after_exit_broken t x tally (process pid t.state)
  after_end_broken pid end.Replaced t x tally = after_exit_broken t x tally (process pid t.state)
  after_end_broken pid end.Waits t x tally = refl
  after_end_broken pid (end.Ended told) t x tally = refl

  -- and none that was broken is forgotten
  event_unbroken : (pid : ℕ) (e : Event) (m : Machine S) → (after_event watcher 1 table pid e m).tally.broken ≡ None → m.tally.broken ≡ None
  event_unbroken pid Next m calm = kept_before m.tally.broken _ calm
  event_unbroken pid (Killed signal) m calm = kept_before m.tally.broken _ calm
  event_unbroken pid Call m calm =
      let entered = watcher.entry m.watcher (calling 1 pid m.state) in
      let came = plain_call table pid entered.1.state in
      let rule = plain_rule 1 table pid (lacks_in 1 pid m.state) entered.1.state in
      kept_before m.tally.broken rule (sym (after_end_broken pid came.end (called pid came) (after_born watcher pid came.child entered.0) (with_broken rule m.tally)) ∙ calm)

  turn_unbroken : (pick fuel : ℕ) (m : Machine S) → (turn watcher 1 table pick fuel m).tally.broken ≡ None → m.tally.broken ≡ None
  turn_unbroken pick fuel m calm = by (picked_process m.state pick) calm
    where
      by : (o : Option (Process ℕ Image)) → (by_pick watcher 1 table fuel o m).tally.broken ≡ None → m.tally.broken ≡ None
      by None calm = calm
      by (Some p) calm = event_unbroken p.pid (ran fuel p.image.regs p.image.memory).event _ calm

  module _ (slots : ℕ → Slot) where
    pub run_unbroken : (left made : ℕ) (m : Machine S) → (run_from watcher 1 table slots left made m).machine.tally.broken ≡ None → m.tally.broken ≡ None
    unfolding run_from
    run_unbroken zero made m calm = calm
    run_unbroken (suc left) made m calm = by (ending_of m) (run_unbroken left (suc made) (after_put (turned watcher 1 table slots made m))) calm
      where
        next : Machine S
        next = after_put (turned watcher 1 table slots made m)

        by : (o : Option Ending) → ((run_from watcher 1 table slots left (suc made) next).machine.tally.broken ≡ None → next.tally.broken ≡ None)
            → (option_map_or (ended m) o (with_put (put_by (turned watcher 1 table slots made m)) (run_from watcher 1 table slots left (suc made) next))).machine.tally.broken ≡ None → m.tally.broken ≡ None
        by (Some e) later calm = calm
        by None later calm = turn_unbroken (slots made).pick (slots made).fuel m (later calm)

-- ---- what machines that match tell

module _ {S T : Type 0} (tags_in : T → TagTable) (table : List Row) (m : Machine S) (n : Machine T) (match : MachinesMatch tags_in table m n) where
  same_put : put_by m ≡ put_by n
  same_put = λ i. record { out = (match.states.bares i).out; err = (match.states.bares i).err }

  same_nodes : nodes m.state.tree ≡ nodes n.state.tree
  same_nodes = sym (trees_look_alike_with_fewer_holds (pins_of table) m.state.tree).nodes ∙ ap (λ b. nodes b.tree) match.states.bares ∙ (trees_look_alike_with_fewer_holds (pins_of plain) n.state.tree).nodes

  end_alike : (e : Ending) → ComeAlike (ended m e) (ended n e)
  end_alike e = record { puts = refl; endings = refl; statuses = match.statuses; trees = same_nodes }

bytes_cleared : (s : State ℕ Image) → HasBytes s → HasBytes (cleared s)
bytes_cleared s has = record { tree = has.tree; processes = has.processes; files = has.files; input = has.input }

-- ---- turn by turn

module _ {S T V : Type 0} (watcher : Watcher S) (tracer : Watcher T) (tags_in : T → TagTable) (mine : S → V) (yours : T → V) (table : List Row) (slots : ℕ → Slot) (turns : TurnsGoTogether watcher tracer tags_in mine yours table slots) where
  -- the bytes that were put out are none of it
  keep_cleared : (m : Machine S) (n : Machine T) → KeepOn mine yours m n → KeepOn mine yours (after_put m) (after_put n)
  keep_cleared m n keeps = record { bytes = bytes_cleared m.state keeps.bytes; also_bytes = bytes_cleared n.state keeps.also_bytes; agree = keeps.agree }

  ends_at_once : (m : Machine S) (n : Machine T) → MachinesMatch tags_in table m n → ending_of m ≡ ending_of n
  ends_at_once m n match = (matches_go_on_alike table (tags_in n.watcher) m n match.states).ends

  come_alike : (left made : ℕ) (m : Machine S) (n : Machine T) → made + left ≤ 2 ^ 31 → GoTogether tags_in table made m n → KeepOn mine yours m n → (run_from watcher 1 table slots left made m).machine.tally.broken ≡ None
      → ComeAlike (run_from watcher 1 table slots left made m) (run_from tracer 0 plain slots left made n)
  unfolding run_from
  come_alike zero made m n few both keeps calm =
      subst (λ o. ComeAlike (ended m (option_map_or (λ e. e) (ending_of m) Spent)) (ended n (option_map_or (λ e. e) o Spent))) (ends_at_once m n both.matches)
      (end_alike tags_in table m n both.matches (option_map_or (λ e. e) (ending_of m) Spent))
  come_alike (suc left) made m n few both keeps calm =
      by (ending_of m) refl (ending_of n) (ends_at_once m n both.matches)
      (λ next kept. come_alike left (suc made) (after_put (turned watcher 1 table slots made m)) (after_put (turned tracer 0 plain slots made n)) (omega (arith, few)) next kept) calm
    where
      one : Machine S
      one = turned watcher 1 table slots made m

      other : Machine T
      other = turned tracer 0 plain slots made n

      Later : Type 0
      Later =
          GoTogether tags_in table (suc made) (after_put one) (after_put other) → KeepOn mine yours (after_put one) (after_put other) → (run_from watcher 1 table slots left (suc made) (after_put one)).machine.tally.broken ≡ None
          → ComeAlike (run_from watcher 1 table slots left (suc made) (after_put one)) (run_from tracer 0 plain slots left (suc made) (after_put other))

      by : (o : Option Ending) → ending_of m ≡ o → (x : Option Ending) → ending_of m ≡ x → Later → (option_map_or (ended m) o (with_put (put_by one) (run_from watcher 1 table slots left (suc made) (after_put one)))).machine.tally.broken ≡ None
          → ComeAlike (option_map_or (ended m) o (with_put (put_by one) (run_from watcher 1 table slots left (suc made) (after_put one)))) (option_map_or (ended n) x (with_put (put_by other) (run_from tracer 0 plain slots left (suc made) (after_put other))))
      by None is None also later calm =
          let turn_calm = run_unbroken watcher table slots left (suc made) (after_put one) calm in
          let after = turns.together made m n (omega (arith, few)) both keeps is turn_calm in
          let rest = later (go_cleared tags_in table (suc made) one other after) (keep_cleared one other (turns.keeps made m n (omega (arith, few)) both keeps is turn_calm)) calm in
          record { puts = λ i. same_put tags_in table one other after.matches i ∷ rest.puts i; endings = rest.endings; statuses = rest.statuses; trees = rest.trees }
      by (Some e) is (Some x) also later calm = subst (λ y. ComeAlike (ended m e) (ended n y)) (same_Some _ _ (sym is ∙ also)) (end_alike tags_in table m n both.matches e)
      by None is (Some x) also later calm = absurd (never (sym is ∙ also))
        where
          never : {A : Type 0} {a : A} → None ≡ Some a → ⊥
          never e = cc
      by (Some e) is None also later calm = absurd (never (sym is ∙ also))
        where
          never : {A : Type 0} {a : A} → Some a ≡ None → ⊥
          never e = cc

pub runs_come_alike : (S T V : Type 0) → RunsComeAlike S T V
runs_come_alike S T V watcher tracer tags_in mine yours table slots together turns m n few both keeps calm = come_alike watcher tracer tags_in mine yours table slots together turns 0 m n (omega (arith, few)) both keeps calm
