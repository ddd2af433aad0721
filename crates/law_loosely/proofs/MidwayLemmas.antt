-- Two machines in the midst of their runs, and the slots that a run goes by.
use Rattle.std.proofs.Common.{◌≡◌, ◌+◌, ◌<◌, ◌≤◌, ◌^◌, ℕ, zero, suc, List, Option, Some, None, refl, sym, ap, ◌∙◌, arith}
use Rattle.std.specs.Option.{option_map_or}
use Rattle.law_machines.specs.law_turns.pt_results.pt_bind.Tags.{TagTable}
use Rattle.law_machines.specs.law_turns.law_kept.Bytes.{HasBytes}
use Rattle.law_machines.specs.law_turns.law_places.kr_view.View.{Row, plain}
use Rattle.law_machines.specs.law_turns.kr_model.State.{Image, State}
use Rattle.law_machines.specs.law_turns.kr_turns.Run.{Ending, Ran, Slot, after_put, cleared, ended, ending_of, put_by, run_from, turned, with_put}
use Rattle.law_machines.specs.law_turns.kr_turns.Turn.{Machine, turn}
use Rattle.law_machines.specs.law_turns.kr_stops.Watching.{Watcher}
use Rattle.law_machines.specs.law_turns.Quiet.{MachinesMatch}
use Rattle.law_machines.specs.law_turns.Runs.{GoTogether, KeepOn, TurnsGoTogether}
use Rattle.law_machines.proofs.law_turns.ClearLemmas.{go_cleared}
use Rattle.law_machines.proofs.law_turns.ComeLemmas.{run_unbroken}
use Rattle.law_machines.proofs.law_turns.PickLemmas.{matches_go_on_alike}
use Rattle.law_loosely.specs.Midway.{AreMidway, RunsGoBySlots, RunsGoTogether}

bytes-cleared : (s : State ℕ Image) → HasBytes s → HasBytes (cleared s)
bytes-cleared s has = record { tree = has.tree; processes = has.processes; files = has.files; input = has.input }

-- ---- turn by turn

module _ {S T V : Type 0} (watcher : Watcher S) (tracer : Watcher T) (tags_in : T → TagTable) (mine : S → V) (yours : T → V) (table : List Row) (slots : ℕ → Slot) (turns : TurnsGoTogether watcher tracer tags_in mine yours table slots) where
  -- the bytes that were put out are none of what is kept
  keep-cleared : (m : Machine S) (n : Machine T) → KeepOn mine yours m n → KeepOn mine yours (after_put m) (after_put n)
  keep-cleared m n keeps = record { bytes = bytes-cleared m.state keeps.bytes; also_bytes = bytes-cleared n.state keeps.also_bytes; agree = keeps.agree }

  end-at-once : (m : Machine S) (n : Machine T) → MachinesMatch tags_in table m n → ending_of m ≡ ending_of n
  end-at-once m n match = (matches_go_on_alike table (tags_in n.watcher) m n match.states).ends

  more-turns : (few most : ℕ) (m : Machine S) (n : Machine T) → few ≤ most → AreMidway tags_in mine yours table few m n → AreMidway tags_in mine yours table most m n
  more-turns few most m n less are =
      let below : are.made ≤ few = are.few in
      record { made = are.made; few = omega (arith, below, less); together = are.together; keeps = are.keeps }

  -- after `left` more turns of a run that has `more` of them
  midway : (left more made : ℕ) (m : Machine S) (n : Machine T) → made + more ≤ 2 ^ 31 → left ≤ more → GoTogether tags_in table made m n → KeepOn mine yours m n
      → (run_from watcher 1 table slots more made m).machine.tally.broken ≡ None
      → AreMidway tags_in mine yours table (made + left) (run_from watcher 1 table slots left made m).machine (run_from tracer 0 plain slots left made n).machine
  unfolding run_from
  midway zero more made m n few less both keeps calm = record { made = made; few = omega arith; together = both; keeps = keeps }
  midway (suc left) zero made m n few less both keeps calm = absurd (omega (arith, less))
  midway (suc left) (suc more) made m n few less both keeps calm =
      by (ending_of m) refl (ending_of n) (end-at-once m n both.matches)
      (λ next kept later. midway left more (suc made) (after_put (turned watcher 1 table slots made m)) (after_put (turned tracer 0 plain slots made n)) (omega (arith, few)) (omega (arith, less)) next kept later) calm
    where
      one : Machine S
      one = turned watcher 1 table slots made m

      other : Machine T
      other = turned tracer 0 plain slots made n

      rest : Ran S
      rest = run_from watcher 1 table slots left (suc made) (after_put one)

      also : Ran T
      also = run_from tracer 0 plain slots left (suc made) (after_put other)

      whole : Ran S
      whole = run_from watcher 1 table slots more (suc made) (after_put one)

      Later : Type 0
      Later =
          GoTogether tags_in table (suc made) (after_put one) (after_put other) → KeepOn mine yours (after_put one) (after_put other) → whole.machine.tally.broken ≡ None
          → AreMidway tags_in mine yours table (suc made + left) rest.machine also.machine

      -- where both end, they are as they were
      stay : AreMidway tags_in mine yours table (made + suc left) m n
      stay = record { made = made; few = omega arith; together = both; keeps = keeps }

      by : (o : Option Ending) → ending_of m ≡ o → (x : Option Ending) → ending_of m ≡ x → Later → (option_map_or (ended m) o (with_put (put_by one) whole)).machine.tally.broken ≡ None
          → AreMidway tags_in mine yours table (made + suc left) (option_map_or (ended m) o (with_put (put_by one) rest)).machine (option_map_or (ended n) x (with_put (put_by other) also)).machine
      by None is None too later calm =
          let turn_calm = run_unbroken watcher table slots more (suc made) (after_put one) calm in
          let after = turns.together made m n (omega (arith, few)) both keeps is turn_calm in
          let kept = turns.keeps made m n (omega (arith, few)) both keeps is turn_calm in
          more-turns (suc made + left) (made + suc left) rest.machine also.machine (omega arith) (later (go_cleared tags_in table (suc made) one other after) (keep-cleared one other kept) calm)
      by (Some e) is (Some x) too later calm = stay
      by None is (Some x) too later calm = absurd (never (sym is ∙ too))
        where
          never : {A : Type 0} {a : A} → None ≡ Some a → ⊥
          never e = cc
      by (Some e) is None too later calm = absurd (never (sym is ∙ too))
        where
          never : {A : Type 0} {a : A} → Some a ≡ None → ⊥
          never e = cc

pub runs_go_together : (S T V : Type 0) → RunsGoTogether S T V
runs_go_together S T V watcher tracer tags_in mine yours table slots together turns m n few both keeps calm left less =
    more-turns watcher tracer tags_in mine yours table slots together (0 + left) left _ _ (omega arith) (midway watcher tracer tags_in mine yours table slots together left turns 0 m n (omega (arith, few)) less both keeps calm)

-- ---- slots

module _ {S : Type 0} (watcher : Watcher S) (marks : ℕ) (table : List Row) (slots others : ℕ → Slot) where
  by-slots : (left made : ℕ) (m : Machine S) → ((k : ℕ) → k < made + left → slots k ≡ others k) → run_from watcher marks table slots left made m ≡ run_from watcher marks table others left made m
  unfolding run_from
  by-slots zero made m agree = refl
  by-slots (suc left) made m agree =
      let same : turned watcher marks table slots made m ≡ turned watcher marks table others made m = ap (λ (slot : Slot). turn watcher marks table slot.pick slot.fuel m) (agree made (omega arith)) in
      let rest : run_from watcher marks table slots left (suc made) (after_put (turned watcher marks table slots made m)) ≡ run_from watcher marks table others left (suc made) (after_put (turned watcher marks table others made m)) =
      by-slots left (suc made) (after_put (turned watcher marks table slots made m)) (λ k below. agree k (omega (arith, below)))
      ∙ ap (λ (n : Machine S). run_from watcher marks table others left (suc made) (after_put n)) same in
      λ i. option_map_or (ended m) (ending_of m) (with_put (put_by (same i)) (rest i))

pub runs_go_by_slots : (S : Type 0) → RunsGoBySlots S
runs_go_by_slots S watcher marks table slots others turns m agree = by-slots watcher marks table slots others turns 0 m (λ k below. agree k (omega (arith, below)))
