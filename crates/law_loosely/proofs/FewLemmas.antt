-- A loose run stands for no more turns than it made steps.
use Rattle.std.proofs.Common.{◌≡◌, ◌+◌, ◌≤◌, ℕ, zero, suc, List, [], ◌∷◌, ◌++◌, length, Option, Some, None, arith}
use Rattle.std.specs.Option.{option_map_or}
use Rattle.std.proofs.lemmas.List.{length-append}
use Rattle.law_loose.specs.kr_core.Between.{between_of}
use Rattle.law_loose.specs.kr_core.Moving.{Entry, Exit, Instructions, Moved, Plain, StepKind, moved}
use Rattle.law_loose.specs.kr_loose.LooseRun.{Loose, LooseRan, Step, after_bytes, loose_ended, loose_from, loose_put, step_of, stepped}
use Rattle.law_loose.specs.kr_loose.Slots.{slots_of_kind, slots_of_steps}
use Rattle.law_loose.specs.kr_model.State.{Image, Process}
use Rattle.law_loose.specs.kr_stops.Watching.{Watcher}
use Rattle.law_loose.specs.kr_turns.Run.{Ending, Slot, ending_of, put_by}
use Rattle.law_loose.specs.kr_turns.Steps.{picked_process}
use Rattle.law_loose.specs.kr_view.View.{Row}

kind-slots : (pick : ℕ) (kind : StepKind) → length (slots_of_kind pick kind) ≤ 1
kind-slots pick (Instructions zero) = omega arith
kind-slots pick (Instructions (suc done)) = omega arith
kind-slots pick Entry = omega arith
kind-slots pick (Plain exec) = omega arith
kind-slots pick Exit = omega arith

one-more : {S : Type 0} (s : Step S) (earlier : List (Step S)) → length (slots_of_steps (s ∷ earlier)) ≤ suc (length (slots_of_steps earlier))
one-more s earlier =
    let parts : length (slots_of_steps earlier ++ slots_of_kind s.pick s.kind) ≡ length (slots_of_steps earlier) + length (slots_of_kind s.pick s.kind) = length-append (slots_of_steps earlier) (slots_of_kind s.pick s.kind) in
    let few : length (slots_of_kind s.pick s.kind) ≤ 1 = kind-slots s.pick s.kind in
    omega (arith, parts, few)

module _ {S : Type 0} (watcher : Watcher S) (marks : ℕ) (table : List Row) where
  stepped-few : (pick fuel : ℕ) (o : Option (Process ℕ Image)) (l : Loose S) → length (slots_of_steps (step_of watcher marks table pick fuel o l).steps) ≤ suc (length (slots_of_steps l.steps))
  stepped-few pick fuel None l = omega arith
  stepped-few pick fuel (Some p) l =
      let made : Moved S = moved watcher marks table fuel p (between_of p.pid l.paused) l.machine l.paused in
      one-more (record { pick = pick; pid = p.pid; kind = made.kind; before = l.machine; after = made.machine }) l.steps

  module _ (slots : ℕ → Slot) where
    pub loosely-few : (left made : ℕ) (l : Loose S) → length (slots_of_steps (loose_from watcher marks table slots left made l).left.steps) ≤ length (slots_of_steps l.steps) + left
    unfolding loose_from
    loosely-few zero made l = omega arith
    loosely-few (suc left) made l = by (ending_of l.machine) (loosely-few left (suc made) (after_bytes (stepped watcher marks table slots made l)))
      where
        next : Loose S
        next = after_bytes (stepped watcher marks table slots made l)

        rest : LooseRan S
        rest = loose_from watcher marks table slots left (suc made) next

        by : (o : Option Ending) → length (slots_of_steps rest.left.steps) ≤ length (slots_of_steps next.steps) + left
            → length (slots_of_steps (option_map_or (loose_ended l) o (loose_put (put_by (stepped watcher marks table slots made l).machine) rest)).left.steps) ≤ length (slots_of_steps l.steps) + suc left
        by (Some e) few = omega arith
        by None few =
            let one : length (slots_of_steps next.steps) ≤ suc (length (slots_of_steps l.steps)) = stepped-few (slots made).pick (slots made).fuel (picked_process l.machine.state (slots made).pick) l in
            omega (arith, few, one)
