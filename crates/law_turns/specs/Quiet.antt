-- Machines of which the states match, and turns in which no call is made.
use Rattle.std.specs.Prelude.{◌≡◌, ◌≢◌, ℕ, List, Option, Some, None}
use Rattle.kr_core.specs.rv_cpu.Run.{ran}
use Rattle.kr_core.specs.rv_cpu.declared.event.Event.TheVariants.{Call}
use Rattle.pt_results.specs.pt_bind.Tags.{TagTable, dropped}
use Rattle.law_places.specs.kr_view.View.{Row, plain}
use Rattle.law_places.specs.kr_model.Lawful.{IsLawful}
use Rattle.law_places.specs.kr_model.State.{Image, Process}
use Rattle.kr_core.specs.kr_steps.Waiting.{picked_process}
use Rattle.kr_core.specs.kr_turns.Turn.{Machine, turn}
use Rattle.kr_core.specs.kr_stops.Watching.{Watcher}
use Rattle.law_places.specs.Matching.{IsMatch}

-- a tracer forgets the tags of a process that is gone
abbrev pub DropsTags : {T : Type 0} → Watcher T → (T → TagTable) → Type 0
DropsTags {T} tracer tags_in = (x : T) (pid : ℕ) → tags_in (tracer.gone x pid) ≡ dropped (tags_in x) pid

-- a machine with mounts, and a plain one with the tags of its tracer: what is told of both is the same but for the calm rules, which the
-- plain one doesn't judge
pub record MachinesMatch {S T : Type 0} (tags_in : T → TagTable) (table : List Row) (m : Machine S) (n : Machine T) : Type 0 where
  pub states : IsMatch table (tags_in n.watcher) m.state n.state
  pub statuses : m.tally.status ≡ n.tally.status

abbrev pub MakesNoCall : ℕ → Option (Process ℕ Image) → Type 0
MakesNoCall fuel None = Unit {0}
MakesNoCall fuel (Some p) = (ran fuel p.image.regs p.image.memory).event ≢ Call

-- a turn in which instructions are used up or kill their process keeps the match, where it breaks no calm rule
abbrev pub QuietTurnsKeepMatches : (S T : Type 0) → Type 0
QuietTurnsKeepMatches S T =
    (watcher : Watcher S) (tracer : Watcher T) (tags_in : T → TagTable) (table : List Row) (pick fuel : ℕ) (m : Machine S) (n : Machine T) → DropsTags tracer tags_in → MakesNoCall fuel (picked_process m.state pick)
    → (turn watcher 1 table pick fuel m).tally.broken ≡ None → IsLawful (λ m. m) plain n.state → MachinesMatch tags_in table m n → MachinesMatch tags_in table (turn watcher 1 table pick fuel m) (turn tracer 0 plain pick fuel n)
