-- Stops, calls, machines and runs without marks, and without what is told of calm.
use Rattle.std.specs.Prelude.{◌≡◌, None}
use Rattle.kr_turns.specs.kr_stops.Stopped.{Stopped}
use Rattle.kr_turns.specs.PlainCall.{Came}
use Rattle.kr_turns.specs.Run.{Ran}
use Rattle.kr_turns.specs.Turn.{Machine, Tally}
use Rattle.law_marks.specs.Unmarked.{unmarked_in}

abbrev pub unmarked_stop : Stopped → Stopped
unmarked_stop t = record { state = unmarked_in t.state; pid = t.pid; handed = t.handed }

abbrev pub unmarked_came : Came → Came
unmarked_came came = record { state = unmarked_in came.state; end = came.end; child = came.child; handed = came.handed }

abbrev pub unjudged : Tally → Tally
unjudged tally = record { status = tally.status; broken = None }

module _ {S : Type 0} where
  abbrev pub unmarked_machine : Machine S → Machine S
  unmarked_machine m = record { state = unmarked_in m.state; watcher = m.watcher; tally = unjudged m.tally }

  abbrev pub unmarked_ran : Ran S → Ran S
  unmarked_ran ran = record { puts = ran.puts; ending = ran.ending; machine = unmarked_machine ran.machine }

  -- two runs of which all is told alike but whether they were calm: their bytes, turn by turn, how they end, their status and their tree
  pub record TellAlike (one other : Ran S) : Type 0 where
    pub puts : one.puts ≡ other.puts
    pub ending : one.ending ≡ other.ending
    pub status : one.machine.tally.status ≡ other.machine.tally.status
    pub tree : one.machine.state.tree ≡ other.machine.state.tree
