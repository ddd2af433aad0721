-- What contracts see of sources and sinks in memory.
use Rattle.std.specs.Prelude.{ℕ, Bool, ◌≤◌, ◌++◌, List, min, take, drop, Option, Some, None}
use Rattle.pr_io.specs.Faults.{raised}
use Rattle.pr_io.specs.Moves.{ended_after}

-- bytes up to a place, and those that are left
pub record Parted : Type 0 where
  pub given : List ℕ
  pub left : List ℕ

-- a source that never fails: the bytes that it gave, those that are left, and whether the end was told
pub record CleanState : Type 0 where
  pub given : List ℕ
  pub left : List ℕ
  pub ended : Bool

-- a source that fails at listed calls: the same, with the numbers of the calls that fail, how many calls were made, how
-- many of them failed, and how many bytes a call gives at most, where that is limited
pub record SourceState : Type 0 where
  pub given : List ℕ
  pub left : List ℕ
  pub ended : Bool
  pub failing : List ℕ
  pub calls : ℕ
  pub faults : ℕ
  pub step : Option ℕ

-- a sink in memory, likewise, with the bytes that it got, and how many bytes it keeps of a call that fails
pub record SinkState : Type 0 where
  pub got : List ℕ
  pub failing : List ℕ
  pub calls : ℕ
  pub faults : ℕ
  pub keep : ℕ

-- a limit lets each call go on
abbrev pub GoesOn : Option ℕ → Type 0
GoesOn None = Unit {0}
GoesOn (Some step) = 1 ≤ step

-- how many bytes a call gives at most, into so much room
abbrev pub room_within : Option ℕ → ℕ → ℕ
room_within None room = room
room_within (Some step) room = min room step

-- n bytes further
abbrev pub further : Parted → ℕ → Parted
further p n = record { given = p.given ++ take n p.left; left = drop n p.left }

-- a source that never fails after a call with so much room that gave n bytes
abbrev pub after_read : CleanState → ℕ → ℕ → CleanState
after_read s room n = record { given = s.given ++ take n s.left; left = drop n s.left; ended = ended_after s.ended room n }

-- the source after a call that failed
abbrev pub failed_take : SourceState → SourceState
failed_take s = record s { calls = raised s.calls; faults = raised s.faults }

-- the source after a call with so much room that gave n bytes
abbrev pub after_take : SourceState → ℕ → ℕ → SourceState
after_take s room n = record s { given = s.given ++ take n s.left; left = drop n s.left; ended = ended_after s.ended room n; calls = raised s.calls }

-- the sink after a call that failed to take bs
abbrev pub failed_put : SinkState → List ℕ → SinkState
failed_put s bs = record s { got = s.got ++ take s.keep bs; calls = raised s.calls; faults = raised s.faults }

-- the sink after a call that took bs
abbrev pub after_put : SinkState → List ℕ → SinkState
after_put s bs = record s { got = s.got ++ bs; calls = raised s.calls }
