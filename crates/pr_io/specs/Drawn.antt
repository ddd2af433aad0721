-- What passed in a call, by what a source and a sink tell before and after it.
use Rattle.std.specs.Prelude.{◌≡◌, ℕ, Bool, true, List, ◌++◌, Option}
use Rattle.std.specs.Io.{appended_bytes}
use Rattle.std.specs.Io.KnownBytes.{Consumes, IsAtEnd}
use Rattle.pr_io.specs.Faults.{Rose}
use Rattle.pr_io.specs.declared.sink.Sink.{Ghosts as OfSink}
use Rattle.pr_io.specs.declared.source.Source.{Ghosts as OfSource}

-- ---- a source

-- the bytes that it had given before and has given now, whether the end is told now, what it had left and has left, where it tells that, and
-- how often its calls had failed and have failed
pub record Drawn : Type 0 where
  pub before : List ℕ
  pub now : List ℕ
  pub ended : Bool
  pub had : Option (List ℕ)
  pub has : Option (List ℕ)
  pub failed_before : ℕ
  pub failed_now : ℕ

-- by what its ghost members say of it before and after
abbrev pub drawn : {S : Type 0} → OfSource S → S → S → Drawn
drawn of old new = record {
  before = of.given old;
  now = of.given new;
  ended = of.ended new;
  had = of.left old;
  has = of.left new;
  failed_before = of.faults old;
  failed_now = of.faults new;
}

-- the bytes that it gave in the call
abbrev pub gave : Drawn → List ℕ
gave d = appended_bytes d.before d.now

-- these came behind those that it had given before, and what it had left lost the same
pub record Gave (d : Drawn) (bs : List ℕ) : Type 0 where
  pub grew : d.now ≡ d.before ++ bs
  pub lost : Consumes d.had d.has bs

-- what it gave in the call is told
abbrev pub IsDrawn : Drawn → Type 0
IsDrawn d = Gave d (gave d)

-- it was read to its end: the last take told it, and nothing is left
pub record IsWhole (d : Drawn) : Type 0 where
  pub told_end : d.ended ≡ true
  pub none_left : IsAtEnd d.has

-- a call failed
abbrev pub SourceFailed : Drawn → Type 0
SourceFailed d = Rose d.failed_before d.failed_now

-- ---- a sink

-- the bytes that it had got before and has got now, and how often its calls had failed and have failed
pub record Received : Type 0 where
  pub before : List ℕ
  pub now : List ℕ
  pub failed_before : ℕ
  pub failed_now : ℕ

abbrev pub received : {S : Type 0} → OfSink S → S → S → Received
received of old new = record { before = of.got old; now = of.got new; failed_before = of.faults old; failed_now = of.faults new }

-- a call failed
abbrev pub SinkFailed : Received → Type 0
SinkFailed r = Rose r.failed_before r.failed_now
