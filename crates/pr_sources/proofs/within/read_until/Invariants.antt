use Rattle.std.proofs.Common.{◌+◌, ◌≤◌, ◌-◌, length}
use Rattle.pr_io.specs.Drawn.{Gave, drawn}
use Rattle.pr_sources.proofs.within.read_until.Given as goal

abbrev pub invariant-loop-which : goal.invariant-loop-which
invariant-loop-which g l = record {
  taken : Gave (drawn g.S.Source l.fn.source l.source) l.bytes;
  short : length l.bytes ≤ l.limit;
  count : g.S.Source.faults l.fn.source ≤ g.S.Source.faults l.source;
  takes : g.S.Source.takes l.source ≤ g.S.Source.takes l.fn.source + length l.bytes;
}

abbrev pub decreases-loop-which : goal.decreases-loop-which
decreases-loop-which g l = l.limit - length l.bytes
