use Rattle.std.proofs.Common.{◌≡◌, ◌≤◌, ◌*◌, ◌^◌, take, length}
use Rattle.pr_run.specs.Keeping.{puts_told}
use Rattle.pr_run.specs.Report.{outs}
use Rattle.pr_run.proofs.keeping.output.Given as goal

abbrev pub invariant-loop-written : goal.invariant-loop-written
invariant-loop-written l = record {
  bytes_are : l.bytes ≡ length (outs (puts_told (take l.written-index l.puts)));
  few : l.bytes ≤ l.written-index * 2 ^ 64;
}
