use Rattle.std.proofs.Common.{◌≡◌, drop}
use Rattle.pt_faker.specs.Stopping.{OnlyEdits}
use Rattle.pt_faker.specs.Carrying.{on_its_memory}
use Rattle.pt_faker.specs.Faking.{put_values}
use Rattle.pt_faker.proofs.auxiliary.put_values.Given as goal

abbrev pub invariant-loop-value : goal.invariant-loop-value
invariant-loop-value g l = record {
  puts : on_its_memory (put_values l.next (drop l.value-index l.values)) (g.T.Tracee.stopped l.t) ≡ on_its_memory (put_values l.fn.at l.fn.values) (g.T.Tracee.stopped l.fn.t);
  edits : OnlyEdits g.T.Tracee.stopped g.T.Tracee.around l.fn.t l.t;
}
