use Rattle.std.proofs.Common.{◌-◌}
use Rattle.kr_exec.specs.Lists.{most_bytes}
use Rattle.pt_faker.specs.Stopping.{OnlyEdits}
use Rattle.pt_faker.specs.Reading.{text_at, text_from}
use Rattle.pt_faker.proofs.ReadLemmas.{IsLeft}
use Rattle.pt_faker.proofs.text.read_text.Given as goal

abbrev pub invariant-loop-byte : goal.invariant-loop-byte
invariant-loop-byte g l = record {
  left : IsLeft (text_from (most_bytes - l._byte) l.next l.text) (text_at l.fn.at) (g.T.Tracee.stopped l.t) (g.T.Tracee.stopped l.fn.t);
  edits : OnlyEdits g.T.Tracee.stopped g.T.Tracee.around l.fn.t l.t;
}
