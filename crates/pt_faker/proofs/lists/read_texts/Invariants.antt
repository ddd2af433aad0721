use Rattle.std.proofs.Common.{◌≡◌, ◌+◌, ◌-◌, [], length}
use Rattle.pt_ident.specs.kr_calls.Expansion.{bytes_with_ends}
use Rattle.kr_exec.specs.Lists.{most_texts}
use Rattle.pt_faker.specs.Stopping.{OnlyEdits}
use Rattle.pt_faker.specs.Reading.{texts_from}
use Rattle.pt_faker.proofs.ReadLemmas.{IsLeft}
use Rattle.pt_faker.proofs.lists.read_texts.Given as goal

abbrev pub invariant-loop-text : goal.invariant-loop-text
invariant-loop-text g l = record {
  left : IsLeft (texts_from (most_texts - l._text) l.next l.room l.texts) (texts_from most_texts l.fn.at l.fn.room []) (g.T.Tracee.stopped l.t) (g.T.Tracee.stopped l.fn.t);
  room : l.room + bytes_with_ends l.texts ≡ l.fn.room;
  count : length l.texts ≡ l._text;
  edits : OnlyEdits g.T.Tracee.stopped g.T.Tracee.around l.fn.t l.t;
}
