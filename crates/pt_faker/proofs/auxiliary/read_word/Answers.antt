use Rattle.std.proofs.Common.{◌∙◌, ap, refl, w64}
use Rattle.std.specs.Int.{from_le_bytes}
use Rattle.kr_stops.specs.Editing.{memory_at}
use Rattle.pt_faker.proofs.AuxiliaryLemmas.{word-of, word-read}
use Rattle.pt_faker.proofs.StopLemmas.{peek-edits}
use Rattle.pt_faker.proofs.auxiliary.read_word.Goals as goal

pub returns-in-Ok-clause-read : goal.returns-in-Ok-clause-read
returns-in-Ok-clause-read g c = λ next.
    let t = g.T.Tracee.stopped c.args.t.now in
    word-read t c.pid-pid.ensures.lives c.args.at next (g.T.Tracee.stopped c.peek.new.self) c.from_le_bytes.result (c.in-Ok.ensures.when.0 refl) c.in-Ok.ensures.after
    (c.from_le_bytes.ensures ∙ ap (from_le_bytes w64) c.in-Ok.ensures.bytes ∙ word-of (memory_at t).pages c.args.at)

pub returns-in-Ok-clause-edits : goal.returns-in-Ok-clause-edits
returns-in-Ok-clause-edits g c = record { edits = peek-edits (g.T.Tracee.stopped c.args.t.now) c.pid-pid.ensures.lives (g.T.Tracee.stopped c.peek.new.self) c.args.at 8 c.in-Ok.ensures.after; rest = c.in-Ok.ensures.rest }
