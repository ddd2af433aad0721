use Rattle.std.proofs.Common.{◌≡◌, ◌∙◌, ap, false, nat_lt, length, sym, arith}
use Rattle.std.proofs.lemmas.Bool.Decides.{nat_tests}
use Rattle.pt_faker.proofs.ReadLemmas.{within-passed, within-read, within-stops}
use Rattle.pt_faker.proofs.text.read_text_within.Goals as goal

pub returns-in-Ok-clause-read : goal.returns-in-Ok-clause-read
returns-in-Ok-clause-read g c =
    within-read c.args.room c.args.at (g.T.Tracee.stopped c.args.t.now) (g.T.Tracee.stopped c.read_text.new.t) c.pid-pid.ensures.lives c.in-Ok.text (omega (arith, c.len.ensures, c.if-len-room.true)) c.in-Ok.ensures.read

pub returns-in-Ok-2-clause-read : goal.returns-in-Ok-2-clause-read
returns-in-Ok-2-clause-read g c =
    let passed : nat_lt (length c.in-Ok-2._text) c.args.room ≡ false = grind (arith, nat_tests) in
    within-passed c.args.room c.args.at (g.T.Tracee.stopped c.args.t.now) (g.T.Tracee.stopped c.read_text.new.t) c.pid-pid.ensures.lives c.in-Ok-2._text passed c.in-Ok-2.ensures.read

pub returns-in-Err-clause-read : goal.returns-in-Err-clause-read
returns-in-Err-clause-read g c =
    within-stops c.args.room c.args.at (g.T.Tracee.stopped c.args.t.now) (g.T.Tracee.stopped c.read_text.new.t) c.pid-pid.ensures.lives c.in-Err.fault c.in-Err.ensures.read
