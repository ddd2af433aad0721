use Rattle.std.proofs.Common.{ap, ◌∙◌, w32}
use Rattle.std.proofs.Math.Facts.{to_z-of_z}
use Rattle.kr_seen.specs.kr_model.Asking.{descriptor_number}
use Rattle.kr_seen.specs.kr_ops.Meaning.{meaning}
use Rattle.kr_calm.proofs.NotedLemmas.{write-kills}
use Rattle.kr_calm.proofs.noting.kills.Goals as goal

pub returns-then-opened : goal.returns-then-opened
returns-then-opened g c =
    let same = to_z-of_z {w = w32} {z = c.args.fd} c.ranges.fd in
    write-kills c.args.pid (meaning c.args.state.now) c.args.fd c.in-Some.number c.in-Some-opened.opened.now (c.in-Some.ensures ∙ ap descriptor_number same) c.in-Some-opened.ensures c.is_unread.result
    (c.is_unread.ensures c.args.pid) c.if-opened.true
