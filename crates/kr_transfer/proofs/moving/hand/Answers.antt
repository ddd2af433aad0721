use Rattle.std.proofs.Common.{sym}
use Rattle.kr_seen.specs.kr_model.Reply.{done}
use Rattle.std.proofs.Common.{length}
use Rattle.kr_transfer.specs.Moving.{told}
use Rattle.kr_transfer.proofs.MovingLemmas.{hand-usable, hand-unusable, comes-then}
use Rattle.kr_transfer.proofs.moving.hand.Goals as goal

pub returns-then-not-may_use_all-clause-bad : goal.returns-then-not-may_use_all-clause-bad
returns-then-not-may_use_all-clause-bad g c = λ bad changes.
    hand-unusable c.args.pid c.args.state.now (told c.args.pieces.now) c.args.bytes.now changes c.requires.some (sym c.if-not-may_use_all.ensures)

pub returns-in-Ok-clause-ok : goal.returns-in-Ok-clause-ok
returns-in-Ok-clause-ok g c = λ changes.
    comes-then c.args.pid _ _ _ c.args.state.now c.args.state.now c.write_all.new.state
    (hand-usable c.args.pid c.args.state.now (told c.args.pieces.now) c.args.bytes.now changes c.requires.some (sym c.if-not-may_use_all.ensures))
    (c.in-Ok.ensures.comes (done (length c.args.bytes.now) changes))
