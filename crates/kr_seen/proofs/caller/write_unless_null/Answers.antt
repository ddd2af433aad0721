use Rattle.std.proofs.lemmas.Result.{on_ok_weaker}
use Rattle.kr_seen.specs.Using.{Writes}
use Rattle.kr_seen.proofs.UsingLemmas.{other-written}
use Rattle.kr_seen.proofs.caller.write_unless_null.Goals as goal

pub returns : goal.returns
returns g c = λ next.
    on_ok_weaker c.write.result
    (λ (h : Writes c.args.pid c.args.at c.args.bytes.now c.args.state.now c.write.new.state). other-written c.args.pid c.args.state.now c.requires.sound c.requires.lives c.args.at c.args.bytes.now next c.write.new.state c.if-at-eq0.false h)
    c.write.ensures.ok
