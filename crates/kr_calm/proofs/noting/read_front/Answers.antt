use Rattle.std.proofs.lemmas.List.{length-take-le}
use Rattle.kr_calm.proofs.NotedLemmas.{front-read}
use Rattle.kr_calm.proofs.noting.read_front.Goals as goal

pub returns : goal.returns
returns g c =
    front-read c.args.pid c.args.state.now c.requires.caller.sound c.requires.caller.lives c.read_into-read.new.state c.args.at c.args.n _ c.read_into-read.new.into c.read_into-read.result (length-take-le c.args.n c.args.buffer.now c.requires.room)
    c.read_into-read.ensures.ok c.read_into-read.ensures.bad c.read_into-read.ensures.err
