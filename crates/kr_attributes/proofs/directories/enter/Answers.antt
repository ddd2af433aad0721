use Rattle.std.proofs.Common.{refl, [], ◌∷◌}
use Rattle.kr_seen.specs.kr_model.Change.{ChangeDirectory}
use Rattle.kr_seen.specs.kr_model.Reply.{answers, done}
use Rattle.kr_seen.proofs.CarryLemmas.{by-refusal, by-reply}
use Rattle.kr_attributes.proofs.directories.enter.Goals as goal

pub returns-in-Ok-clause-performs : goal.returns-in-Ok-clause-performs
returns-in-Ok-clause-performs g c = λ mounts from taken some.
    let changes = ChangeDirectory from c.args.place.host ∷ [] in
    by-reply mounts c.args.pid _ c.args.state.now c.change_directory.new.self _ c.requires.caller.sound.pids (answers 0 changes)
    (c.in-Ok.ensures.ok c.args.pid (done 0 changes)) c.number.ensures (c.change_directory.ensures.makes mounts from taken)

pub returns-in-Err-clause-performs : goal.returns-in-Err-clause-performs
returns-in-Err-clause-performs g c = λ mounts from taken some.
    by-refusal mounts c.args.pid _ c.args.state.now c.args.state.now _ c.requires.caller.sound.pids c.in-Err.errno
    (c.in-Err.ensures.err c.args.pid (done 0 (ChangeDirectory from c.args.place.host ∷ []))) c.refused.ensures refl
