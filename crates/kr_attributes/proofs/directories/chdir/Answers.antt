use Rattle.std.proofs.Common.{refl, ap, [], ◌∷◌}
use Rattle.std.specs.Option.{option_map}
use Rattle.kr_seen.specs.pr_base.declared.errno.Errno.TheVariants.{ENOENT}
use Rattle.kr_seen.specs.kr_model.Change.{ChangeDirectory, OfFound}
use Rattle.kr_seen.specs.kr_model.DirectoryRows.{chdir_row, if_entered}
use Rattle.kr_seen.specs.kr_model.Known.{known}
use Rattle.kr_seen.specs.kr_model.Reply.{done}
use Rattle.kr_seen.specs.kr_model.State.{image_layout}
use Rattle.kr_seen.specs.kr_ops.Meaning.{meaning}
use Rattle.kr_seen.specs.Placed.{target_mounts}
use Rattle.kr_seen.proofs.CarryLemmas.{by-refusal}
use Rattle.kr_attributes.proofs.FoundLemmas.{not-found, was-found}
use Rattle.kr_attributes.proofs.RowLemmas.{by-row}
use Rattle.kr_attributes.proofs.directories.chdir.Goals as goal

pub returns-in-Some-clause-performs : goal.returns-in-Some-clause-performs
returns-in-Some-clause-performs g c = λ n table some.
    let k = known image_layout c.args.pid (meaning c.args.state.now) in
    let mounts = target_mounts c.args.target.now in
    let place = c.in-Some.place in
    by-row c.args.pid _ c.args.state.now c.enter.new.state c.enter.result mounts (λ k. if_entered k place.host (done 0 (ChangeDirectory OfFound place.host ∷ [])))
    (was-found n table c.args.pid c.args.state.now c.args.target.now (chdir_row k) place c.in-Some.is)
    (c.enter.ensures.performs mounts OfFound (ap (option_map (λ p. p.mount)) c.in-Some.is) some)

pub returns-in-None-clause-performs : goal.returns-in-None-clause-performs
returns-in-None-clause-performs g c = λ n table some.
    let k = known image_layout c.args.pid (meaning c.args.state.now) in
    by-refusal (target_mounts c.args.target.now) c.args.pid _ c.args.state.now c.args.state.now c.refused.result c.requires.caller.sound.pids ENOENT
    (not-found n table c.args.pid c.args.state.now c.args.target.now (chdir_row k) c.in-None.is) c.refused.ensures refl
