use Rattle.std.proofs.Common.{refl}
use Rattle.kr_seen.specs.pr_base.declared.errno.Errno.TheVariants.{ENOENT}
use Rattle.kr_seen.specs.kr_model.AttributeRows.{newfstatat_row, stat_host}
use Rattle.kr_seen.specs.kr_model.Known.{known}
use Rattle.kr_seen.specs.kr_model.State.{image_layout}
use Rattle.kr_seen.specs.kr_ops.Meaning.{meaning}
use Rattle.kr_seen.specs.Placed.{target_mounts}
use Rattle.kr_seen.proofs.CarryLemmas.{by-refusal}
use Rattle.kr_attributes.proofs.FoundLemmas.{not-found, was-found}
use Rattle.kr_attributes.proofs.RowLemmas.{at-mounts, by-row}
use Rattle.kr_attributes.proofs.stats.newfstatat.Goals as goal

pub returns-in-Some-clause-performs : goal.returns-in-Some-clause-performs
returns-in-Some-clause-performs g c = λ n table some.
    let k = known image_layout c.args.pid (meaning c.args.state.now) in
    let mounts = target_mounts c.args.target.now in
    let place = c.in-Some.place in
    by-row c.args.pid _ c.args.state.now c.tell_object.new.state c.tell_object.result mounts (λ k. stat_host k c.args.buf place.host)
    (was-found n table c.args.pid c.args.state.now c.args.target.now (λ l. newfstatat_row k l c.args.buf) place c.in-Some.is)
    (at-mounts c.args.pid _ c.args.state.now c.tell_object.new.state c.tell_object.result mounts (c.tell_object.ensures.performs some))

pub returns-in-None-clause-performs : goal.returns-in-None-clause-performs
returns-in-None-clause-performs g c = λ n table some.
    let k = known image_layout c.args.pid (meaning c.args.state.now) in
    by-refusal (target_mounts c.args.target.now) c.args.pid _ c.args.state.now c.args.state.now c.refused.result c.requires.sound.pids ENOENT
    (not-found n table c.args.pid c.args.state.now c.args.target.now (λ l. newfstatat_row k l c.args.buf) c.in-None.is) c.refused.ensures refl
