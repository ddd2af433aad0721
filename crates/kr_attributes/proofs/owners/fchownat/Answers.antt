use Rattle.std.proofs.Common.{refl}
use Rattle.kr_seen.specs.pr_base.declared.errno.Errno.TheVariants.{ENOENT}
use Rattle.kr_seen.specs.kr_model.AttributeRows.{chown_host, fchownat_row}
use Rattle.kr_seen.specs.Placed.{target_mounts}
use Rattle.kr_seen.proofs.CarryLemmas.{by-refusal}
use Rattle.kr_seen.specs.kr_model.Known.{known}
use Rattle.kr_seen.specs.kr_model.State.{image_layout}
use Rattle.kr_seen.specs.kr_ops.Meaning.{meaning}
use Rattle.kr_attributes.proofs.FoundLemmas.{not-found, was-found}
use Rattle.kr_attributes.proofs.RowLemmas.{at-mounts, by-row}
use Rattle.kr_attributes.proofs.owners.fchownat.Goals as goal

pub returns-in-Some-clause-performs : goal.returns-in-Some-clause-performs
returns-in-Some-clause-performs g c = λ n table pid some.
    let k = known image_layout pid (meaning c.args.state.now) in
    let mounts = target_mounts c.args.target.now in
    let place = c.in-Some.place in
    by-row pid _ c.args.state.now c.chown.new.state c.chown.result mounts (λ k. chown_host k c.args.uid c.args.gid place.host)
    (was-found n table pid c.args.state.now c.args.target.now (λ l. fchownat_row k l c.args.uid c.args.gid) place c.in-Some.is)
    (at-mounts pid _ c.args.state.now c.chown.new.state c.chown.result mounts (c.chown.ensures.performs pid some))

pub returns-in-None-clause-performs : goal.returns-in-None-clause-performs
returns-in-None-clause-performs g c = λ n table pid some.
    let k = known image_layout pid (meaning c.args.state.now) in
    by-refusal (target_mounts c.args.target.now) pid _ c.args.state.now c.args.state.now c.refused.result c.requires.pids ENOENT
    (not-found n table pid c.args.state.now c.args.target.now (λ l. fchownat_row k l c.args.uid c.args.gid) c.in-None.is) c.refused.ensures refl
