use Rattle.std.proofs.Common.{◌∙◌}
use Rattle.law_allowed.specs.kr_model.Known.{known}
use Rattle.law_allowed.specs.kr_model.State.{image_layout}
use Rattle.law_steady.specs.Ahead.{owner_alters}
use Rattle.kr_rows.specs.kr_ops.Meaning.{meaning}
use Rattle.kr_perform.proofs.ForetoldLemmas.{looks-at, looks-free, looks-nowhere}
use Rattle.kr_perform.proofs.altering.found_owner_alters.Goals as goal

pub returns-in_default : goal.returns-in_default
returns-in_default g c = λ n table pid.
    let k = known image_layout pid (meaning c.args.state.now) in
    looks-nowhere n table pid (meaning c.args.state.now) (owner_alters c.args.state.now.tree k c.args.uid c.args.gid) c.args.targets.now.first c.args.targets.now.second c.in_default.is

pub returns-in-Some-found : goal.returns-in-Some-found
returns-in-Some-found g c = λ n table pid.
    let k = known image_layout pid (meaning c.args.state.now) in
    c.owner_alters.ensures pid ∙ looks-at n table pid (meaning c.args.state.now) (owner_alters c.args.state.now.tree k c.args.uid c.args.gid) c.args.targets.now.first c.args.targets.now.second c.in-Some.target c.in-Some.is c.in-Some-found.place c.in-Some-found.is

pub returns-in-None : goal.returns-in-None
returns-in-None g c = λ n table pid.
    let k = known image_layout pid (meaning c.args.state.now) in
    looks-free n table pid (meaning c.args.state.now) (owner_alters c.args.state.now.tree k c.args.uid c.args.gid) c.args.targets.now.first c.args.targets.now.second c.in-Some.target c.in-Some.is c.in-None.is
