use Rattle.std.proofs.Common.{sym, ap, ◌∙◌}
use Rattle.std.specs.Option.{option_map_or}
use Rattle.kr_execve.specs.kr_view.declared.target.Target.{Target}
use Rattle.kr_steps.specs.kr_model.Known.{known}
use Rattle.kr_steps.specs.kr_model.State.{image_layout}
use Rattle.kr_hostview.specs.kr_ops.Meaning.{meaning}
use Rattle.kr_turns.specs.Target.{inode_instead, instead_of}
use Rattle.kr_turns.proofs.TargetLemmas.{inode_at_place, target-along}
use Rattle.kr_turns.proofs.target.target_of.Goals as goal

pub returns-in-Some : goal.returns-in-Some
returns-in-Some g c = λ number answer are.
    let k = known image_layout c.args.pid (meaning c.args.state.now) in
    c.inode_of_place.ensures c.args.pid
    ∙ sym (ap (λ o. option_map_or (λ (t : Target _). inode_at_place number k c.args.request.now t.found) o (inode_instead k (instead_of c.args.request.now))) c.in-Some.is)
    ∙ target-along number k c.args.request.now c.args.targets.now answer are

pub returns-in-None : goal.returns-in-None
returns-in-None g c = λ number answer are.
    let k = known image_layout c.args.pid (meaning c.args.state.now) in
    c.inode_instead.ensures
    ∙ ap (inode_instead k) c.instead_of.ensures
    ∙ sym (ap (λ o. option_map_or (λ (t : Target _). inode_at_place number k c.args.request.now t.found) o (inode_instead k (instead_of c.args.request.now))) c.in-None.is)
    ∙ target-along number k c.args.request.now c.args.targets.now answer are
