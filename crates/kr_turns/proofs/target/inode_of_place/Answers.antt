use Rattle.std.proofs.Common.{sym, ap, ◌∙◌}
use Rattle.std.specs.Option.{option_and_then}
use Rattle.kr_steps.specs.kr_model.Known.{known}
use Rattle.kr_steps.specs.kr_model.State.{image_layout}
use Rattle.kr_hostview.specs.kr_ops.Meaning.{meaning}
use Rattle.kr_turns.specs.Target.{inode_at}
use Rattle.kr_turns.proofs.target.inode_of_place.Goals as goal

pub returns-in-Some : goal.returns-in-Some
returns-in-Some g c = λ pid. c.inode_at.ensures pid ∙ sym (ap (λ o. option_and_then (λ p. inode_at (known image_layout pid (meaning c.args.state.now)) p.host) o) c.in-Some.is)
