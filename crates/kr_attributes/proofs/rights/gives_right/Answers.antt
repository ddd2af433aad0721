use Rattle.std.proofs.Common.{sym, ap, ◌∙◌}
use Rattle.std.specs.Prelude.{◌||◌, not}
use Rattle.kr_seen.specs.kr_model.AttributeRows.{host_allows}
use Rattle.kr_seen.specs.kr_model.Known.{known}
use Rattle.kr_seen.specs.kr_model.State.{image_layout}
use Rattle.kr_seen.specs.kr_ops.Meaning.{meaning}
use Rattle.kr_attributes.proofs.rights.gives_right.Goals as goal

pub returns-then-asked : goal.returns-then-asked
returns-then-asked g c = λ pid.
    let allowed = host_allows (known image_layout pid (meaning c.args.state.now)) c.args.host c.args.right in
    c.allows.ensures pid ∙ sym (ap (λ b. not b || allowed) c.if-asked.true)

pub returns-else-asked : goal.returns-else-asked
returns-else-asked g c = λ pid.
    let allowed = host_allows (known image_layout pid (meaning c.args.state.now)) c.args.host c.args.right in
    sym (ap (λ b. not b || allowed) c.if-asked.false)
