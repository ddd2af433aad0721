use Rattle.std.proofs.Common.{None, sym, subst}
use Rattle.kr_seen.specs.kr_tree.declared.place.Host.{Host}
use Rattle.kr_seen.specs.kr_model.Known.{known}
use Rattle.kr_seen.specs.kr_model.State.{image_layout}
use Rattle.kr_seen.specs.kr_model.Walks.{text_at}
use Rattle.kr_seen.specs.kr_ops.Meaning.{meaning}
use Rattle.kr_seen.specs.Numbered.{state_numbered}
use Rattle.kr_attributes.specs.Named.{AnswersText}
use Rattle.kr_attributes.proofs.links.text.Goals as goal

pub returns-in-Node : goal.returns-in-Node
returns-in-Node g c =
    let k = known image_layout c.args.pid (meaning c.args.state.now) in
    let s = state_numbered g.P.Places.number (meaning c.args.state.now) in
    let P : Host → Type 0 = λ h. AnswersText k h (text_at (g.P.Places.mounts c.args.places.now) c.args.pid s h) c.node_text.result in
    subst P (sym c.in-Node.is) (c.node_text.ensures c.args.pid None)

pub returns-in-Proc : goal.returns-in-Proc
returns-in-Proc g c =
    let k = known image_layout c.args.pid (meaning c.args.state.now) in
    let s = state_numbered g.P.Places.number (meaning c.args.state.now) in
    let P : Host → Type 0 = λ h. AnswersText k h (text_at (g.P.Places.mounts c.args.places.now) c.args.pid s h) c.process_text.result in
    subst P (sym c.in-Proc.is) (c.process_text.ensures c.in-Proc.field-0)
