use Rattle.std.proofs.Common.{◌≡◌, Some, None, sym, subst, ◌∙◌}
use Rattle.std.proofs.lemmas.Option.{none-some}
use Rattle.law_allowed.proofs.kr_tree.NameLemmas.{some_is}
use Rattle.law_allowed.specs.kr_model.State.{Image, Process}
use Rattle.law_allowed.specs.Allowed.{HoldsBytes}
use Rattle.kr_rows.specs.kr_ops.Meaning.{process_meaning}
use Rattle.kr_rows.proofs.kr_ops.ListLemmas.{none-found}
use Rattle.kr_rows.proofs.kr_ops.OpeningLemmas.{found}
use Rattle.kr_perform.proofs.call.memory_holds_bytes.Goals as goal

pub returns-in-Some : goal.returns-in-Some
returns-in-Some g c = λ p e.
    let own = found c.args.state.now c.args.pid c.in-Some.k c.index.result.now c.requires c.in-Some.ensures.some c.index.ensures in
    subst (λ (q : Process g.row.T.Denot Image). HoldsBytes q.image.memory.pages) (some_is (process_meaning c.index.result.now) p (sym own ∙ e)) c.can-can.ensures.bytes

pub returns-in_default : goal.returns-in_default
returns-in_default g c = λ p e. absurd (none-some p (sym (none-found c.args.pid c.args.state.now.living.items (c.index_of.ensures.none c.in_default.is)) ∙ e))
