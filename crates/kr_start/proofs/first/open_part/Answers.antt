use Rattle.std.proofs.Common.{sym, ap, ◌∙◌}
use Rattle.std.specs.Prelude.{Err}
use Rattle.std.proofs.lemmas.Option.{none-some}
use Rattle.kr_ops.specs.Meaning.{meaning}
use Rattle.kr_start.proofs.ConsoleLemmas.{lowest-below, same-lowest, part-opens, part-lawful, next-open}
use Rattle.kr_start.proofs.first.open_part.Goals as goal

pub unreachable-requires : goal.unreachable-requires
unreachable-requires g c =
    let at = c.requires.at in
    let none = c.open.ensures.full.0 (c.in-Err-Full.is ∙ ap Err c.in-Err-Full.field-0-is) in
    absurd (none-some at.0 (sym none ∙ lowest-below (meaning c.args.state.now) at.2.lives at.0 at.1 at.2.below))

pub returns-in-Ok-clause-opens : goal.returns-in-Ok-clause-opens
returns-in-Ok-clause-opens g c = λ n small to m.
    let same = same-lowest (meaning c.args.state.now) to.lives n c.in-Ok.field-0 small to.below c.in-Ok.ensures.lowest in
    part-opens c.args.state.now c.open.new.self c.in-Ok.field-0 n c.args.what c.args.read c.args.write c.new.result (sym c.new.ensures) same c.in-Ok.ensures.makes m

pub returns-in-Ok-clause-next : goal.returns-in-Ok-clause-next
returns-in-Ok-clause-next g c = λ n small to.
    let same = same-lowest (meaning c.args.state.now) to.lives n c.in-Ok.field-0 small to.below c.in-Ok.ensures.lowest in
    next-open c.args.state.now c.open.new.self c.in-Ok.ensures.served n small to c.args.what c.args.read c.args.write c.requires.part
    (part-opens c.args.state.now c.open.new.self c.in-Ok.field-0 n c.args.what c.args.read c.args.write c.new.result (sym c.new.ensures) same c.in-Ok.ensures.makes)

pub returns-in-Ok-clause-lawful : goal.returns-in-Ok-clause-lawful
returns-in-Ok-clause-lawful g c = λ number table l.
    let at = c.requires.at in
    let same = same-lowest (meaning c.args.state.now) at.2.lives at.0 c.in-Ok.field-0 at.1 at.2.below c.in-Ok.ensures.lowest in
    part-lawful number table (meaning c.args.state.now) (meaning c.open.new.self) l at.2.lives at.0 at.1 at.2.below c.args.what c.args.read c.args.write c.requires.part
    (part-opens c.args.state.now c.open.new.self c.in-Ok.field-0 at.0 c.args.what c.args.read c.args.write c.new.result (sym c.new.ensures) same c.in-Ok.ensures.makes)
