use Rattle.std.proofs.Common.{◌≡◌, true, false, Err, sym, ap, ◌∙◌}
use Rattle.kr_execve.proofs.LimitLemmas.{exceeds-too-big}
use Rattle.kr_first.proofs.loading.image_of.Goals as goal

pub unreachable-requires : goal.unreachable-requires
unreachable-requires g c =
    let plan = c.args.plan.now in
    let many = c.load.ensures.args.0 (c.in-Err-TooManyArgs.is ∙ ap Err c.in-Err-TooManyArgs.field-0-is) in
    let clash : false ≡ true = sym c.requires.loadable.fit ∙ exceeds-too-big plan.args plan.env ∙ many in
    cc
