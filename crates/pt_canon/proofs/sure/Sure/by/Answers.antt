use Rattle.std.proofs.Common.{◌∙◌, Some, None, ap, sym}
use Rattle.std.specs.Bool.{if◌then◌else◌}
use Rattle.pt_canon.proofs.sure.Sure.by.Goals as goal

pub returns-then-not-is_steady : goal.returns-then-not-is_steady
returns-then-not-is_steady c = c.nothing.ensures ∙ ap (λ b. if b then Some c.args.host else None) (sym c.if-not-is_steady.true)

pub returns : goal.returns
returns c = ap (λ b. if b then Some c.args.host else None) (sym c.if-not-is_steady.false)
