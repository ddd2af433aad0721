use Rattle.std.proofs.Common.{◌∙◌, ◌++◌, ap}
use Rattle.pt_bind.proofs.ByteLemmas.{empty_is, not_empty_is, joined_none, joined_some}
use Rattle.pt_bind.proofs.text.joined.Goals as goal

pub returns-then-is_empty : goal.returns-then-is_empty
returns-then-is_empty c names is =
    let none = empty_is c.args.rest.now c.is_empty.result c.is_empty.ensures c.if-is_empty.true in
    c.in_ok-same.ensures ∙ joined_none c.args.top.now c.args.rest.now c.requires none names is

pub returns : goal.returns
returns c names is =
    let some = not_empty_is c.args.rest.now c.is_empty.result c.is_empty.ensures c.if-is_empty.false in
    c.in_ok-append.ensures.ok
    ∙ ap (λ t. t ++ c.args.rest.now) (c.in_ok-text.ensures ∙ c.below_root.ensures)
    ∙ joined_some c.args.top.now c.args.rest.now some names is
