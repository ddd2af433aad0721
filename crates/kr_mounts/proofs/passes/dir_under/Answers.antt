use Rattle.std.proofs.Common.{sym, ◌∙◌}
use Rattle.pt_bind.specs.Binding.{names_of}
use Rattle.pt_bind.proofs.ByteLemmas.{empty_is, not_empty_is, spelled_parts}
use Rattle.kr_mounts.proofs.MountLemmas.{under_none, under_some}
use Rattle.kr_mounts.proofs.passes.dir_under.Goals as goal

pub returns-then-is_empty : goal.returns-then-is_empty
returns-then-is_empty c =
    under_none c.args.dir (names_of c.args.text.now) (spelled_parts c.args.text.now c.requires) (sym c.last_name.ensures ∙ empty_is c.last_name.result.now c.is_empty.result c.is_empty.ensures c.if-is_empty.true)

pub returns-else-is_empty : goal.returns-else-is_empty
returns-else-is_empty c =
    under_some c.args.dir (names_of c.args.text.now) (λ none. not_empty_is c.last_name.result.now c.is_empty.result c.is_empty.ensures c.if-is_empty.false (c.last_name.ensures ∙ none))
