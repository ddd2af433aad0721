use Rattle.std.proofs.Common.{◌∙◌, sym}
use Rattle.kr_text.proofs.FirstLemmas.{first_of_others}
use Rattle.kr_text.proofs.WayLemmas.{when_ok}
use Rattle.kr_text.proofs.canonical.go_on.Goals as goal

pub returns-else-is_file-clause-first : goal.returns-else-is_file-clause-first
returns-else-is_file-clause-first c =
    when_ok c.put_children.result (first_of_others c.args.tree.now c.args.first.now c.args.name (sym c.is_file.ensures ∙ c.if-is_file.false))
