use Rattle.std.proofs.Common.{◌∙◌, sym}
use Rattle.kr_text.proofs.FirstLemmas.{first_noted, first_already, first_of_one}
use Rattle.kr_text.proofs.canonical.note.Goals as goal
use Rattle.kr_text.proofs.canonical.note.Goals.{else-has_several_names-via-then-has_several_names+else-not-contains_key, else-has_several_names-via-else-has_several_names}

pub returns-in_ok-insert : goal.returns-in_ok-insert
returns-in_ok-insert c =
    first_noted c.args.tree.now c.args.first.now c.insert.new.self c.args.name (sym c.has_several_names.ensures ∙ c.if-has_several_names.true) (sym c.contains_key.ensures ∙ c.if-not-contains_key.true) c.in_ok-insert.ensures.updates

pub returns-else-has_several_names : goal.returns-else-has_several_names
returns-else-has_several_names c = elim c.else-has_several_names.branch [
  | else-has_several_names-via-then-has_several_names+else-not-contains_key w ↦ first_already c.args.tree.now c.args.first.now c.args.name (sym c.has_several_names.ensures ∙ w.if-has_several_names.true) (sym w.contains_key.ensures ∙ w.if-not-contains_key.false)
  | else-has_several_names-via-else-has_several_names w ↦ first_of_one c.args.tree.now c.args.first.now c.args.name (sym c.has_several_names.ensures ∙ w.if-has_several_names.false)
]
