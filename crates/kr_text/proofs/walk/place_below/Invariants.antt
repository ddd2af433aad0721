use Rattle.std.proofs.Common.{◌≡◌, ◌∷◌, true}
use Rattle.std.specs.List.{list_all}
use Rattle.kr_tree.specs.Names.{is_name}
use Rattle.kr_tree.specs.pr_base.Parts.{parts_left}
use Rattle.kr_text.specs.Reading.{place_below}
use Rattle.kr_text.proofs.WalkLemmas.{placed}
use Rattle.kr_text.proofs.walk.place_below.Given as goal

abbrev pub invariant-loop-name : goal.invariant-loop-name
invariant-loop-name l = (placed l.tree l.dir l.last (parts_left l.name-iterator) ≡ place_below l.tree l.path) × (list_all is_name (l.last ∷ parts_left l.name-iterator) ≡ true)
