use Rattle.kr_view.specs.Walk.{looking}
use Rattle.kr_tree.proofs.pr_base.EndLemmas.{found_is_shown}
use Rattle.kr_view.proofs.DirectoryLemmas.{looked_in}
use Rattle.kr_view.proofs.laws.found_is_shown.Goals as goal

pub returns : goal.returns
returns c = record {
  shown = λ around. found_is_shown _ _ (looking around);
  in_directory = λ around mode base path t h jumped root.
      let shown = found_is_shown _ _ (looking around) mode base path t h jumped root in
      looked_in around t.dir shown.0 t.found shown.3;
}
