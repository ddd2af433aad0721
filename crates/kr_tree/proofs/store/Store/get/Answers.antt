use Rattle.std.proofs.Common.{◌∙◌}
use Rattle.kr_inode.proofs.pr_base.BTreeLemmas.{get-view}
use Rattle.kr_tree.proofs.store.Store.get.Goals as goal

pub returns : goal.returns
returns c = c.get.ensures.value ∙ get-view _ _ c.args.ino c.self.view_is
