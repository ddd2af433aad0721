use Rattle.std.proofs.Common.{◌∙◌, ap, sym}
use Rattle.std.specs.FinMap as map
use Rattle.kr_inode.proofs.pr_base.BTreeLemmas.{len-from_entries}
use Rattle.kr_tree.proofs.store.Store.len.Goals as goal

pub returns : goal.returns
returns c = c.len.ensures.len ∙ sym (len-from_entries _ c.len.ensures.ordered) ∙ ap map.len c.self.view_is
