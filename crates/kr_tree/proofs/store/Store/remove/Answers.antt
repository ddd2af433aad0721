use Rattle.kr_inode.proofs.pr_base.BTreeLemmas.{removed}
use Rattle.kr_tree.proofs.store.Store.remove.Goals as goal

pub returns : goal.returns
returns c =
    removed c.self.inside.inodes c.remove-gone.new.self c.args.self.now c.args.ino c.self.view_is (c.remove-gone.ensures.updates)
