use Rattle.kr_inode.proofs.pr_base.BTreeLemmas.{inserted}
use Rattle.kr_tree.proofs.store.Store.insert.Goals as goal

pub returns-clause-ok : goal.returns-clause-ok
returns-clause-ok c =
    inserted c.self.inside.inodes c.insert.new.self c.args.self.now c.args.ino c.args.inode c.self.view_is (c.in_ok-insert.ensures.updates)
