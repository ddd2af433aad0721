use Rattle.kr_walk.specs.kr_inode.declared.node.Kind.TheVariants as kind
use Rattle.kr_mounts.proofs.SourceLemmas.{kind_listed, none_listed}
use Rattle.kr_mounts.proofs.passes.is_listed.Goals as goal

pub returns-in-Some-Dir : goal.returns-in-Some-Dir
returns-in-Some-Dir c = kind_listed c.args.tree.now c.args.inode kind.Dir (rw c.in-Some-Dir.field-0-is at c.in-Some-Dir.ensures)

pub returns-in-Some-File : goal.returns-in-Some-File
returns-in-Some-File c = kind_listed c.args.tree.now c.args.inode kind.File (rw c.in-Some-File.field-0-is at c.in-Some-File.ensures)

pub returns-in-Some-Link : goal.returns-in-Some-Link
returns-in-Some-Link c = kind_listed c.args.tree.now c.args.inode kind.Link (rw c.in-Some-Link.field-0-is at c.in-Some-Link.ensures)

pub returns-in-Some-Proc : goal.returns-in-Some-Proc
returns-in-Some-Proc c = kind_listed c.args.tree.now c.args.inode kind.Proc (rw c.in-Some-Proc.field-0-is at c.in-Some-Proc.ensures)

pub returns-in-None : goal.returns-in-None
returns-in-None c = none_listed c.args.tree.now c.args.inode c.in-None.ensures
