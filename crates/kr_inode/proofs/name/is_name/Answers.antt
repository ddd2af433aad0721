use Rattle.std.proofs.Common.{Bool, subst, sym}
use Rattle.std.specs.Prelude.{Decides}
use Rattle.pr_base.specs.Paths.{IsName}
use Rattle.kr_inode.proofs.NameLemmas.{name_decides}
use Rattle.kr_inode.proofs.name.is_name.Goals as goal

pub returns-clause-means : goal.returns-clause-means
returns-clause-means c = let P : Bool → Type 0 = λ b. Decides b (IsName c.args.name.now) in subst P (sym c.passes.ensures) (name_decides c.args.name.now)
