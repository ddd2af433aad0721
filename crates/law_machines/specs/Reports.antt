-- What is put of two runs that come to the same.
use Rattle.std.specs.Prelude.{◌≡◌, false}
use Rattle.pr_top.specs.kr_inode.declared.user.User.{User}
use Rattle.pr_top.specs.kr_text.Canonical.{canonical}
use Rattle.pr_top.specs.kr_tree.Tree.{Tree, nodes}
use Rattle.law_starts.specs.kr_turns.Run.{Ran}
use Rattle.pr_top.specs.pr_run.Report.{report_of}
use Rattle.pr_top.specs.pr_run.declared.plan.Plan.{Plan}
use Rattle.law_starts.specs.law_turns.Runs.{ComeAlike}

-- a listing tells the nodes of a tree alone
abbrev pub ListingsTellNodes : Type 0
ListingsTellNodes = (t v : Tree) (user : User) → nodes t ≡ nodes v → canonical t user ≡ canonical v user

-- so the same is put of them, where it isn't asked whether they were calm
abbrev pub ReportsAreAlike : Type 0 → Type 0 → Type 0
ReportsAreAlike S T = (plan : Plan) (one : Ran S) (other : Ran T) → plan.calm ≡ false → ComeAlike one other → report_of plan one ≡ report_of plan other
