-- Both machines on the same words, where processes are told an identity: the run of a plain kernel with a tracer comes to what that of a kernel
-- with mounts and the watcher of identities comes to.
use Rattle.std.specs.Prelude.{◌≡◌, ℕ, List, None, Some, Result, Ok, Err}
use Rattle.pr_top.specs.pr_base.declared.errno.Errno.{Errno}
use Rattle.pr_top.specs.pr_words.declared.launch.Launch.{Launch}
use Rattle.law_starts.specs.kr_calm.Calm.{broken_at_start}
use Rattle.pr_top.specs.kr_inode.declared.user.User.{User}
use Rattle.pr_top.specs.kr_mounts.Standing.{texts_of}
use Rattle.pr_top.specs.kr_tree.Tree.{Tree}
use Rattle.law_starts.specs.kr_turns.Turn.{Machine}
use Rattle.pr_top.specs.kr_view.View.{Row}
use Rattle.pr_top.specs.pr_run.declared.plan.Plan.{Plan}
use Rattle.law_starts.specs.pr_start.Beginning.{beginning}
use Rattle.law_starts.specs.pr_start.TracedBeginning.{traced_beginning}
use Rattle.law_starts.specs.pt_faker.declared.watch.Watch.{Watch}
use Rattle.law_starts.specs.pt_faker.declared.watch.Watch.TheVariants.{Faked}
use Rattle.law_starts.specs.pt_faker.Faking.{starting_faking}
use Rattle.law_starts.specs.pt_tracer.Watched.{Tracing}
use Rattle.law_starts.specs.Starts.{beginning_reach}
use Rattle.law_starts.specs.law_turns.Runs.{ComeAlike}
use Rattle.law_machines.specs.Agreeing.{CanBeTold, IsCalm, mounted, traced}

-- ---- both

module _ (plan : Plan) (table : List Row) (tree : Tree) (user : User) (uid gid : ℕ) (launch : Launch) (input : List ℕ) where
  -- the watcher of identities on the kernel with mounts
  abbrev pub faker_of : Watch
  faker_of = Faked (starting_faking user uid gid)

  abbrev pub faked_start : Result (Machine Tracing) Errno
  faked_start = traced_beginning (texts_of table) tree user (Some (uid, gid)) launch input

  -- what a calm run comes to, all of it, or the error of a start whose walks are calm
  abbrev pub IsToldFaked : Result (Machine Watch) Errno → Type 0
  IsToldFaked (Ok m) = IsCalm plan table m → (n : Machine Tracing) × (faked_start ≡ Ok n) × ComeAlike (mounted plan table m) (traced plan n)
  IsToldFaked (Err e) = broken_at_start (beginning_reach table tree user faker_of launch) ≡ None → faked_start ≡ Err e

-- so what a tracer does with an identity is what mounts and a watcher of identities do
abbrev pub FakedMachinesAgree : Type 0
FakedMachinesAgree =
    (plan : Plan) (table : List Row) (tree : Tree) (user : User) (uid gid : ℕ) (launch : Launch) (input : List ℕ) → CanBeTold plan table tree user launch input
    → IsToldFaked plan table tree user uid gid launch input (beginning table tree user (Faked (starting_faking user uid gid)) launch input)
