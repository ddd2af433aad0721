-- What a start gives that is told on both machines, without an identity: all that runs rest on which come to the same.
use Rattle.std.specs.Prelude.{◌≡◌, ℕ, List, None, Result, Ok, Err}
use Rattle.pr_top.specs.pr_base.declared.errno.Errno.{Errno}
use Rattle.pr_top.specs.pr_words.declared.launch.Launch.{Launch}
use Rattle.law_starts.specs.law_kept.Bytes.{AreAllBytes}
use Rattle.law_starts.specs.kr_calm.Calm.{broken_at_start}
use Rattle.pr_top.specs.kr_inode.declared.user.User.{User}
use Rattle.pr_top.specs.kr_mounts.Standing.{texts_of}
use Rattle.pr_top.specs.kr_tree.Lawful.{AreBytes}
use Rattle.pr_top.specs.kr_tree.Tree.{Tree}
use Rattle.law_starts.specs.kr_turns.Turn.{Machine}
use Rattle.pr_top.specs.kr_view.View.{Row}
use Rattle.law_starts.specs.pr_start.Beginning.{beginning}
use Rattle.law_starts.specs.pr_start.TracedBeginning.{traced_beginning}
use Rattle.law_starts.specs.pt_faker.declared.watch.Watch.{Watch}
use Rattle.law_machines.specs.Watchers.{goes_by_bytes}
use Rattle.law_starts.specs.pt_tracer.Watched.{Tracing}
use Rattle.law_starts.specs.FirstStates.{IsOpening}
use Rattle.law_starts.specs.Starts.{beginning_reach}
use Rattle.law_paths.specs.law_stops.Together.{CanRun, goes_by, gone_by}
use Rattle.law_paths.specs.law_stops.Turning.{tags_kept}
use Rattle.law_starts.specs.law_turns.Runs.{GoTogether, KeepOn}

-- the words of what is launched are bytes
pub record IsOfByteWords (launch : Launch) : Type 0 where
  pub command : AreAllBytes launch.command
  pub env : AreAllBytes launch.env
  pub cwd : AreBytes launch.cwd

-- machines that begin, on which runs come to the same as long as calls do
pub record CanComeAlike {S : Type 0} (table : List Row) (m : Machine S) (n : Machine Tracing) : Type 0 where
  pub together : GoTogether tags_kept table 0 m n
  pub can : CanRun goes_by_bytes table
  pub keeps : KeepOn (gone_by table) (goes_by goes_by_bytes) m n

-- two beginnings: the same error, or such machines
abbrev pub BeginToRun : {S : Type 0} → List Row → Result (Machine S) Errno → Result (Machine Tracing) Errno → Type 0
BeginToRun table (Ok m) (Ok n) = CanComeAlike table m n
BeginToRun table (Err e) (Err f) = e ≡ f
BeginToRun table (Ok m) (Err f) = ⊥
BeginToRun table (Err e) (Ok n) = ⊥

abbrev pub StartsCanRun : Type 0
StartsCanRun =
    (table : List Row) (tree : Tree) (user : User) (watch : Watch) (launch : Launch) (input : List ℕ) → IsOpening tree user table → broken_at_start (beginning_reach table tree user watch launch) ≡ None → IsOfByteWords launch → AreBytes input
    → BeginToRun table (beginning table tree user watch launch input) (traced_beginning (texts_of table) tree user None launch input)
