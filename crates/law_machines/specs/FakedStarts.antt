-- What a start gives that is told on both machines, where processes are told an identity: all that such runs rest on.
use Rattle.std.specs.Prelude.{◌≡◌, ℕ, List, None, Some, Result, Ok, Err}
use Rattle.pr_top.specs.pr_base.declared.errno.Errno.{Errno}
use Rattle.pr_top.specs.pr_words.declared.launch.Launch.{Launch}
use Rattle.law_starts.specs.kr_calm.Calm.{broken_at_start}
use Rattle.pr_top.specs.kr_inode.declared.user.User.{User}
use Rattle.pr_top.specs.kr_mounts.Standing.{texts_of}
use Rattle.pr_top.specs.kr_tree.Lawful.{AreBytes}
use Rattle.pr_top.specs.kr_tree.Tree.{Tree}
use Rattle.law_starts.specs.kr_turns.Turn.{Machine}
use Rattle.pr_top.specs.kr_view.View.{Row}
use Rattle.law_starts.specs.pr_start.Beginning.{beginning}
use Rattle.law_starts.specs.pr_start.TracedBeginning.{traced_beginning}
use Rattle.law_starts.specs.pt_faker.declared.watch.Watch.{Watch}
use Rattle.law_starts.specs.pt_faker.declared.watch.Watch.TheVariants.{Faked}
use Rattle.law_machines.specs.Watchers.{anything, goes_by_bytes}
use Rattle.law_starts.specs.pt_faker.Faking.{Faking, starting_faking}
use Rattle.law_starts.specs.pt_tracer.Watched.{Tracing}
use Rattle.law_starts.specs.FirstStates.{IsOpening}
use Rattle.law_starts.specs.Starts.{beginning_reach}
use Rattle.law_paths.specs.law_stops.Turning.{tags_kept}
use Rattle.law_starts.specs.law_turns.Runs.{GoTogether, KeepOn}
use Rattle.law_paths.specs.law_stops.Runs.{CanRunFaked, faked_by, traced_by}
use Rattle.law_machines.specs.Starts.{IsOfByteWords}

-- a machine with the watcher of identities alone in place of whoever watches
abbrev pub with_faking : Faking → Machine Watch → Machine Faking
with_faking f m = record { state = m.state; watcher = f; tally = m.tally }

-- machines that begin, on which runs come to the same as long as calls do
pub record CanComeAlikeFaked (table : List Row) (m : Machine Faking) (n : Machine Tracing) : Type 0 where
  pub together : GoTogether tags_kept table 0 m n
  pub can : CanRunFaked anything goes_by_bytes table
  pub keeps : KeepOn (faked_by anything table) (traced_by goes_by_bytes) m n

-- two beginnings: the same error, or such machines, of which the one is watched by the watcher of identities
abbrev pub BeginToRunFaked : List Row → Result (Machine Watch) Errno → Result (Machine Tracing) Errno → Type 0
BeginToRunFaked table (Ok m) (Ok n) = (f : Faking) × (m.watcher ≡ Faked f) × CanComeAlikeFaked table (with_faking f m) n
BeginToRunFaked table (Err e) (Err f) = e ≡ f
BeginToRunFaked table (Ok m) (Err f) = ⊥
BeginToRunFaked table (Err e) (Ok n) = ⊥

abbrev pub FakedStartsCanRun : Type 0
FakedStartsCanRun =
    (table : List Row) (tree : Tree) (user : User) (uid gid : ℕ) (launch : Launch) (input : List ℕ) → IsOpening tree user table
    → broken_at_start (beginning_reach table tree user (Faked (starting_faking user uid gid)) launch) ≡ None → IsOfByteWords launch → AreBytes input
    → BeginToRunFaked table (beginning table tree user (Faked (starting_faking user uid gid)) launch input) (traced_beginning (texts_of table) tree user (Some (uid, gid)) launch input)
