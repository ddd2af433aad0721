-- Both machines on the same words: the run of a plain kernel with a tracer comes to what that of a kernel with mounts comes to.
use Rattle.std.specs.Prelude.{◌≡◌, ◌≤◌, ◌^◌, ℕ, List, None, Result, Ok, Err}
use Rattle.pr_top.specs.pr_base.declared.errno.Errno.{Errno}
use Rattle.pr_top.specs.pr_words.declared.launch.Launch.{Launch}
use Rattle.law_starts.specs.kr_calm.Calm.{broken_at_start}
use Rattle.pr_top.specs.kr_inode.declared.user.User.{User}
use Rattle.pr_top.specs.kr_mounts.Standing.{texts_of}
use Rattle.pr_top.specs.kr_tree.Lawful.{AreBytes}
use Rattle.pr_top.specs.kr_tree.Tree.{Tree}
use Rattle.law_starts.specs.kr_turns.Run.{Ran, run}
use Rattle.law_starts.specs.kr_turns.Turn.{Machine}
use Rattle.pr_top.specs.kr_view.View.{Row, plain}
use Rattle.pr_top.specs.pr_run.Slots.{slot_of}
use Rattle.pr_top.specs.pr_run.declared.plan.Plan.{Plan}
use Rattle.law_starts.specs.pr_start.Beginning.{beginning}
use Rattle.law_starts.specs.pr_start.TracedBeginning.{traced_beginning}
use Rattle.law_starts.specs.pt_faker.Watches.{watch}
use Rattle.law_starts.specs.pt_faker.declared.watch.Watch.{Watch}
use Rattle.law_starts.specs.pt_faker.declared.watch.Watch.TheVariants.{Nobody}
use Rattle.law_starts.specs.pt_tracer.Watched.{Tracing, tracer}
use Rattle.law_starts.specs.FirstStates.{IsOpening}
use Rattle.law_starts.specs.Starts.{beginning_reach}
use Rattle.law_starts.specs.law_turns.Runs.{ComeAlike}
use Rattle.law_machines.specs.Starts.{IsOfByteWords}

-- ---- runs over mounts

abbrev pub mounted : Plan → List Row → Machine Watch → Ran Watch
mounted plan table m = run watch 1 table (slot_of plan.schedule) plan.turns m

abbrev pub traced : Plan → Machine Tracing → Ran Tracing
traced plan n = run tracer 0 plain (slot_of plan.schedule) plan.turns n

-- one that breaks no calm rule
abbrev pub IsCalm : Plan → List Row → Machine Watch → Type 0
IsCalm plan table m = (mounted plan table m).machine.tally.broken ≡ None

-- ---- both

module _ (plan : Plan) (table : List Row) (tree : Tree) (user : User) (launch : Launch) (input : List ℕ) where
  abbrev pub watched_start : Result (Machine Tracing) Errno
  watched_start = traced_beginning (texts_of table) tree user None launch input

  -- what a calm run comes to, all of it: the bytes of each turn, how it ended, the status, also where it is stuck or its turns are spent, and the
  -- nodes of the tree by their numbers, with serials; or the error of a start whose walks are calm
  abbrev pub IsToldToo : Result (Machine Watch) Errno → Type 0
  IsToldToo (Ok m) = IsCalm plan table m → (n : Machine Tracing) × (watched_start ≡ Ok n) × ComeAlike (mounted plan table m) (traced plan n)
  IsToldToo (Err e) = broken_at_start (beginning_reach table tree user Nobody launch) ≡ None → watched_start ≡ Err e

-- what a run and its words rest on
pub record CanBeTold (plan : Plan) (table : List Row) (tree : Tree) (user : User) (launch : Launch) (input : List ℕ) : Type 0 where
  pub opening : IsOpening tree user table
  pub words : IsOfByteWords launch
  pub input_bytes : AreBytes input
  pub few : plan.turns ≤ 2 ^ 31

-- so what a tracer does is what mounts do
abbrev pub MachinesAgree : Type 0
MachinesAgree =
    (plan : Plan) (table : List Row) (tree : Tree) (user : User) (launch : Launch) (input : List ℕ) → CanBeTold plan table tree user launch input
    → IsToldToo plan table tree user launch input (beginning table tree user Nobody launch input)
