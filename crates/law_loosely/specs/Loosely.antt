-- A loose run that a tracer watches, and the run over mounts whose slots are those of its turns.
use Rattle.std.specs.Prelude.{◌≡◌, ℕ, List, length, None, Ok}
use Rattle.law_machines.specs.pr_words.declared.launch.Launch.{Launch}
use Rattle.law_machines.specs.kr_inode.declared.user.User.{User}
use Rattle.law_machines.specs.kr_mounts.Standing.{texts_of}
use Rattle.law_machines.specs.kr_tree.Tree.{Tree, nodes}
use Rattle.law_machines.specs.kr_turns.Run.{Ran, Slot, run}
use Rattle.law_machines.specs.kr_turns.Turn.{Machine}
use Rattle.law_machines.specs.kr_view.View.{Row, plain}
use Rattle.law_machines.specs.pr_run.Report.{errs, outs}
use Rattle.law_machines.specs.pr_run.declared.plan.Plan.{Plan}
use Rattle.law_machines.specs.pr_start.Beginning.{beginning}
use Rattle.law_machines.specs.pr_start.Machines.{Nobody, Watch, watch}
use Rattle.law_machines.specs.pr_start.TracedBeginning.{Tracing, asks, start_meets, traced_beginning}
use Rattle.law_machines.specs.pr_top.Opening.{loose_traced_run}
use Rattle.law_machines.specs.Agreeing.{CanBeTold}
use Rattle.law_loose.specs.kr_loose.LooseRun.{LooseRan}
use Rattle.law_loose.specs.kr_loose.Quiet.{IsQuiet}
use Rattle.law_loose.specs.kr_loose.Slots.{slot_of_turn, slots_of_steps}

-- the slots of the turns for which it stands
abbrev pub image_of : {S : Type 0} → LooseRan S → List Slot
image_of ran = slots_of_steps ran.left.steps

-- the run over mounts by these slots, with as many turns
abbrev pub mounted_by : List Slot → List Row → Machine Watch → Ran Watch
mounted_by slots table m = run watch 1 table (slot_of_turn slots) (length slots) m

-- it breaks no calm rule, and its start breaks none
abbrev pub IsCalmBy : List Slot → List Row → Machine Watch → Type 0
IsCalmBy slots table m = (mounted_by slots table m).machine.tally.broken ≡ None

-- all that is told of both is the same, but for how the bytes are parted
pub record IsImageOf {S T : Type 0} (loose : LooseRan T) (ran : Ran S) : Type 0 where
  pub out : outs loose.puts ≡ outs ran.puts
  pub err : errs loose.puts ≡ errs ran.puts
  pub ending : loose.ending ≡ ran.ending
  pub status : loose.left.machine.tally.status ≡ ran.machine.tally.status
  pub trees : nodes loose.left.machine.state.tree ≡ nodes ran.machine.state.tree

-- so it is of a loose run that is quiet, where the run over mounts by its turns' slots is calm
abbrev pub LooseMachinesAgree : Type 0
LooseMachinesAgree =
    (plan : Plan) (table : List Row) (tree : Tree) (user : User) (launch : Launch) (input : List ℕ) → CanBeTold plan table tree user launch input
    → (m : Machine Watch) (n : Machine Tracing) → beginning table tree user Nobody launch input ≡ Ok m → traced_beginning (texts_of table) tree user None launch input ≡ Ok n
    → IsQuiet asks 0 plain (start_meets (texts_of table) tree user launch) (loose_traced_run plan n).left.steps → IsCalmBy (image_of (loose_traced_run plan n)) table m
    → IsImageOf (loose_traced_run plan n) (mounted_by (image_of (loose_traced_run plan n)) table m)
