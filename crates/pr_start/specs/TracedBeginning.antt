-- The start of a run that a tracer watches: the working directory, the command and the program are found in guest terms, before a process
-- lives; then the first process begins on the plain kernel, which is handed host texts.
use Rattle.std.specs.FinMap as map
use Rattle.std.specs.Prelude.{◌≡◌, ℕ, not, Bool, true, false, List, Option, None, Result, Ok, Err}
use Rattle.pt_tracer.specs.pr_base.MountText.{MountText}
use Rattle.pt_tracer.specs.pr_base.declared.errno.Errno.{Errno}
use Rattle.pt_tracer.specs.kr_inode.declared.user.User.{User}
use Rattle.kr_core.specs.kr_tree.Tree.{Tree}
use Rattle.kr_core.specs.kr_view.View.{plain}
use Rattle.kr_core.specs.kr_view.declared.view.Plain.{Plain}
use Rattle.kr_core.specs.kr_view.declared.view.HostMount.{HostMount}
use Rattle.kr_core.specs.kr_model.State.{Image, State}
use Rattle.kr_core.specs.kr_model.Walks.{and_then}
use Rattle.kr_core.specs.kr_first.Starting.{start_of, start_reach}
use Rattle.kr_core.specs.kr_first.declared.starting.StartFault.{StartFault}
use Rattle.kr_core.specs.kr_first.declared.starting.StartFault.TheVariants as fault
use Rattle.kr_core.specs.Runs.{Machine}
use Rattle.kr_core.specs.Kernel as kernel
use Rattle.kr_core.specs.Kernel.{HasNoTurn, machine_by}
use Rattle.pt_tracer.specs.pt_canon.TextWalk.{TextSurroundings}
use Rattle.pt_first.specs.FirstPeeks.{first_peeked}
use Rattle.pt_first.specs.GuestStart.{guest_start, noting, start_unmet, tagged}
use Rattle.pt_first.specs.declared.begun.Begun.{Begun}
use Rattle.pt_first.specs.pr_words.declared.launch.Launch.{Launch}
use Rattle.pt_tracer.specs.Keeping.{Keeping}
use Rattle.pt_tracer.specs.Watched.{starting_tracing}
pub use Rattle.pt_tracer.specs.Watched.{Tracing, asks, tracer}

-- the one mount of a plain kernel
abbrev pub host_number : HostMount → ℕ
host_number m = 0

-- what a tracer's walks go by before a process lives: there are no tags yet
abbrev pub texts_before : List MountText → Tree → User → TextSurroundings
texts_before bindings tree user = record { bindings = bindings; peeked = first_peeked tree user; tags = map.empty }

-- before the first turn. No rule is judged on a machine with a tracer
abbrev pub fresh : Tracing → State ℕ Image → Machine Tracing
fresh tracing s = record { state = s; watcher = tracing; tally = record { status = 0; broken = None } }

module _ (bindings : List MountText) (tree : Tree) (user : User) (ids : Option (ℕ × ℕ)) where
  -- the tracer has the tags of the first process
  abbrev pub tracing_of : Begun → Tracing
  tracing_of b = starting_tracing bindings (tagged map.empty b) user ids

  abbrev pub begun_as : List ℕ → Begun → Result (Machine Tracing) Errno
  begun_as input b = and_then (start_of plain tree user input b.first) (λ s. Ok (fresh (tracing_of b) s))

  abbrev pub traced_beginning : Launch → List ℕ → Result (Machine Tracing) Errno
  traced_beginning launch input = and_then (guest_start (texts_before bindings tree user) launch) (begun_as input)

-- whether its walks look up a name in the process directory
abbrev pub begun_met : Tree → User → (met : Bool) → Result Begun Errno → Bool
begun_met tree user met (Ok b) = (start_reach plain tree user (noting met b.first)).met_proc
begun_met tree user met (Err e) = false

abbrev pub start_meets : List MountText → Tree → User → Launch → Bool
start_meets bindings tree user launch = let texts = texts_before bindings tree user in begun_met tree user (not (start_unmet texts launch true)) (guest_start texts launch)

-- a plain kernel with its tracer, and its machine with the part of what the tracer keeps of which the definition speaks
abbrev pub TracedKernel : Type 0
TracedKernel = kernel.Kernel Plain Keeping HostMount 0

abbrev pub traced_machine : TracedKernel → Machine Tracing
traced_machine k = machine_by host_number (λ keeping. keeping.tracing) k

-- a kernel begins as the definition says, before its first turn, or its error is answered, but for want of memory
abbrev pub BeginsTraced : Result (Machine Tracing) Errno → Result TracedKernel StartFault → Type 0
BeginsTraced answer (Ok k) = (answer ≡ Ok (traced_machine k)) × HasNoTurn k
BeginsTraced answer (Err (fault.Err e)) = answer ≡ Err e
BeginsTraced answer (Err fault.NoMemory) = Unit {0}
