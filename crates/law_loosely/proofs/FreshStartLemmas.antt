-- How a run begins that a tracer watches without an identity.
use Rattle.std.proofs.Common.{◌≡◌, ℕ, Bool, not, true, false, List, None, refl, subst}
use Rattle.std.specs.Prelude.{Result, Ok, Err}
use Rattle.law_machines.specs.kr_inode.declared.user.User.{User}
use Rattle.law_machines.specs.kr_tree.Tree.{Tree}
use Rattle.law_machines.specs.kr_turns.Turn.{Machine}
use Rattle.law_machines.specs.kr_view.View.{plain}
use Rattle.law_machines.specs.pr_top.pr_base.MountText.{MountText}
use Rattle.law_machines.specs.pr_top.pr_base.declared.errno.Errno.{Errno}
use Rattle.law_machines.specs.pr_words.declared.launch.Launch.{Launch}
use Rattle.law_machines.specs.pr_start.TracedBeginning.{Tracing, begun_as, begun_met, fresh, start_meets, texts_before, traced_beginning, tracing_of}
use Rattle.law_machines.specs.pr_start.kr_first.Starting.{start_of}
use Rattle.law_machines.specs.pr_start.pt_first.GuestStart.{guest_start, noting, start_unmet}
use Rattle.law_machines.specs.pr_start.pt_first.declared.begun.Begun.{Begun}
use Rattle.law_loose.specs.kr_model.State.{Image, State}
use Rattle.law_loose.specs.kr_model.Walks.{and_then}
use Rattle.law_loosely.specs.Fresh.{IsFresh}
use Rattle.law_loose.specs.law_beside.Opened.{StandOnNodes}
use Rattle.law_loosely.proofs.FreshLemmas.{starts_are_fresh}

-- nothing was put, no process stays at a call and no byte is marked; no identity is told; and where its walks looked up no name in the process directory,
-- nothing of it is in use
pub record BeginsFresh (met : Bool) (n : Machine Tracing) : Type 0 where
  pub fresh : IsFresh n.state
  pub untold : n.watcher.identities ≡ None
  pub nodes : met ≡ false → StandOnNodes n.state

module _ (bindings : List MountText) (tree : Tree) (user : User) (launch : Launch) (input : List ℕ) (n : Machine Tracing) where
  started-fresh : (met : Bool) (b : Begun) → begun_as bindings tree user None input b ≡ Ok n → BeginsFresh (begun_met tree user met (Ok b)) n
  started-fresh met b e = by (start_of plain tree user input b.first) refl e
    where
      by : (r : Result (State ℕ Image) Errno) → start_of plain tree user input b.first ≡ r → and_then r (λ s. Ok (fresh (tracing_of bindings tree user None b) s)) ≡ Ok n → BeginsFresh (begun_met tree user met (Ok b)) n
      by (Err why) is e = absurd cc
      by (Ok s) is e =
          let same : fresh (tracing_of bindings tree user None b) s ≡ n = cc in
          subst (λ (n : Machine Tracing). BeginsFresh (begun_met tree user met (Ok b)) n) same
          (record {
            fresh = starts_are_fresh.fresh plain tree user input b.first s is;
            untold = refl;
            nodes = λ unmet. starts_are_fresh.nodes plain tree user input (noting met b.first) s is unmet;
          })

  pub begins-fresh : traced_beginning bindings tree user None launch input ≡ Ok n → BeginsFresh (start_meets bindings tree user launch) n
  begins-fresh e = by (guest_start (texts_before bindings tree user) launch) e
    where
      by : (r : Result Begun Errno) → and_then r (begun_as bindings tree user None input) ≡ Ok n → BeginsFresh (begun_met tree user (not (start_unmet (texts_before bindings tree user) launch true)) r) n
      by (Err why) e = absurd cc
      by (Ok b) e = started-fresh (not (start_unmet (texts_before bindings tree user) launch true)) b e
