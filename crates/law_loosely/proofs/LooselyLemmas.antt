-- A quiet loose run comes to what the watched run by its turns' slots comes to, and that to what the run over mounts comes to.
use Rattle.std.proofs.Common.{◌≡◌, ◌+◌, ◌++◌, ◌≤◌, ℕ, Bool, List, [], ◌∷◌, length, None, refl, sym, ap, ◌∙◌, arith}
use Rattle.std.specs.Prelude.{Ok}
use Rattle.law_machines.specs.kr_inode.declared.user.User.{User}
use Rattle.law_machines.specs.kr_mounts.Standing.{texts_of}
use Rattle.law_machines.specs.kr_tree.Tree.{Tree, nodes}
use Rattle.law_machines.specs.kr_turns.Run.{Put, Ran, Slot, run}
use Rattle.law_machines.specs.kr_turns.Turn.{Machine}
use Rattle.law_machines.specs.kr_view.View.{Row, plain}
use Rattle.law_machines.specs.pr_run.Report.{errs, outs}
use Rattle.law_machines.specs.pr_run.Slots.{slot_of}
use Rattle.law_machines.specs.pr_run.declared.plan.Plan.{Plan}
use Rattle.law_machines.specs.pr_start.Beginning.{beginning}
use Rattle.law_machines.specs.pr_start.Machines.{Nobody, Watch}
use Rattle.law_machines.specs.pr_start.TracedBeginning.{Tracing, asks, start_meets, traced_beginning, tracer}
use Rattle.law_machines.specs.pr_top.Opening.{loose_traced_run}
use Rattle.law_machines.specs.pr_words.declared.launch.Launch.{Launch}
use Rattle.law_machines.specs.Agreeing.{CanBeTold}
use Rattle.law_machines.specs.law_turns.pt_args.Laws.{ShelvesHoldTheirItems, TextsAreReadBack}
use Rattle.law_loosely.specs.Turnwise.{GoesAlong}
use Rattle.law_loosely.proofs.TurnwiseLemmas.{calm-runs-last}
use Rattle.law_loosely.specs.Staying.{IsGood, IsTame}
use Rattle.law_entries.specs.Lasting.{StaysFor}
use Rattle.law_entries.specs.Traced.{TellsNoIdentity, TracersAreLocal}
use Rattle.law_loose.specs.kr_loose.LooseRun.{LooseRan, loosened}
use Rattle.law_loose.specs.kr_loose.Quiet.{IsQuiet}
use Rattle.law_loose.specs.kr_loose.Slots.{slot_of_turn, slots_of_steps}
use Rattle.law_loose.specs.Images.{CanBegin, ComeToSame, all_err, all_out}
use Rattle.law_loosely.proofs.SceneLemmas.{traced-runs-are-their-images}
use Rattle.law_entries.proofs.MarkLemmas.{tracers-mark-nothing}
use Rattle.law_loose.proofs.kr_loose.MarkTurnLemmas.{runs-mark-nothing}
use Rattle.law_loosely.specs.Loosely.{IsCalmBy, IsImageOf, LooseMachinesAgree, image_of, mounted_by}
use Rattle.law_loosely.proofs.FewLemmas.{loosely-few}
use Rattle.law_loosely.proofs.FreshStartLemmas.{BeginsFresh, begins-fresh}

-- ---- bytes, by either way of gathering them

all-outs : (puts : List Put) → all_out puts ≡ outs puts
all-outs [] = refl
all-outs (put ∷ puts) = ap (λ rest. put.out ++ rest) (all-outs puts)

all-errs : (puts : List Put) → all_err puts ≡ errs puts
all-errs [] = refl
all-errs (put ∷ puts) = ap (λ rest. put.err ++ rest) (all-errs puts)

-- ---- a loose run and its image

module _ (back : TextsAreReadBack) (shelves : ShelvesHoldTheirItems) (local : TracersAreLocal) (plan : Plan) (table : List Row) (tree : Tree) (user : User) (launch : Launch) (input : List ℕ) (can : CanBeTold plan table tree user launch input)
    (m : Machine Watch) (n : Machine Tracing) (begins : beginning table tree user Nobody launch input ≡ Ok m) (traced : traced_beginning (texts_of table) tree user None launch input ≡ Ok n) where
  abbrev met : Bool
  met = start_meets (texts_of table) tree user launch

  abbrev loose : LooseRan Tracing
  loose = loose_traced_run plan n

  abbrev image : List Slot
  image = image_of loose

  -- the watched run by the same slots
  abbrev turns : Ran Tracing
  turns = run tracer 0 plain (slot_of_turn image) (length image) n

  few-turns : length image ≤ plan.turns
  few-turns =
      let few : length (slots_of_steps loose.left.steps) ≤ length (slots_of_steps (loosened n).steps) + plan.turns = loosely-few tracer 0 plain (slot_of plan.schedule) plan.turns 0 (loosened n) in
      let none : length (slots_of_steps (loosened n).steps) ≡ 0 = refl in
      omega (arith, few, none)

  fresh : BeginsFresh met n
  fresh = begins-fresh (texts_of table) tree user launch input n traced

  -- ---- both in one

  along : IsCalmBy image table m → GoesAlong table (slot_of_turn image) (length image) m n
  along calm = calm-runs-last back shelves plan table tree user launch input can m n begins traced (slot_of_turn image) (length image) few-turns calm

  can-begin : IsQuiet asks 0 plain met loose.left.steps → CanBegin TellsNoIdentity IsTame n
  can-begin quiet = record {
    cleared = record { out = fresh.fresh.out; err = fresh.fresh.err };
    go = fresh.fresh.go;
    fits_watcher = fresh.untold;
    tame = record { none = fresh.untold; nodes = fresh.nodes quiet.start };
  }

  good-at : IsCalmBy image table m → (made : ℕ) → made ≤ length image → IsGood (run tracer 0 plain (slot_of_turn image) made n).machine
  good-at calm made less = record {
    lawful = ((along calm).lasts made less).lasts.lawful;
    unmarked = runs-mark-nothing Tracing tracer tracers-mark-nothing plain (slot_of_turn image) made n fresh.fresh.unmarked;
  }

  come-to-same : IsQuiet asks 0 plain met loose.left.steps → IsCalmBy image table m → ComeToSame turns loose
  come-to-same quiet calm = traced-runs-are-their-images local (slot_of plan.schedule) plan.turns met n (can-begin quiet) quiet (good-at calm)

  agree : IsQuiet asks 0 plain met loose.left.steps → IsCalmBy image table m → IsImageOf loose (mounted_by image table m)
  agree quiet calm =
      let come : ComeToSame turns loose = come-to-same quiet calm in
      let alike = (along calm).alike in
      record {
        out = sym (all-outs loose.puts) ∙ come.out ∙ all-outs turns.puts ∙ sym (ap outs alike.puts);
        err = sym (all-errs loose.puts) ∙ come.err ∙ all-errs turns.puts ∙ sym (ap errs alike.puts);
        ending = come.ending ∙ sym alike.endings;
        status = come.status ∙ sym alike.statuses;
        trees = ap nodes come.tree ∙ sym alike.trees;
      }

pub loose-machines-agree : TextsAreReadBack → ShelvesHoldTheirItems → TracersAreLocal → LooseMachinesAgree
loose-machines-agree back shelves local plan table tree user launch input can m n begins traced quiet calm = agree back shelves local plan table tree user launch input can m n begins traced quiet calm
