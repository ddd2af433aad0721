-- Words with `--loose`: where the loose run is quiet, what is told of it is what is told of the run over mounts for which it stands.
use Rattle.std.specs.Prelude.{◌≡◌, ◌⊎◌, ℕ, Bool, true, false, List, ◌++◌, None, Ok}
use Rattle.law_loosely.specs.law_machines.pr_io.Drawn.{gave}
use Rattle.law_loosely.specs.law_machines.kr_inode.declared.user.User.{User}
use Rattle.law_loosely.specs.law_machines.pr_top.kr_text.Canonical.{canonical}
use Rattle.law_loosely.specs.law_machines.kr_tree.Tree.{nodes}
use Rattle.law_loosely.specs.law_machines.kr_turns.Run.{Ran}
use Rattle.law_loosely.specs.law_machines.kr_turns.Turn.{Machine}
use Rattle.law_loosely.specs.law_machines.kr_view.View.{Row, plain}
use Rattle.law_loosely.specs.law_machines.pr_run.Puts.{Got, GotPrefix}
use Rattle.law_loosely.specs.law_machines.pr_run.Report.{answer_of, errs, outs}
use Rattle.law_loosely.specs.law_machines.pr_run.Stepping.{loose_line}
use Rattle.law_loosely.specs.law_machines.pr_run.declared.plan.Plan.{Plan}
use Rattle.law_loosely.specs.law_machines.pr_sources.Asking.{asked}
use Rattle.law_loosely.specs.law_machines.pr_sources.Reading.{read_asked}
use Rattle.law_loosely.specs.law_machines.pr_sources.declared.answer.Answer.{Answer}
use Rattle.law_loosely.specs.law_machines.pr_sources.declared.answer.Answer.TheVariants.{WriteFault}
use Rattle.law_loosely.specs.law_machines.pr_sources.declared.answer.Which.TheVariants.{Left}
use Rattle.law_loosely.specs.law_machines.pr_sources.declared.reading.Asked.{Asked}
use Rattle.law_loosely.specs.law_machines.pr_start.Machines.{Watch}
use Rattle.law_loosely.specs.law_machines.pr_start.TracedBeginning.{Tracing, asks}
use Rattle.law_loosely.specs.law_machines.pr_top.Opening.{loose_traced_run}
use Rattle.law_loosely.specs.law_machines.pr_words.declared.options.Options.{Options}
use Rattle.law_loosely.specs.law_loose.kr_loose.LooseRun.{LooseRan}
use Rattle.law_loosely.specs.law_loose.kr_loose.Quiet.{IsQuiet}
use Rattle.law_loosely.specs.Loosely.{IsCalmBy, image_of, mounted_by}
use Rattle.law_loosely.specs.LooseWords.{BeginLoosely}
use Rattle.pr_call.specs.Promise.{EndsEarly, Passed, TellsRun}

-- what words ask for of the bytes of sources: not for a generated case, not for mounts, and not for an identity
pub record AsksUntold (words : List (List ℕ)) (tree elf input : List ℕ) (a : Asked) : Type 0 where
  pub options : Options
  pub asks : asked words ≡ Ok options
  pub gives : read_asked options tree elf input ≡ Ok a
  pub own : options.case ≡ None
  pub watched : options.native ≡ false
  pub untold : options.ids ≡ None

-- it begins a loose run that is quiet, and over mounts a machine whose run by the slots of the loose one's turns breaks no calm rule, its start included
pub record BeginsQuietly (a : Asked) (plan : Plan) (n : Machine Tracing) (table : List Row) (m : Machine Watch) : Type 0 where
  pub met : Bool
  pub own : Plan
  pub begin : BeginLoosely a plan met n own table m
  pub quiet : IsQuiet asks 0 plain met (loose_traced_run plan n).left.steps
  pub calm : IsCalmBy (image_of (loose_traced_run plan n)) table m

pub record OpensQuietly (words : List (List ℕ)) (tree elf input : List ℕ) (plan : Plan) (n : Machine Tracing) (table : List Row) (m : Machine Watch) : Type 0 where
  pub asked_for : Asked
  pub loosely : AsksUntold words tree elf input asked_for
  pub begins : BeginsQuietly asked_for plan n table m

-- what is told of a loose run is the answer of this run over mounts, or want of memory or a fault ends it earlier. Where it tells a whole run, all bytes of
-- this one's turns were put, in their order, and its listing, and the nodes of both trees are the same; and however it ends, what was put begins these bytes
pub record TellsImage (loose : LooseRan Tracing) (ran : Ran Watch) (user : User) (p : Passed) (answer : Answer) : Type 0 where
  pub answered : (answer ≡ answer_of ran.ending ran.machine.tally.status) ⊎ EndsEarly answer
  pub out : TellsRun answer → Got p.out (outs ran.puts)
  pub err : TellsRun answer → Got p.err (errs ran.puts ++ loose_line true)
  pub listing : TellsRun answer → Got p.left (canonical ran.machine.state.tree user)
  pub trees : TellsRun answer → nodes loose.left.machine.state.tree ≡ nodes ran.machine.state.tree
  pub out_begins : GotPrefix p.out (outs ran.puts)
  pub err_begins : GotPrefix p.err (errs ran.puts ++ loose_line true)
  pub left_begins : answer ≡ WriteFault Left → GotPrefix p.left (canonical ran.machine.state.tree user)

-- of what begins so
abbrev pub TellsLoosely : Plan → Machine Tracing → List Row → Machine Watch → Passed → Answer → Type 0
TellsLoosely plan n table m p answer = TellsImage (loose_traced_run plan n) (mounted_by (image_of (loose_traced_run plan n)) table m) plan.user p answer

-- the claim: so it is of what the bytes that were given open
abbrev pub LooseHeadline : List (List ℕ) → Passed → Answer → Type 0
LooseHeadline words p answer =
    (plan : Plan) (n : Machine Tracing) (table : List Row) (m : Machine Watch) → OpensQuietly words (gave p.sources.tree) (gave p.sources.elf) (gave p.sources.input) plan n table m
    → TellsLoosely plan n table m p answer
