-- The words in which the top call says what it answers, what the sources gave, and what the sinks got.
use Rattle.std.specs.Prelude.{◌≡◌, ◌⊎◌, ℕ, Bool, List, Result, Ok, Err}
use Rattle.law_loosely.specs.law_machines.pr_io.Drawn.{Received, SinkFailed, SourceFailed, drawn, gave, received}
use Rattle.law_loosely.specs.law_machines.pr_io.declared.sink.Sink.{Ghosts as OfSink}
use Rattle.law_loosely.specs.law_machines.pr_io.declared.source.Source.{Ghosts as OfSource}
use Rattle.law_loosely.specs.law_machines.pr_sources.declared.answer.Answer.{Answer}
use Rattle.law_loosely.specs.law_machines.pr_sources.declared.answer.Answer.TheVariants.{Ended, Deadlock, Spent, Usage, TooLong, TreeBad, BadBind, NoStart, ReadFault, WriteFault, NoMemory}
use Rattle.law_loosely.specs.law_machines.pr_sources.declared.answer.Which.TheVariants.{Out, Err as ErrSink, Left}
use Rattle.law_loosely.specs.law_machines.pr_sources.Reading.{AllAreRead, IsReadUpTo, Sources}
use Rattle.law_loosely.specs.law_machines.pr_sources.Within.{IsEarly}
use Rattle.law_loosely.specs.law_machines.pr_run.Report.{Report}
use Rattle.law_loosely.specs.law_machines.pr_run.Puts.{Got, GotNone, GotPrefix, PutsTurns, StopsBetween, StopsInCalm, StopsInErr, StopsInOut}
use Rattle.law_loosely.specs.law_machines.pr_run.Stepping.{TellsQuiet, loose_report}
use Rattle.law_loosely.specs.law_machines.pr_run.declared.plan.Plan.{Plan}
use Rattle.law_loosely.specs.law_machines.kr_turns.Run.{Put}
use Rattle.law_loosely.specs.law_machines.kr_view.View.{plain}
use Rattle.law_loosely.specs.law_machines.pr_start.TracedBeginning.{asks}
use Rattle.law_loosely.specs.law_machines.pr_top.Opening.{Begun, Loosely, Started, loose_traced_run, opening, report, report_on}

-- what passed in a call: what the sources gave, and what the sinks got
pub record Passed : Type 0 where
  pub sources : Sources
  pub out : Received
  pub err : Received
  pub left : Received

-- by what their ghost members say of each before and after
module _ {T E I O R L : Type 0} where
  abbrev pub passed : OfSource T → T → T → OfSource E → E → E → OfSource I → I → I → OfSink O → O → O → OfSink R → R → R → OfSink L → L → L → Passed
  passed of_tree tree tree' of_elf elf elf' of_input input input' of_out out out' of_err err err' of_left left left' = record {
    sources = record { tree = drawn of_tree tree tree'; elf = drawn of_elf elf elf'; input = drawn of_input input input' };
    out = received of_out out out';
    err = received of_err err err';
    left = received of_left left left';
  }

-- what the words open, of the bytes that were given
abbrev pub opened_by : List (List ℕ) → Sources → Result Begun Answer
opened_by words s = opening words (gave s.tree) (gave s.elf) (gave s.input)

-- ---- kinds of answers

-- answers that tell a whole run
abbrev pub TellsRun : Answer → Type 0
TellsRun (Ended status) = Unit {0}
TellsRun Deadlock = Unit {0}
TellsRun Spent = Unit {0}
TellsRun answer = ⊥

-- refusals before the run
abbrev pub Refuses : Answer → Type 0
Refuses (Usage word why) = Unit {0}
Refuses (TooLong which) = Unit {0}
Refuses (TreeBad line why) = Unit {0}
Refuses (BadBind index why) = Unit {0}
Refuses (NoStart errno) = Unit {0}
Refuses answer = ⊥

-- answers that come before the run: a refusal, or a fault of a source
abbrev pub ComesBeforeRun : Answer → Type 0
ComesBeforeRun (Usage word why) = Unit {0}
ComesBeforeRun (TooLong which) = Unit {0}
ComesBeforeRun (TreeBad line why) = Unit {0}
ComesBeforeRun (BadBind index why) = Unit {0}
ComesBeforeRun (NoStart errno) = Unit {0}
ComesBeforeRun (ReadFault which) = Unit {0}
ComesBeforeRun answer = ⊥

-- want of memory, or a fault of what was handed in
abbrev pub EndsEarly : Answer → Type 0
EndsEarly NoMemory = Unit {0}
EndsEarly (ReadFault which) = Unit {0}
EndsEarly (WriteFault which) = Unit {0}
EndsEarly answer = ⊥

-- ---- what is answered, and what the sinks got

-- no sink got a byte
pub record NothingIsPut (p : Passed) : Type 0 where
  pub out_stays : GotNone p.out
  pub err_stays : GotNone p.err
  pub left_stays : GotNone p.left

-- this report, whole; or want of memory or a fault, and what was put before it
pub record IsReported (told : Report) (p : Passed) (answer : Answer) : Type 0 where
  pub answered : (answer ≡ told.answer) ⊎ EndsEarly answer
  pub turns : TellsRun answer → PutsTurns told p.out p.err
  pub listing : TellsRun answer → Got p.left told.left
  pub out_stops : answer ≡ WriteFault Out → StopsInOut told.puts p.out p.err
  pub err_stops : answer ≡ WriteFault ErrSink → StopsInErr told.puts p.out p.err ⊎ StopsInCalm told p.out p.err
  pub left_stops : answer ≡ WriteFault Left → PutsTurns told p.out p.err × GotPrefix p.left told.left
  pub memory_stops : answer ≡ NoMemory → StopsBetween told.puts p.out p.err ⊎ PutsTurns told p.out p.err

-- this refusal, or a fault of a source or want of memory, and nothing is put
pub record IsRefused (refusal : Answer) (p : Passed) (answer : Answer) : Type 0 where
  pub answered : (answer ≡ refusal) ⊎ IsEarly answer
  pub kind : ComesBeforeRun answer ⊎ (answer ≡ NoMemory)
  pub nothing : NothingIsPut p

-- it ended before the last of its steps was made and put
abbrev pub EndsInSteps : List Put → Passed → Answer → Type 0
EndsInSteps puts p (WriteFault Out) = StopsInOut puts p.out p.err
EndsInSteps puts p (WriteFault ErrSink) = StopsInErr puts p.out p.err
EndsInSteps puts p NoMemory = StopsBetween puts p.out p.err
EndsInSteps puts p (ReadFault which) = Unit {0}
EndsInSteps puts p answer = ⊥

-- this report of a loose run, with a line that is so of its steps, unless none of the line was due yet
pub record IsReportedLoosely (told : Bool → Report) (Is : Bool → Type 0) (p : Passed) (answer : Answer) : Type 0 where
  pub quiet : Bool
  pub reported : IsReported (told quiet) p answer
  pub line : EndsInSteps (told quiet).puts p answer ⊎ Is quiet

-- what begins is told by its report
abbrev pub TellsStarted : Plan → Started → Passed → Answer → Type 0
TellsStarted plan (Loosely met m) p answer = IsReportedLoosely (loose_report plan (loose_traced_run plan m)) (TellsQuiet asks 0 plain met (loose_traced_run plan m)) p answer
TellsStarted plan s p answer = IsReported (report_on plan s) p answer

-- what is opened is told: the report of the run that begins, or the refusal
abbrev pub TellsOpening : Result Begun Answer → Passed → Answer → Type 0
TellsOpening (Ok b) p answer = TellsStarted b.plan b.started p answer
TellsOpening (Err refusal) p answer = IsRefused refusal p answer

-- what is told is that of what the bytes that were given open
abbrev pub IsTold : List (List ℕ) → Passed → Answer → Type 0
IsTold words p answer = TellsOpening (opened_by words p.sources) p answer

-- ---- what was read to its end

-- each source whose stage was passed; where memory runs out, all that a run needs once a sink got a byte
abbrev pub IsReadThrough : Passed → Answer → Type 0
IsReadThrough p NoMemory = NothingIsPut p ⊎ AllAreRead p.sources
IsReadThrough p answer = IsReadUpTo p.sources answer

-- ---- without a fault

-- no count of faults rose
pub record NoneFailed (p : Passed) : Type 0 where
  pub tree_works : SourceFailed p.sources.tree → ⊥
  pub elf_works : SourceFailed p.sources.elf → ⊥
  pub input_works : SourceFailed p.sources.input → ⊥
  pub out_works : SinkFailed p.out → ⊥
  pub err_works : SinkFailed p.err → ⊥
  pub left_works : SinkFailed p.left → ⊥

-- the refusal, or the answer of the report
abbrev pub IsAnswerOf : Result Begun Answer → Answer → Type 0
IsAnswerOf (Ok b) answer = answer ≡ (report b).answer
IsAnswerOf (Err refusal) answer = answer ≡ refusal

-- then it is answered, want of memory aside
abbrev pub IsComplete : List (List ℕ) → Passed → Answer → Type 0
IsComplete words p answer = NoneFailed p → IsAnswerOf (opened_by words p.sources) answer ⊎ (answer ≡ NoMemory)
