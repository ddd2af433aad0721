-- What an answer of a report says in the words of the top call.
use Rattle.std.proofs.Common.{◌≡◌, ◌⊎◌, inl, inr, ℕ, List, sym, subst, ◌∙◌}
use Rattle.std.specs.Prelude.{Result, Ok, Err}
use Rattle.law_loosely.specs.law_machines.pr_sources.declared.answer.Answer.{Answer}
use Rattle.law_loosely.specs.law_machines.pr_sources.declared.answer.Answer.TheVariants.{Ended, Deadlock, Spent, Usage, TooLong, TreeBad, BadBind, NoStart, ReadFault, WriteFault, NoMemory}
use Rattle.law_loosely.specs.law_machines.pr_sources.declared.answer.Which.{Which}
use Rattle.law_loosely.specs.law_machines.pr_sources.declared.answer.Which.TheVariants.{Tree as TreeSource, Elf, Input, Out, Err as ErrSink, Left}
use Rattle.law_loosely.specs.law_machines.pr_sources.Reading.{EndsBeforeElf, EndsBeforeInput}
use Rattle.law_loosely.specs.law_machines.pr_run.Report.{Deadlock as AllWait, Ending, Over, Report, Spent as NoTurnIsLeft, answer_of}
use Rattle.law_loosely.specs.law_machines.pr_run.Puts.{AnswersReport, Got, GotPrefix, PutsReport, PutsTurns, StopsBetween, StopsInCalm, StopsInErr, StopsInOut, answer_told, stop_answer}
use Rattle.law_loosely.specs.law_machines.pr_run.declared.plan.Plan.{Plan}
use Rattle.law_loosely.specs.law_machines.pr_run.declared.turns.Stop.{Stop}
use Rattle.law_loosely.specs.law_machines.pr_run.declared.turns.Stop.TheVariants as stop
use Rattle.law_loosely.specs.law_machines.pr_run.Stepping.{StopsInSteps, TellsQuiet, loose_report}
use Rattle.law_loosely.specs.law_machines.pr_io.Drawn.{Received}
use Rattle.law_loosely.specs.law_machines.kr_turns.Run.{Put}
use Rattle.law_loosely.specs.law_machines.kr_view.View.{plain}
use Rattle.law_loosely.specs.law_machines.pr_start.TracedBeginning.{asks}
use Rattle.law_loosely.specs.law_machines.pr_top.Opening.{AnswersBegun, AnswersStarted, Begun, Both, Loosely, Mounts, OpensFrom, Started, Traced, begun_told, loose_traced_run, mounted_run, report_on, started_told, traced_run}
use Rattle.pr_call.specs.Promise.{ComesBeforeRun, EndsEarly, EndsInSteps, IsReported, Passed, Refuses, TellsOpening, TellsRun, TellsStarted}
use Rattle.law_loosely.specs.law_machines.pr_top.declared.opening.Opened.{Opened}

-- a report's own answer tells a run, on both machines
answer-tells : (e : Ending) (status : ℕ) → TellsRun (answer_of e status)
answer-tells Over status = tt
answer-tells AllWait status = tt
answer-tells NoTurnIsLeft status = tt

of-told : (P : Answer → Type 0) → ((status : ℕ) → P (Ended status)) → P Deadlock → P Spent → (a : Answer) → TellsRun a → P a
of-told P ended deadlock spent (Ended status) tells = ended status
of-told P ended deadlock spent Deadlock tells = deadlock
of-told P ended deadlock spent Spent tells = spent
of-told P ended deadlock spent (Usage word why) tells = absurd tells
of-told P ended deadlock spent (TooLong which) tells = absurd tells
of-told P ended deadlock spent (TreeBad line why) tells = absurd tells
of-told P ended deadlock spent (BadBind index why) tells = absurd tells
of-told P ended deadlock spent (NoStart errno) tells = absurd tells
of-told P ended deadlock spent (ReadFault which) tells = absurd tells
of-told P ended deadlock spent (WriteFault which) tells = absurd tells
of-told P ended deadlock spent NoMemory tells = absurd tells

-- it is none of these, nor is the answer of a stop
abbrev IsNone : (Answer → Type 0) → Answer → Type 0
IsNone P a = P a → ⊥

abbrev NoStop : (Answer → Type 0) → Type 0
NoStop P = (s : Stop) → P (stop_answer s) → ⊥

no-stop-refuses : NoStop Refuses
no-stop-refuses stop.Out p = p
no-stop-refuses stop.Err p = p
no-stop-refuses stop.Left p = p
no-stop-refuses stop.NoMemory p = p

no-stop-before : NoStop ComesBeforeRun
no-stop-before stop.Out p = p
no-stop-before stop.Err p = p
no-stop-before stop.Left p = p
no-stop-before stop.NoMemory p = p

no-stop-tells : NoStop TellsRun
no-stop-tells stop.Out p = p
no-stop-tells stop.Err p = p
no-stop-tells stop.Left p = p
no-stop-tells stop.NoMemory p = p

no-stop-early : NoStop EndsBeforeInput
no-stop-early stop.Out p = p
no-stop-early stop.Err p = p
no-stop-early stop.Left p = p
no-stop-early stop.NoMemory p = p

no-stop-before-elf : NoStop EndsBeforeElf
no-stop-before-elf stop.Out p = p
no-stop-before-elf stop.Err p = p
no-stop-before-elf stop.Left p = p
no-stop-before-elf stop.NoMemory p = p

no-stop-tree : NoStop (λ a. a ≡ WriteFault TreeSource)
no-stop-tree stop.Out e = absurd cc
no-stop-tree stop.Err e = absurd cc
no-stop-tree stop.Left e = absurd cc
no-stop-tree stop.NoMemory e = absurd cc

no-stop-elf : NoStop (λ a. a ≡ WriteFault Elf)
no-stop-elf stop.Out e = absurd cc
no-stop-elf stop.Err e = absurd cc
no-stop-elf stop.Left e = absurd cc
no-stop-elf stop.NoMemory e = absurd cc

no-stop-input : NoStop (λ a. a ≡ WriteFault Input)
no-stop-input stop.Out e = absurd cc
no-stop-input stop.Err e = absurd cc
no-stop-input stop.Left e = absurd cc
no-stop-input stop.NoMemory e = absurd cc

module _ (own : Report) (own-tells : TellsRun own.answer) (p : Passed) {a : Answer} (answers : AnswersReport own p.out p.err p.left a) where
  abbrev Puts : Result Answer Stop → Type 0
  Puts t = PutsReport own p.out p.err p.left t

  none-of : (P : Answer → Type 0) → IsNone P own.answer → NoStop P → (t : Result Answer Stop) → Puts t → a ≡ answer_told t → P a → ⊥
  none-of P no-answer no-stop (Ok answer) puts e holds = no-answer (subst P (e ∙ puts.0) holds)
  none-of P no-answer no-stop (Err s) puts e holds = no-stop s (subst P e holds)

  own-refuses-not : Refuses a → ⊥
  own-refuses-not = none-of Refuses (of-told (IsNone Refuses) (λ status p. p) (λ p. p) (λ p. p) own.answer own-tells) no-stop-refuses answers.told answers.puts answers.answer_is

  own-comes-after : ComesBeforeRun a → ⊥
  own-comes-after = none-of ComesBeforeRun (of-told (IsNone ComesBeforeRun) (λ status p. p) (λ p. p) (λ p. p) own.answer own-tells) no-stop-before answers.told answers.puts answers.answer_is

  own-read-input : EndsBeforeInput a → ⊥
  own-read-input = none-of EndsBeforeInput (of-told (IsNone EndsBeforeInput) (λ status p. p) (λ p. p) (λ p. p) own.answer own-tells) no-stop-early answers.told answers.puts answers.answer_is

  own-read-elf : EndsBeforeElf a → ⊥
  own-read-elf = none-of EndsBeforeElf (of-told (IsNone EndsBeforeElf) (λ status p. p) (λ p. p) (λ p. p) own.answer own-tells) no-stop-before-elf answers.told answers.puts answers.answer_is

  no-write-fault : (which : Which) → NoStop (λ b. b ≡ WriteFault which) → a ≡ WriteFault which → ⊥
  no-write-fault which no-stop =
      none-of (λ b. b ≡ WriteFault which) (of-told (IsNone (λ b. b ≡ WriteFault which)) (λ status e. absurd cc) (λ e. absurd cc) (λ e. absurd cc) own.answer own-tells) no-stop answers.told answers.puts answers.answer_is

  -- a source is no sink
  own-no-source : (a ≡ WriteFault TreeSource → ⊥) × (a ≡ WriteFault Elf → ⊥) × (a ≡ WriteFault Input → ⊥)
  own-no-source = (no-write-fault TreeSource no-stop-tree, no-write-fault Elf no-stop-elf, no-write-fault Input no-stop-input)

  stop-ends : (s : Stop) → EndsEarly (stop_answer s)
  stop-ends stop.Out = tt
  stop-ends stop.Err = tt
  stop-ends stop.Left = tt
  stop-ends stop.NoMemory = tt

  answered-as : (t : Result Answer Stop) → Puts t → a ≡ answer_told t → (a ≡ own.answer) ⊎ EndsEarly a
  answered-as (Ok answer) puts e = inl (e ∙ puts.0)
  answered-as (Err s) puts e = inr (subst EndsEarly (sym e) (stop-ends s))

  put-as : (t : Result Answer Stop) → Puts t → a ≡ answer_told t → TellsRun a → PutsTurns own p.out p.err × Got p.left own.left
  put-as (Ok answer) puts e tells = (puts.1, puts.2)
  put-as (Err s) puts e tells = absurd (no-stop-tells s (subst TellsRun e tells))

  -- a run that is told is no fault
  no-fault : (b : Answer) → (TellsRun b → ⊥) → (answer : Answer) → answer ≡ own.answer → a ≡ answer → a ≡ b → ⊥
  no-fault b fails answer is e same = fails (subst TellsRun (sym (e ∙ is) ∙ same) own-tells)

  in-out : (t : Result Answer Stop) → Puts t → a ≡ answer_told t → a ≡ WriteFault Out → StopsInOut own.puts p.out p.err
  in-out (Ok answer) puts e is = absurd (no-fault (WriteFault Out) (λ p. p) answer puts.0 e is)
  in-out (Err stop.Out) puts e is = puts.1
  in-out (Err stop.Err) puts e is = absurd cc
  in-out (Err stop.Left) puts e is = absurd cc
  in-out (Err stop.NoMemory) puts e is = absurd cc

  in-err : (t : Result Answer Stop) → Puts t → a ≡ answer_told t → a ≡ WriteFault ErrSink → StopsInErr own.puts p.out p.err ⊎ StopsInCalm own p.out p.err
  in-err (Ok answer) puts e is = absurd (no-fault (WriteFault ErrSink) (λ p. p) answer puts.0 e is)
  in-err (Err stop.Out) puts e is = absurd cc
  in-err (Err stop.Err) puts e is = puts.1
  in-err (Err stop.Left) puts e is = absurd cc
  in-err (Err stop.NoMemory) puts e is = absurd cc

  in-left : (t : Result Answer Stop) → Puts t → a ≡ answer_told t → a ≡ WriteFault Left → PutsTurns own p.out p.err × GotPrefix p.left own.left
  in-left (Ok answer) puts e is = absurd (no-fault (WriteFault Left) (λ p. p) answer puts.0 e is)
  in-left (Err stop.Out) puts e is = absurd cc
  in-left (Err stop.Err) puts e is = absurd cc
  in-left (Err stop.Left) puts e is = (puts.1, puts.2)
  in-left (Err stop.NoMemory) puts e is = absurd cc

  for-memory : (t : Result Answer Stop) → Puts t → a ≡ answer_told t → a ≡ NoMemory → StopsBetween own.puts p.out p.err ⊎ PutsTurns own p.out p.err
  for-memory (Ok answer) puts e is = absurd (no-fault NoMemory (λ p. p) answer puts.0 e is)
  for-memory (Err stop.Out) puts e is = absurd cc
  for-memory (Err stop.Err) puts e is = absurd cc
  for-memory (Err stop.Left) puts e is = absurd cc
  for-memory (Err stop.NoMemory) puts e is = puts.0

  own-reported : IsReported own p a
  own-reported = record {
    answered = answered-as answers.told answers.puts answers.answer_is;
    turns = λ tells. (put-as answers.told answers.puts answers.answer_is tells).0;
    listing = λ tells. (put-as answers.told answers.puts answers.answer_is tells).1;
    out_stops = in-out answers.told answers.puts answers.answer_is;
    err_stops = in-err answers.told answers.puts answers.answer_is;
    left_stops = in-left answers.told answers.puts answers.answer_is;
    memory_stops = for-memory answers.told answers.puts answers.answer_is;
  }

-- ---- what was begun

-- of a loose run, too, there is such a report
pub record HasReport (out err left : Received) (a : Answer) : Type 0 where
  pub own : Report
  pub tells : TellsRun own.answer
  pub answers : AnswersReport own out err left a

pub report-of : (plan : Plan) (s : Started) (out err left : Received) (a : Answer) → AnswersStarted plan s out err left a → HasReport out err left a
report-of plan (Mounts table m) out err left a answers = record { own = report_on plan (Mounts table m); tells = answer-tells (mounted_run plan table m).ending (mounted_run plan table m).machine.tally.status; answers = answers }
report-of plan (Traced m) out err left a answers = record { own = report_on plan (Traced m); tells = answer-tells (traced_run plan m).ending (traced_run plan m).machine.tally.status; answers = answers }
report-of plan (Loosely met m) out err left a answers = record {
  own = loose_report plan (loose_traced_run plan m) answers.puts.quiet;
  tells = answer-tells (loose_traced_run plan m).ending (loose_traced_run plan m).left.machine.tally.status;
  answers = record { told = answers.result; puts = answers.puts.puts; answer_is = answers.answer_is };
}
report-of plan (Both n m table k) out err left a answers = record { own = report_on plan (Both n m table k); tells = tt; answers = answers }

module _ (opened : Opened) (p : Passed) (a : Answer) (answers : AnswersBegun (begun_told opened) p.out p.err p.left a) where
  has : HasReport p.out p.err p.left a
  has = report-of opened.plan (started_told opened.kind) p.out p.err p.left a answers

  pub refuses-not : Refuses a → ⊥
  refuses-not = own-refuses-not has.own has.tells p has.answers

  pub comes-after : ComesBeforeRun a → ⊥
  comes-after = own-comes-after has.own has.tells p has.answers

  pub read-input : EndsBeforeInput a → ⊥
  read-input = own-read-input has.own has.tells p has.answers

  pub read-elf : EndsBeforeElf a → ⊥
  read-elf = own-read-elf has.own has.tells p has.answers

  -- a source is no sink
  pub no-source-named : (a ≡ WriteFault TreeSource → ⊥) × (a ≡ WriteFault Elf → ⊥) × (a ≡ WriteFault Input → ⊥)
  no-source-named = own-no-source has.own has.tells p has.answers

-- a loose run that stopped in its steps
ends-in-steps : (puts : List Put) (p : Passed) (a : Answer) (t : Result Answer Stop) → a ≡ answer_told t → StopsInSteps puts p.out p.err p.left t → EndsInSteps puts p a
ends-in-steps puts p a (Ok answer) e stops = absurd stops
ends-in-steps puts p a (Err stop.Out) e stops = subst (EndsInSteps puts p) (sym e) stops.0.1
ends-in-steps puts p a (Err stop.Err) e stops = subst (EndsInSteps puts p) (sym e) stops.0.1
ends-in-steps puts p a (Err stop.Left) e stops = absurd stops.0
ends-in-steps puts p a (Err stop.NoMemory) e stops = subst (EndsInSteps puts p) (sym e) stops.0

started-told : (plan : Plan) (s : Started) (p : Passed) (a : Answer) → AnswersStarted plan s p.out p.err p.left a → TellsStarted plan s p a
started-told plan (Mounts table m) p a answers = own-reported (report_on plan (Mounts table m)) (answer-tells (mounted_run plan table m).ending (mounted_run plan table m).machine.tally.status) p answers
started-told plan (Traced m) p a answers = own-reported (report_on plan (Traced m)) (answer-tells (traced_run plan m).ending (traced_run plan m).machine.tally.status) p answers
started-told plan (Both n m table k) p a answers = own-reported (report_on plan (Both n m table k)) tt p answers
started-told plan (Loosely met m) p a answers =
    record {
      quiet = answers.puts.quiet;
      reported = own-reported (loose_report plan (loose_traced_run plan m) answers.puts.quiet) (answer-tells (loose_traced_run plan m).ending (loose_traced_run plan m).left.machine.tally.status) p
          (record { told = answers.result; puts = answers.puts.puts; answer_is = answers.answer_is });
      line = by answers.puts.line;
    }
  where
    by : StopsInSteps (loose_report plan (loose_traced_run plan m) answers.puts.quiet).puts p.out p.err p.left answers.result ⊎ TellsQuiet asks 0 plain met (loose_traced_run plan m) answers.puts.quiet
        → EndsInSteps (loose_report plan (loose_traced_run plan m) answers.puts.quiet).puts p a ⊎ TellsQuiet asks 0 plain met (loose_traced_run plan m) answers.puts.quiet
    by (inl stops) = inl (ends-in-steps (loose_report plan (loose_traced_run plan m) answers.puts.quiet).puts p a answers.result answers.answer_is stops)
    by (inr is) = inr is

pub run-told : (opened : Opened) (p : Passed) (a : Answer) → AnswersBegun (begun_told opened) p.out p.err p.left a → (expected : Result Begun Answer) → OpensFrom expected (Ok opened) → TellsOpening expected p a
run-told opened p a answers expected opens = subst (λ o. TellsOpening o p a) (sym opens) (started-told opened.plan (started_told opened.kind) p a answers)
