-- What the answer of an opening, and that of a report, say in the words of the top call.
use Rattle.std.proofs.Common.{◌≡◌, ◌⊎◌, ◌∙◌, inl, inr, ℕ, false, List, [], refl, sym, subst}
use Rattle.std.specs.Prelude.{Result, Ok, Err}
use Rattle.std.proofs.lemmas.List.{append-nil}
use Rattle.law_loosely.specs.law_machines.pr_io.Moves.{Gets, Stays}
use Rattle.law_loosely.specs.law_machines.pr_words.declared.options.Options.{Options}
use Rattle.law_loosely.specs.law_machines.pr_sources.declared.answer.Answer.{Answer}
use Rattle.law_loosely.specs.law_machines.pr_sources.declared.answer.Answer.TheVariants.{Ended, Deadlock, Spent, Usage, TooLong, TreeBad, BadBind, NoStart, ReadFault, WriteFault, NoMemory}
use Rattle.law_loosely.specs.law_machines.pr_sources.declared.answer.Which.{Which}
use Rattle.law_loosely.specs.law_machines.pr_sources.declared.answer.Which.TheVariants.{Tree as TreeSource, Elf, Input, Out, Err as ErrSink, Left}
use Rattle.law_loosely.specs.law_machines.pr_sources.Reading.{AllAreRead, HasCause, IsReadUpTo}
use Rattle.law_loosely.specs.law_machines.pr_sources.Within.{IsEarly}
use Rattle.law_loosely.specs.law_machines.pr_run.Report.{Report}
use Rattle.law_loosely.specs.law_machines.pr_run.Puts.{PutsReport, answer_told}
use Rattle.law_loosely.specs.law_machines.pr_run.declared.turns.Stop.{Stop}
use Rattle.law_loosely.specs.law_machines.pr_run.declared.turns.Stop.TheVariants as stop
use Rattle.law_loosely.specs.law_machines.pr_run.Stepping.{loose_report}
use Rattle.law_loosely.specs.law_machines.pr_run.declared.plan.Plan.{Plan}
use Rattle.law_loosely.specs.law_machines.kr_turns.Run.{Put}
use Rattle.law_loosely.specs.law_machines.pr_top.Opening.{AnswersBegun, AnswersStarted, Begun, Both, IsOfOpening, Loosely, Mounts, OpensFrom, Started, Traced, begun_told, loose_traced_run, report_on, started_told}
use Rattle.pr_call.specs.Promise.{ComesBeforeRun, EndsEarly, EndsInSteps, IsAnswerOf, IsReadThrough, IsRefused, IsReported, NoneFailed, NothingIsPut, Passed, Refuses, TellsOpening, TellsRun, TellsStarted}
use Rattle.law_loosely.specs.law_machines.pr_top.declared.opening.Opened.{Opened}

-- ---- kinds of answers

pub early-ends : (a : Answer) → IsEarly a → EndsEarly a
early-ends NoMemory early = tt
early-ends (ReadFault which) early = tt
early-ends (Ended status) early = absurd early
early-ends Deadlock early = absurd early
early-ends Spent early = absurd early
early-ends (Usage word why) early = absurd early
early-ends (TooLong which) early = absurd early
early-ends (TreeBad line why) early = absurd early
early-ends (BadBind index why) early = absurd early
early-ends (NoStart errno) early = absurd early
early-ends (WriteFault which) early = absurd early

-- what tells a run comes from no opening
pub not-told : (a : Answer) → IsOfOpening a → TellsRun a → ⊥
not-told (Ended status) is tells = is
not-told Deadlock is tells = is
not-told Spent is tells = is
not-told (Usage word why) is tells = tells
not-told (TooLong which) is tells = tells
not-told (TreeBad line why) is tells = tells
not-told (BadBind index why) is tells = tells
not-told (NoStart errno) is tells = tells
not-told (ReadFault which) is tells = tells
not-told (WriteFault which) is tells = tells
not-told NoMemory is tells = tells

-- what an opening answers comes before the run, or for want of memory
of-opening : (a : Answer) → IsOfOpening a → ComesBeforeRun a ⊎ (a ≡ NoMemory)
of-opening NoMemory is = inr refl
of-opening (Usage word why) is = inl tt
of-opening (TooLong which) is = inl tt
of-opening (TreeBad line why) is = inl tt
of-opening (BadBind index why) is = inl tt
of-opening (NoStart errno) is = inl tt
of-opening (ReadFault which) is = inl tt
of-opening (Ended status) is = absurd is
of-opening Deadlock is = absurd is
of-opening Spent is = absurd is
of-opening (WriteFault which) is = absurd is

pub not-early : (a : Answer) → Refuses a → IsEarly a → ⊥
not-early NoMemory refuses early = refuses
not-early (ReadFault which) refuses early = refuses
not-early (Ended status) refuses early = early
not-early Deadlock refuses early = early
not-early Spent refuses early = early
not-early (Usage word why) refuses early = early
not-early (TooLong which) refuses early = early
not-early (TreeBad line why) refuses early = early
not-early (BadBind index why) refuses early = early
not-early (NoStart errno) refuses early = early
not-early (WriteFault which) refuses early = early

pub no-write : (a : Answer) (which : Which) → IsOfOpening a → a ≡ WriteFault which → ⊥
no-write a which is e = subst IsOfOpening e is

-- ---- an opening that is refused

-- what stays gets no byte
gets-none : (a b : List ℕ) → Stays a b → Gets a b []
gets-none a b kept = kept ∙ sym (append-nil a)

-- an early end is one of these
early-of : (a : Answer) → IsEarly a → (P : Answer → Type 0) → ((which : Which) → P (ReadFault which)) → P NoMemory → P a
early-of NoMemory early P fault memory = memory
early-of (ReadFault which) early P fault memory = fault which
early-of (Ended status) early P fault memory = absurd early
early-of Deadlock early P fault memory = absurd early
early-of Spent early P fault memory = absurd early
early-of (Usage word why) early P fault memory = absurd early
early-of (TooLong which) early P fault memory = absurd early
early-of (TreeBad line why) early P fault memory = absurd early
early-of (BadBind index why) early P fault memory = absurd early
early-of (NoStart errno) early P fault memory = absurd early
early-of (WriteFault which) early P fault memory = absurd early

-- nothing is put then
module _ (a : Answer) (is : IsOfOpening a) (p : Passed) (none : NothingIsPut p) where
  early-report : (told : Report) → IsEarly a → IsReported told p a
  early-report told early = record {
    answered = inr (early-ends a early);
    turns = λ tells. absurd (not-told a is tells);
    listing = λ tells. absurd (not-told a is tells);
    out_stops = λ e. absurd (no-write a Out is e);
    err_stops = λ e. absurd (no-write a ErrSink is e);
    left_stops = λ e. absurd (no-write a Left is e);
    memory_stops = λ e. inl (record { made = 0; out_got = gets-none p.out.before p.out.now none.out_stays; err_got = inl (gets-none p.err.before p.err.now none.err_stays) });
  }

  refused-as : (refusal : Answer) → (a ≡ refusal) ⊎ IsEarly a → IsRefused refusal p a
  refused-as refusal answered = record { answered = answered; kind = of-opening a is; nothing = none }

  early-steps : (puts : List Put) → IsEarly a → EndsInSteps puts p a
  early-steps puts early = early-of a early (λ b. EndsInSteps puts p b) (λ which. tt)
      (record { made = 0; out_got = gets-none p.out.before p.out.now none.out_stays; err_got = inl (gets-none p.err.before p.err.now none.err_stays) })

  early-started : (plan : Plan) (s : Started) → IsEarly a → TellsStarted plan s p a
  early-started plan (Mounts table m) early = early-report (report_on plan (Mounts table m)) early
  early-started plan (Traced m) early = early-report (report_on plan (Traced m)) early
  early-started plan (Both n m table k) early = early-report (report_on plan (Both n m table k)) early
  early-started plan (Loosely met m) early = record {
    quiet = false;
    reported = early-report (loose_report plan (loose_traced_run plan m) false) early;
    line = inl (early-steps (loose_traced_run plan m).puts early);
  }

  pub opening-told : (expected : Result Begun Answer) → OpensFrom expected (Err a) → TellsOpening expected p a
  opening-told (Ok b) (inl e) = absurd cc
  opening-told (Ok b) (inr early) = early-started b.plan b.started early
  opening-told (Err r) (inl e) = refused-as r (inl (let same : r ≡ a = cc in sym same))
  opening-told (Err r) (inr early) = refused-as r (inr early)

-- an early end is of an opening
pub early-opening : (a : Answer) → IsEarly a → IsOfOpening a
early-opening NoMemory early = tt
early-opening (ReadFault which) early = tt
early-opening (Ended status) early = absurd early
early-opening Deadlock early = absurd early
early-opening Spent early = absurd early
early-opening (Usage word why) early = absurd early
early-opening (TooLong which) early = absurd early
early-opening (TreeBad line why) early = absurd early
early-opening (BadBind index why) early = absurd early
early-opening (NoStart errno) early = absurd early
early-opening (WriteFault which) early = absurd early

-- and may come in place of any
pub early-told : (a : Answer) → IsEarly a → (p : Passed) → NothingIsPut p → (expected : Result Begun Answer) → TellsOpening expected p a
early-told a early p none expected = opening-told a (early-opening a early) p none expected (inr early)

pub refusal : (a : Answer) (expected : Result Begun Answer) → Refuses a → OpensFrom expected (Err a) → expected ≡ Err a
refusal a expected refuses (inl e) = e
refusal a expected refuses (inr early) = absurd (not-early a refuses early)

-- ---- what was read to its end

-- where nothing was put
pub ends-refused : (p : Passed) → NothingIsPut p → (a : Answer) → IsReadUpTo p.sources a → IsReadThrough p a
ends-refused p none NoMemory ends = inl none
ends-refused p none (Usage word why) ends = ends
ends-refused p none (TooLong which) ends = ends
ends-refused p none (TreeBad line why) ends = ends
ends-refused p none (BadBind index why) ends = ends
ends-refused p none (NoStart errno) ends = ends
ends-refused p none (ReadFault which) ends = ends
ends-refused p none (WriteFault which) ends = ends
ends-refused p none (Ended status) ends = ends
ends-refused p none Deadlock ends = ends
ends-refused p none Spent ends = ends

-- a run comes behind all sources
pub ends-told : (p : Passed) (a : Answer) → (ComesBeforeRun a → ⊥) → AllAreRead p.sources → IsReadThrough p a
ends-told p NoMemory after all = inr all
ends-told p (Usage word why) after all = absurd (after tt)
ends-told p (TooLong which) after all = absurd (after tt)
ends-told p (TreeBad line why) after all = absurd (after tt)
ends-told p (BadBind index why) after all = all
ends-told p (NoStart errno) after all = all
ends-told p (ReadFault which) after all = absurd (after tt)
ends-told p (WriteFault which) after all = all
ends-told p (Ended status) after all = all
ends-told p Deadlock after all = all
ends-told p Spent after all = all

-- ---- without a fault

-- only want of memory comes in place of what is opened
pub no-fault-left : (words : Result Options Answer) (p : Passed) (a : Answer) (P : Type 0) → IsEarly a → HasCause words p.sources a → NoneFailed p → P ⊎ (a ≡ NoMemory)
no-fault-left words p NoMemory P early cause none = inr refl
no-fault-left words p (ReadFault TreeSource) P early cause none = absurd (none.tree_works cause.1)
no-fault-left words p (ReadFault Elf) P early cause none = absurd (none.elf_works cause.1.1)
no-fault-left words p (ReadFault Input) P early cause none = absurd (none.input_works cause.1.1)
no-fault-left words p (ReadFault Out) P early cause none = absurd cause.1
no-fault-left words p (ReadFault ErrSink) P early cause none = absurd cause.1
no-fault-left words p (ReadFault Left) P early cause none = absurd cause.1
no-fault-left words p (Ended status) P early cause none = absurd early
no-fault-left words p Deadlock P early cause none = absurd early
no-fault-left words p Spent P early cause none = absurd early
no-fault-left words p (Usage word why) P early cause none = absurd early
no-fault-left words p (TooLong which) P early cause none = absurd early
no-fault-left words p (TreeBad line why) P early cause none = absurd early
no-fault-left words p (BadBind index why) P early cause none = absurd early
no-fault-left words p (NoStart errno) P early cause none = absurd early
no-fault-left words p (WriteFault which) P early cause none = absurd early

-- an opening that is refused
pub complete-refused : (words : Result Options Answer) (p : Passed) (a : Answer) (expected : Result Begun Answer) → HasCause words p.sources a → OpensFrom expected (Err a) → NoneFailed p → IsAnswerOf expected a ⊎ (a ≡ NoMemory)
complete-refused words p a expected cause (inl e) none = inl (subst (λ o. IsAnswerOf o a) (sym e) refl)
complete-refused words p a expected cause (inr early) none = no-fault-left words p a (IsAnswerOf expected a) early cause none

-- a run that begins
module _ (own : Report) (p : Passed) (none : NoneFailed p) (a : Answer) where
  complete-as : (t : Result Answer Stop) → PutsReport own p.out p.err p.left t → a ≡ answer_told t → (a ≡ own.answer) ⊎ (a ≡ NoMemory)
  complete-as (Ok answer) puts e = inl (e ∙ puts.0)
  complete-as (Err stop.Out) puts e = absurd (none.out_works puts.0)
  complete-as (Err stop.Err) puts e = absurd (none.err_works puts.0)
  complete-as (Err stop.Left) puts e = absurd (none.left_works puts.0)
  complete-as (Err stop.NoMemory) puts e = inr e

complete-started : (plan : Plan) (s : Started) (p : Passed) → NoneFailed p → (a : Answer) → AnswersStarted plan s p.out p.err p.left a → (a ≡ (report_on plan s).answer) ⊎ (a ≡ NoMemory)
complete-started plan (Mounts table m) p none a answers = complete-as (report_on plan (Mounts table m)) p none a answers.told answers.puts answers.answer_is
complete-started plan (Traced m) p none a answers = complete-as (report_on plan (Traced m)) p none a answers.told answers.puts answers.answer_is
complete-started plan (Both n m table k) p none a answers = complete-as (report_on plan (Both n m table k)) p none a answers.told answers.puts answers.answer_is
complete-started plan (Loosely met m) p none a answers = complete-as (loose_report plan (loose_traced_run plan m) answers.puts.quiet) p none a answers.result answers.puts.puts answers.answer_is

pub complete : (opened : Opened) (p : Passed) → NoneFailed p → (a : Answer) → AnswersBegun (begun_told opened) p.out p.err p.left a
    → (expected : Result Begun Answer) → OpensFrom expected (Ok opened) → IsAnswerOf expected a ⊎ (a ≡ NoMemory)
complete opened p none a answers expected opens = subst (λ o. IsAnswerOf o a ⊎ (a ≡ NoMemory)) (sym opens) (complete-started opened.plan (started_told opened.kind) p none a answers)
