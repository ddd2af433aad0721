-- A loose run of a kernel: what it is as its slots are used, one step of it, and its report.
use Rattle.std.specs.Prelude.{◌≡◌, ◌≤◌, ◌⊎◌, ◌↔◌, IsTrue, ℕ, suc, Bool, true, List, [], ◌∷◌, ◌++◌, codes, Some, None, Result, Ok, Err, if◌then◌else◌}
use Rattle.pr_sources.specs.kr_text.Canonical.{canonical}
use Rattle.pr_sources.specs.pr_io.Drawn.{Received}
use Rattle.pr_sources.specs.pr_words.declared.options.Slot.{Slot}
use Rattle.pr_sources.specs.declared.answer.Answer.{Answer}
use Rattle.kr_loose.specs.kr_view.View.{Row}
use Rattle.kr_loose.specs.kr_core.Kernel.{HasNoTurn, Kernel, machine}
use Rattle.kr_loose.specs.kr_core.declared.kernel.Turned.{Turned}
use Rattle.kr_loose.specs.kr_core.declared.kernel.Turned.TheVariants as turned
use Rattle.kr_loose.specs.kr_turns.Run.{Deadlock, Over, Put, ending_of}
use Rattle.kr_loose.specs.kr_turns.Turn.{Machine}
use Rattle.pt_tracer.specs.kr_stops.Stopped.{Stopped}
use Rattle.pt_tracer.specs.kr_stops.Watching.{Watcher, Watching}
use Rattle.kr_loose.specs.Behind.{IsBehind, kept_of}
use Rattle.kr_loose.specs.Going.{HasStepped, loose_of}
use Rattle.kr_loose.specs.LooseRun.{LooseRan, Step, loose_part, loose_run}
use Rattle.kr_loose.specs.Quiet.{IsQuiet}
use Rattle.kr_loose.specs.declared.judge.Judge.{Judge}
use Rattle.pr_run.specs.Going.{Since}
use Rattle.pr_run.specs.Puts.{GotNone, PutsReport, StopsRun, answer_told}
use Rattle.pr_run.specs.Report.{Report, answer_of}
use Rattle.pr_run.specs.Slots.{slot_of}
use Rattle.pr_run.specs.declared.plan.Plan.{Plan}
use Rattle.pr_run.specs.declared.turns.Stop.{Stop}

-- ---- a kernel and what is kept beside it

-- one before its first step
pub record HasNoStep {P S T : Type 0} {M : ℕ} (asks : S → Stopped → Bool) (table : List Row) (k : Kernel P S T M) (judge : Judge) : Type 0 where
  pub first : HasNoTurn k
  pub behind : IsBehind asks M table k.met [] (kept_of k judge)

-- one that came, by some steps, to where this loose run is by a part of what its watcher keeps
pub record StandsSince {P S Q T : Type 0} {M : ℕ} (number : T → ℕ) (part : S → Q) (asks : S → Stopped → Bool) (table : List Row) (k : Kernel P S T M) (judge : Judge) (x : Since Q) : Type 0 where
  pub steps : List (Step S)
  pub behind : IsBehind asks M table x.0 steps (kept_of k judge)
  pub same : x.1 ≡ loose_part part (loose_of number steps k)

-- ---- one step

module _ {P S T : Type 0} {M : ℕ} (number : T → ℕ) (w : Watching S) (asks : S → Stopped → Bool) (table : List Row) where
  -- one is made where it can be
  abbrev pub MakesStep : Slot → (old new : Kernel P S T M) → (before after : Judge) → Turned → Type 0
  MakesStep slot old new before after turned.Ran = (ending_of (machine number old) ≡ None) × HasStepped number w asks table slot.pick slot.fuel old new before after
  MakesStep slot old new before after turned.Deadlock = (ending_of (machine number old) ≡ Some Deadlock) × (new ≡ old) × (after ≡ before)
  MakesStep slot old new before after turned.Over = (ending_of (machine number old) ≡ Some Over) × (new ≡ old) × (after ≡ before)

-- after which it goes on
pub record StepsOn {P S T : Type 0} {M : ℕ} (old new : Kernel P S T M) : Type 0 where
  pub whole : new.whole ≡ true
  pub places : new.places ≡ old.places
  pub calls : new.calls ≤ suc old.calls

-- ---- the report

-- the loose run of a machine by a plan, whose slots are those of its steps
abbrev pub loose_ran : {S : Type 0} → Watcher S → (marks : ℕ) → List Row → Plan → Machine S → LooseRan S
loose_ran does marks table plan m = loose_run does marks table (slot_of plan.schedule) plan.turns m

abbrev pub loose_line : Bool → List ℕ
loose_line quiet = (if quiet then codes "loose: quiet" else codes "loose: not quiet") ++ 10 ∷ []

-- with a line in the place of the line on calm
abbrev pub loose_report_with : {S : Type 0} → Plan → LooseRan S → List ℕ → Report
loose_report_with plan ran line = record {
  puts = ran.puts;
  calm = line;
  left = canonical ran.left.machine.state.tree plan.user;
  answer = answer_of ran.ending ran.left.machine.tally.status;
}

-- with the one that says whether it was quiet
abbrev pub loose_report : {S : Type 0} → Plan → LooseRan S → Bool → Report
loose_report plan ran quiet = loose_report_with plan ran (loose_line quiet)

-- this is so of its steps
abbrev pub TellsQuiet : {S : Type 0} → (S → Stopped → Bool) → (marks : ℕ) → List Row → (met : Bool) → LooseRan S → Bool → Type 0
TellsQuiet asks marks table met ran quiet = IsTrue quiet ↔ IsQuiet asks marks table met ran.left.steps

-- it stopped before the last of its steps was made and put
abbrev pub StopsInSteps : List Put → (out err left : Received) → Result Answer Stop → Type 0
StopsInSteps puts out err left (Ok answer) = ⊥
StopsInSteps puts out err left (Err stop) = StopsRun puts out err stop × GotNone left

-- what is put, with a line that is so, unless none of the line was due yet
pub record PutsLoosely (told : Bool → Report) (Is : Bool → Type 0) (out err left : Received) (result : Result Answer Stop) : Type 0 where
  pub quiet : Bool
  pub puts : PutsReport (told quiet) out err left result
  pub line : StopsInSteps (told quiet).puts out err left result ⊎ Is quiet

-- and what is answered then
pub record AnswersLoosely (told : Bool → Report) (Is : Bool → Type 0) (out err left : Received) (answer : Answer) : Type 0 where
  pub result : Result Answer Stop
  pub puts : PutsLoosely told Is out err left result
  pub answer_is : answer ≡ answer_told result
