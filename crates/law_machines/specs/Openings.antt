-- The same words and sources on both machines: what they begin with a tracer is told as what they begin over mounts.
use Rattle.std.specs.Prelude.{◌≡◌, ℕ, Bool, true, false, List, [], None, Result, Ok, Err}
use Rattle.law_starts.specs.kr_calm.Calm.{broken_at_start}
use Rattle.pr_top.specs.kr_mounts.MountTable.{Refusal}
use Rattle.pr_top.specs.kr_view.View.{Row}
use Rattle.pr_top.specs.pr_sources.declared.answer.Answer.{Answer}
use Rattle.pr_top.specs.pr_run.declared.plan.Plan.{Plan}
use Rattle.pr_top.specs.pr_sources.Asking.{asked}
use Rattle.pr_top.specs.pr_sources.Reading.{read_asked}
use Rattle.pr_top.specs.pr_sources.declared.reading.Asked.{Asked}
use Rattle.pr_top.specs.pr_words.declared.options.Options.{Options}
use Rattle.law_starts.specs.Starts.{beginning_reach}
use Rattle.law_machines.specs.Given.{AreGiven, settled_in}
use Rattle.law_machines.specs.Agreeing.{IsCalm}
use Rattle.pr_top.specs.Opening.{Begun, Both, Loosely, Mounts, Started, Traced, begun, launch_of, opening, report, watch_for}

-- ---- the same on either machine

abbrev pub options_on : Bool → Options → Options
options_on native o = record {
  root = o.root;
  binds = o.binds;
  cwd = o.cwd;
  ids = o.ids;
  env = o.env;
  turns = o.turns;
  schedule = o.schedule;
  loose = o.loose;
  native = native;
  calm = o.calm;
  case = o.case;
  command = o.command;
}

-- over mounts, or with a tracer
abbrev pub asked_on : Bool → Asked → Asked
asked_on native a = record { options = options_on native a.options; tree = a.tree; user = a.user; input = a.input }

abbrev pub over_mounts : Asked → Result Begun Answer
over_mounts a = begun (asked_on true a)

abbrev pub with_tracer : Asked → Result Begun Answer
with_tracer a = begun (asked_on false a)

-- words that ask for no generated case, not for mounts and not for single steps begin with a tracer, turn by turn
abbrev pub WordsBeginTraced : Type 0
WordsBeginTraced =
    (words : List (List ℕ)) (tree elf input : List ℕ) (o : Options) (a : Asked) → asked words ≡ Ok o → read_asked o tree elf input ≡ Ok a → o.case ≡ None → o.native ≡ false → o.loose ≡ []
    → opening words tree elf input ≡ with_tracer a

-- ---- what is told of them

-- a run over mounts that breaks no calm rule
abbrev pub IsCalmRun : Plan → Started → Type 0
IsCalmRun plan (Mounts table m) = IsCalm plan table m
IsCalmRun plan (Traced m) = ⊥
IsCalmRun plan (Loosely met m) = ⊥
IsCalmRun plan (Both n m table k) = ⊥

-- a start whose walks over mounts break no calm rule
abbrev pub IsCalmStart : Asked → List Row → Type 0
IsCalmStart a table = broken_at_start (beginning_reach table (settled_in a).tree a.user (watch_for a.user a.options.ids) (launch_of a)) ≡ None

-- of such a run the same is reported, and such a start is refused with the same answer
abbrev pub IsToldAlike : Asked → List Row → Result Begun Answer → Result Begun Answer → Type 0
IsToldAlike a table (Ok b) other = IsCalmRun b.plan b.started → (c : Begun) × (other ≡ Ok c) × (report b ≡ report c)
IsToldAlike a table (Err answer) other = IsCalmStart a table → other ≡ Err answer

-- bindings that don't settle are refused alike
abbrev pub RefusalsAgree : Type 0
RefusalsAgree = (a : Asked) (refusal : Refusal) → (settled_in a).answer ≡ Err refusal → with_tracer a ≡ over_mounts a

-- where words are bytes, the sources were read and the bindings settle, and it isn't asked whether the run was calm
abbrev pub OpeningsAgree : Type 0
OpeningsAgree =
    (words : List (List ℕ)) (tree elf input : List ℕ) (o : Options) (a : Asked) (table : List Row) → AreGiven words tree elf input o a table → a.options.calm ≡ false
    → IsToldAlike a table (over_mounts a) (with_tracer a)
