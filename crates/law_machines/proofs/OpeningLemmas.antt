-- What is begun over mounts and with a tracer is what both machines agree on.
use Rattle.std.proofs.Common.{arith, ◌≡◌, ◌≤◌, ◌^◌, ℕ, true, false, List, Option, Some, None, Result, Ok, Err, refl, sym, ap, subst, ◌∙◌}
use Rattle.pr_top.specs.pr_base.declared.errno.Errno.{Errno}
use Rattle.law_starts.specs.kr_calm.Calm.{broken_at_start}
use Rattle.pr_top.specs.kr_mounts.Standing.{texts_of}
use Rattle.pr_top.specs.kr_view.View.{Row}
use Rattle.law_starts.specs.kr_turns.Turn.{Machine}
use Rattle.pr_top.specs.pr_sources.declared.answer.Answer.{Answer}
use Rattle.pr_top.specs.pr_run.Report.{report_of}
use Rattle.pr_top.specs.pr_sources.declared.reading.Asked.{Asked}
use Rattle.pr_top.specs.pr_sources.Within.{and_then}
use Rattle.pr_top.specs.pr_words.declared.options.Options.{Options}
use Rattle.law_starts.specs.pr_start.Beginning.{beginning}
use Rattle.law_starts.specs.pr_start.TracedBeginning.{traced_beginning}
use Rattle.law_starts.specs.pt_faker.declared.watch.Watch.{Watch}
use Rattle.law_starts.specs.pt_tracer.Watched.{Tracing}
use Rattle.law_starts.specs.Starts.{beginning_reach}
use Rattle.law_starts.specs.law_turns.Runs.{ComeAlike}
use Rattle.law_machines.specs.Given.{CanBegin, settled_in}
use Rattle.law_machines.proofs.SourceLemmas.{read-has-options}
use Rattle.law_machines.proofs.GivenLemmas.{given-is-opening}
use Rattle.law_machines.specs.Agreeing.{CanBeTold, IsToldToo, MachinesAgree, mounted, traced as traced_run}
use Rattle.law_machines.specs.FakedAgreeing.{FakedMachinesAgree, IsToldFaked}
use Rattle.law_machines.proofs.ReportLemmas.{reports_are_alike}
use Rattle.pr_top.specs.Opening.{Begun, Mounts, Traced, begins, begun, begun_as, launch_of, opened_for, over, plan_of, started_as, watch_for}
use Rattle.pr_top.proofs.StepwiseLemmas.{begins-by-turns}
use Rattle.law_machines.specs.Openings.{IsCalmStart, IsToldAlike, OpeningsAgree, RefusalsAgree, WordsBeginTraced, asked_on, over_mounts, with_tracer}

pub refusals_agree : RefusalsAgree
refusals_agree a refusal refused = ap (over (asked_on false a) (settled_in a).tree) refused ∙ sym (ap (over (asked_on true a) (settled_in a).tree) refused)

-- ---- the opening of words

same_asked : (a : Asked) → a.options.native ≡ false → asked_on false a ≡ a
same_asked a traced = λ i. record {
  options = record {
    root = a.options.root;
    binds = a.options.binds;
    cwd = a.options.cwd;
    ids = a.options.ids;
    env = a.options.env;
    turns = a.options.turns;
    schedule = a.options.schedule;
    loose = a.options.loose;
    native = sym traced i;
    calm = a.options.calm;
    case = a.options.case;
    command = a.options.command;
  };
  tree = a.tree;
  user = a.user;
  input = a.input;
}

pub words_begin_traced : WordsBeginTraced
words_begin_traced words tree elf input o a asks gives alone plainly turns =
    ap (λ (r : Result Options Answer). and_then r (λ options. opened_for options.case options tree elf input)) asks
    ∙ ap (λ case. opened_for case o tree elf input) alone
    ∙ ap (λ (r : Result Asked Answer). and_then r (λ asked. begins asked)) gives
    ∙ begins-by-turns a (ap (λ (o : Options). o.loose) (read-has-options o tree elf input a gives) ∙ turns)
    ∙ ap begun (sym (same_asked a (ap (λ (o : Options). o.native) (read-has-options o tree elf input a gives) ∙ plainly)))

-- ---- both machines

few_turns : (turns : ℕ) → turns ≤ 10000000 → turns ≤ 2 ^ 31
few_turns turns few = omega (arith, few)

module _ (machines : MachinesAgree) (faked : FakedMachinesAgree) (a : Asked) (table : List Row) (can : CanBegin a table) (quiet : a.options.calm ≡ false) where
  told : CanBeTold (plan_of a) table (settled_in a).tree a.user (launch_of a) a.input
  told = record {
    opening = can.opening;
    words = record { command = can.words.command; env = can.words.env; cwd = can.words.cwd };
    input_bytes = can.input;
    few = few_turns a.options.turns can.sound.turns;
  }

  -- the walks of a start, whoever watches
  calm_as : (ids : Option (ℕ × ℕ)) → a.options.ids ≡ ids → IsCalmStart a table → broken_at_start (beginning_reach table (settled_in a).tree a.user (watch_for a.user ids) (launch_of a)) ≡ None
  calm_as ids is calm = subst (λ ids. broken_at_start (beginning_reach table (settled_in a).tree a.user (watch_for a.user ids) (launch_of a)) ≡ None) is calm

  abbrev mounted_start : Option (ℕ × ℕ) → Result (Machine Watch) Errno
  mounted_start ids = beginning table (settled_in a).tree a.user (watch_for a.user ids) (launch_of a) a.input

  abbrev watched_start : Option (ℕ × ℕ) → Result (Machine Tracing) Errno
  watched_start ids = traced_beginning (texts_of table) (settled_in a).tree a.user ids (launch_of a) a.input

  abbrev traced : Result (Machine Tracing) Errno → Result Begun Answer
  traced r = begun_as (plan_of a) (started_as Traced r)

  -- what is reported of runs that come to the same
  reported : (m : Machine Watch) (n : Machine Tracing) → ComeAlike (mounted (plan_of a) table m) (traced_run (plan_of a) n) → report_of (plan_of a) (mounted (plan_of a) table m) ≡ report_of (plan_of a) (traced_run (plan_of a) n)
  reported m n alike = reports_are_alike Watch Tracing (plan_of a) (mounted (plan_of a) table m) (traced_run (plan_of a) n) quiet alike

  -- without an identity
  nobody : a.options.ids ≡ None → (r : Result (Machine Watch) Errno) → IsToldToo (plan_of a) table (settled_in a).tree a.user (launch_of a) a.input r → IsToldAlike a table (begun_as (plan_of a) (started_as (Mounts table) r)) (traced (watched_start None))
  nobody is (Ok m) agrees = λ calm. let both = agrees calm in (record { plan = plan_of a; started = Traced both.0 }, ap traced both.1, reported m both.0 both.2)
  nobody is (Err e) agrees = λ calm. ap traced (agrees (calm_as None is calm))

  -- and with one
  somebody : (ids : ℕ × ℕ) → a.options.ids ≡ Some ids → (r : Result (Machine Watch) Errno) → IsToldFaked (plan_of a) table (settled_in a).tree a.user ids.0 ids.1 (launch_of a) a.input r
      → IsToldAlike a table (begun_as (plan_of a) (started_as (Mounts table) r)) (traced (watched_start (Some ids)))
  somebody ids is (Ok m) agrees = λ calm. let both = agrees calm in (record { plan = plan_of a; started = Traced both.0 }, ap traced both.1, reported m both.0 both.2)
  somebody ids is (Err e) agrees = λ calm. ap traced (agrees (calm_as (Some ids) is calm))

  either : (ids : Option (ℕ × ℕ)) → a.options.ids ≡ ids → IsToldAlike a table (begun_as (plan_of a) (started_as (Mounts table) (mounted_start ids))) (traced (watched_start ids))
  either None is = nobody is (mounted_start None) (machines (plan_of a) table (settled_in a).tree a.user (launch_of a) a.input told)
  either (Some ids) is = somebody ids is (mounted_start (Some ids)) (faked (plan_of a) table (settled_in a).tree a.user ids.0 ids.1 (launch_of a) a.input told)

  begun_alike : (settled_in a).answer ≡ Ok table → IsToldAlike a table (over_mounts a) (with_tracer a)
  begun_alike settles =
      let mounts : over_mounts a ≡ begun_as (plan_of a) (started_as (Mounts table) (mounted_start a.options.ids)) = ap (over (asked_on true a) (settled_in a).tree) settles in
      let traces : with_tracer a ≡ traced (watched_start a.options.ids) = ap (over (asked_on false a) (settled_in a).tree) settles in
      subst (λ one. IsToldAlike a table one (with_tracer a)) (sym mounts)
      (subst (λ other. IsToldAlike a table (begun_as (plan_of a) (started_as (Mounts table) (mounted_start a.options.ids))) other) (sym traces) (either a.options.ids refl))

pub openings_agree : MachinesAgree → FakedMachinesAgree → OpeningsAgree
openings_agree machines faked words tree elf input o a table given quiet = begun_alike machines faked a table (given-is-opening words tree elf input o a table given) quiet given.settles
