-- What is told of a run with a tracer is told of what the same words and bytes begin over mounts.
use Rattle.std.proofs.Common.{◌≡◌, ◌⊎◌, inl, inr, ℕ, true, false, List, None, Result, Ok, Err, refl, sym, ap, subst, ◌∙◌}
use Rattle.std.specs.Prelude.{IfOk}
use Rattle.std.specs.List.{AllByRecursion}
use Rattle.law_loosely.specs.law_machines.kr_tree.Lawful.{AreBytes}
use Rattle.law_loosely.specs.law_machines.kr_mounts.MountTable.{Refusal}
use Rattle.law_loosely.specs.law_machines.kr_view.View.{Row}
use Rattle.law_loosely.specs.law_machines.Given.{settled_in}
use Rattle.law_loosely.proofs.law_machines.SourceLemmas.{read-has-options}
use Rattle.law_loosely.specs.law_machines.pr_words.declared.options.Options.{Options}
use Rattle.law_loosely.specs.law_machines.pr_sources.declared.answer.Answer.{Answer}
use Rattle.law_loosely.specs.law_machines.pr_sources.Asking.{asked}
use Rattle.law_loosely.specs.law_machines.pr_sources.Reading.{IsRead, read_asked}
use Rattle.law_loosely.specs.law_machines.pr_sources.declared.reading.Asked.{Asked}
use Rattle.law_loosely.specs.law_machines.kr_mounts.Standing.{texts_of}
use Rattle.law_loosely.specs.law_machines.pr_top.pr_base.declared.errno.Errno.{Errno}
use Rattle.law_loosely.specs.law_machines.pr_run.declared.plan.Plan.{Plan}
use Rattle.law_loosely.specs.law_machines.pr_start.TracedBeginning.{Tracing, traced_beginning}
use Rattle.law_loosely.specs.law_machines.pr_start.Machines.{Machine}
use Rattle.law_loosely.specs.law_machines.pr_top.Opening.{Begun, Both, Loosely, Mounts, Started, Traced, WasRead, begun_as, launch_of, opening, over, plan_of, report, report_on, started_as}
use Rattle.law_loosely.specs.law_machines.Openings.{IsCalmRun, IsToldAlike, OpeningsAgree, asked_on, over_mounts, with_tracer}
use Rattle.law_loosely.proofs.law_machines.OpeningLemmas.{refusals_agree, words_begin_traced}
use Rattle.pr_call.specs.Headline.{AsksTraced, OfCalmOpening, OpensCalmly}
use Rattle.pr_call.specs.Promise.{IsReported, Passed, TellsOpening, TellsStarted}
use Rattle.pr_call.proofs.WordLemmas.{watched_is_quiet}

-- a run over mounts begins where the bindings settle
pub settled-if-begun : (a : Asked) (b : Begun) → over_mounts a ≡ Ok b → (table : List Row) × ((settled_in a).answer ≡ Ok table)
settled-if-begun a b begins = by (settled_in a).answer refl begins
  where
    by : (r : Result (List Row) Refusal) → (settled_in a).answer ≡ r → over (asked_on true a) (settled_in a).tree r ≡ Ok b → (table : List Row) × ((settled_in a).answer ≡ Ok table)
    by (Ok table) is e = (table, is)
    by (Err refusal) is e = absurd cc

-- with a tracer a run goes turn by turn
traced-is : (a : Asked) (b : Begun) → with_tracer a ≡ Ok b → (m : Machine Tracing) × (b.started ≡ Traced m)
traced-is a b e = by (settled_in a).answer e
  where
    started : (r : Result (Machine Tracing) Errno) → begun_as (plan_of a) (started_as Traced r) ≡ Ok b → (m : Machine Tracing) × (b.started ≡ Traced m)
    started (Ok m) e = let same : record { plan = plan_of a; started = Traced m } ≡ b = cc in (m, ap (λ (x : Begun). x.started) (sym same))
    started (Err errno) e = absurd cc

    by : (r : Result (List Row) Refusal) → over (asked_on false a) (settled_in a).tree r ≡ Ok b → (m : Machine Tracing) × (b.started ≡ Traced m)
    by (Ok table) e = started (traced_beginning (texts_of table) (settled_in a).tree a.user a.options.ids (launch_of a) a.input) e
    by (Err refusal) e = absurd cc

reported-traced : (b : Begun) (p : Passed) (a : Answer) (m : Machine Tracing) → b.started ≡ Traced m → TellsStarted b.plan b.started p a → IsReported (report b) p a
reported-traced b p a m is told = subst (λ s. IsReported (report_on b.plan s) p a) (sym is) (subst (λ s. TellsStarted b.plan s p a) is told)

-- and a calm one over mounts, too
told-mounted : (plan : Plan) (s : Started) (p : Passed) (a : Answer) → IsCalmRun plan s → IsReported (report_on plan s) p a → TellsStarted plan s p a
told-mounted plan (Mounts table m) p a calm told = told
told-mounted plan (Traced m) p a calm told = absurd calm
told-mounted plan (Loosely met m) p a calm told = absurd calm
told-mounted plan (Both n m table k) p a calm told = absurd calm

-- ---- what was read

module _ (words : List (List ℕ)) (tree elf input : List ℕ) where
  -- unless the opening ended early
  abbrev pub WasReadOr : Type 0 → Type 0
  WasReadOr E = IfOk (asked words) (λ o. o.case ≡ None → WasRead (read_asked o tree elf input) ⊎ E)

  pub read-asked-or : (E : Type 0) → WasReadOr E → (o : Options) (a : Asked) → asked words ≡ Ok o → o.case ≡ None → read_asked o tree elf input ≡ Ok a → IsRead a ⊎ E
  read-asked-or E was o a asks own gives = by ((subst (λ w. IfOk w (λ o. o.case ≡ None → WasRead (read_asked o tree elf input) ⊎ E)) asks was) own)
    where
      by : WasRead (read_asked o tree elf input) ⊎ E → IsRead a ⊎ E
      by (inl read) = inl (subst (λ r. IfOk r IsRead) gives read)
      by (inr early) = inr early

  pub read-too : IfOk (asked words) (λ o. o.case ≡ None → WasRead (read_asked o tree elf input)) → WasReadOr ⊥
  read-too = by (asked words)
    where
      by : (w : Result Options Answer) → IfOk w (λ o. o.case ≡ None → WasRead (read_asked o tree elf input)) → IfOk w (λ o. o.case ≡ None → WasRead (read_asked o tree elf input) ⊎ ⊥)
      by (Ok o) read = λ own. inl (read own)
      by (Err answer) read = tt

-- ---- what is told

module _ (agree : OpeningsAgree) (words : List (List ℕ)) (tree elf input : List ℕ) (are : AllByRecursion AreBytes words) where
  quiet : (a : Asked) → (is : AsksTraced words tree elf input a) → a.options.calm ≡ false
  quiet a is = ap (λ (o : Options). o.calm) (read-has-options is.options tree elf input a is.gives) ∙ watched_is_quiet words is.options is.asks is.watched

  begins-traced : (a : Asked) → AsksTraced words tree elf input a → opening words tree elf input ≡ with_tracer a
  begins-traced a is = words_begin_traced words tree elf input is.options a is.asks is.gives is.own is.watched is.by_turns

  alike : (a : Asked) (table : List Row) → AsksTraced words tree elf input a → IsRead a → (settled_in a).answer ≡ Ok table → IsToldAlike a table (over_mounts a) (with_tracer a)
  alike a table is read settles =
      agree words tree elf input is.options a table (record { word_bytes = are; read = read; asks = is.asks; gives = is.gives; settles = settles }) (quiet a is)

  -- what is told of a run over mounts is told of another one
  pub record OpensAs (b : Begun) : Type 0 where
    pub run : Begun
    pub opens : opening words tree elf input ≡ Ok run
    pub traced : (m : Machine Tracing) × (run.started ≡ Traced m)
    pub same : report b ≡ report run

  -- the run that is opened has the same report as the calm one over mounts
  opened-calmly : (b : Begun) → (is : OpensCalmly words tree elf input (Ok b)) → IsRead is.asked_for → OpensAs b
  opened-calmly b is read =
      let settled = settled-if-begun is.asked_for b is.opens in
      let own : IsToldAlike is.asked_for settled.0 (Ok b) (with_tracer is.asked_for) = subst (λ one. IsToldAlike is.asked_for settled.0 one (with_tracer is.asked_for)) is.opens (alike is.asked_for settled.0 is.traced read settled.1) in
      let other = own is.calm in
      record { run = other.0; opens = begins-traced is.asked_for is.traced ∙ other.1; traced = traced-is is.asked_for other.0 other.1; same = other.2 }

  -- and what is refused calmly is refused
  refused-calmly : (refusal : Answer) → (is : OpensCalmly words tree elf input (Err refusal)) → IsRead is.asked_for → opening words tree elf input ≡ Err refusal
  refused-calmly refusal is read = begins-traced a is.traced ∙ by (settled_in a).answer refl
    where
      a : Asked
      a = is.asked_for

      by : (r : Result (List Row) Refusal) → (settled_in a).answer ≡ r → with_tracer a ≡ Err refusal
      by (Err other) unsettled = refusals_agree a other unsettled ∙ is.opens
      by (Ok table) settles =
          let own : IsToldAlike a table (Err refusal) (with_tracer a) = subst (λ one. IsToldAlike a table one (with_tracer a)) is.opens (alike a table is.traced read settles) in
          own (is.calm table settles)

  read-or : (E : Type 0) → WasReadOr words tree elf input E → (a : Asked) → AsksTraced words tree elf input a → IsRead a ⊎ E
  read-or E was a is = read-asked-or words tree elf input E was is.options a is.asks is.own is.gives

  -- ---- the clause

  -- what is told of the opening is told of what is opened over mounts, where that is calm
  pub headline : (E : Type 0) → WasReadOr words tree elf input E → (p : Passed) (a : Answer) → (E → (o : Result Begun Answer) → TellsOpening o p a)
      → TellsOpening (opening words tree elf input) p a → OfCalmOpening words tree elf input (λ o. TellsOpening o p a)
  headline E was p a early tells = λ o is. by o is (read-or E was is.asked_for is.traced)
    where
      by : (o : Result Begun Answer) → (is : OpensCalmly words tree elf input o) → IsRead is.asked_for ⊎ E → TellsOpening o p a
      by o is (inr e) = early e o
      by (Ok b) is (inl read) =
          let opened = opened-calmly b is read in
          let told : TellsStarted opened.run.plan opened.run.started p a = subst (λ o. TellsOpening o p a) opened.opens tells in
          let own = reported-traced opened.run p a opened.traced.0 opened.traced.1 told in
          told-mounted b.plan b.started p a is.calm (subst (λ r. IsReported r p a) (sym opened.same) own)
      by (Err refusal) is (inl read) = subst (λ o. TellsOpening o p a) (refused-calmly refusal is read) tells
