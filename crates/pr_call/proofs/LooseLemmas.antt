-- What is told of a quiet loose run is told of the run over mounts for which it stands.
use Rattle.std.proofs.Common.{◌≡◌, ◌⊎◌, inl, inr, ℕ, suc, ◌-◌, Bool, true, List, ◌++◌, take, Result, Ok, refl, sym, ap, subst, ◌∙◌}
use Rattle.std.specs.List.{AllByRecursion}
use Rattle.law_loosely.specs.law_machines.kr_inode.declared.user.User.{User}
use Rattle.law_loosely.specs.law_machines.kr_tree.Lawful.{AreBytes}
use Rattle.law_loosely.specs.law_machines.pr_top.kr_text.Canonical.{canonical}
use Rattle.law_loosely.specs.law_machines.kr_turns.Run.{Put, Ran}
use Rattle.law_loosely.specs.law_machines.kr_turns.Turn.{Machine}
use Rattle.law_loosely.specs.law_machines.kr_view.View.{Row, plain}
use Rattle.law_loosely.specs.law_machines.pr_run.Puts.{Got, GotPrefix, PutsTurns, StopsBetween, StopsInCalm, StopsInErr, StopsInOut}
use Rattle.law_loosely.specs.law_machines.pr_run.Report.{answer_of, err_part, errs, out_part, outs}
use Rattle.law_loosely.specs.law_machines.pr_run.Stepping.{TellsQuiet, loose_line, loose_report}
use Rattle.law_loosely.specs.law_machines.pr_run.declared.plan.Plan.{Plan}
use Rattle.law_loosely.specs.law_machines.pr_sources.Asking.{asked}
use Rattle.law_loosely.specs.law_machines.pr_sources.Reading.{IsRead}
use Rattle.law_loosely.specs.law_machines.pr_sources.Within.{and_then}
use Rattle.law_loosely.specs.law_machines.pr_sources.declared.answer.Answer.{Answer}
use Rattle.law_loosely.specs.law_machines.pr_sources.declared.answer.Answer.TheVariants.{Ended, Deadlock, Spent, Usage, TooLong, TreeBad, BadBind, NoStart, ReadFault, WriteFault, NoMemory}
use Rattle.law_loosely.specs.law_machines.pr_sources.declared.answer.Which.TheVariants.{Tree as TreeSource, Elf, Input, Out, Err as ErrSink, Left}
use Rattle.law_loosely.specs.law_machines.pr_sources.declared.reading.Asked.{Asked}
use Rattle.law_loosely.specs.law_machines.pr_start.Machines.{Watch}
use Rattle.law_loosely.specs.law_machines.pr_start.TracedBeginning.{Tracing, asks}
use Rattle.law_loosely.specs.law_machines.pr_top.Opening.{Begun, Loosely, Mounts, begins, loose_traced_run, opened_for, opening}
use Rattle.law_loosely.specs.law_machines.pr_words.declared.options.Options.{Options}
use Rattle.law_loosely.proofs.law_machines.ReportLemmas.{listings_tell_nodes}
use Rattle.law_loosely.proofs.law_machines.SourceLemmas.{read-has-options}
use Rattle.law_loosely.specs.law_loose.kr_loose.LooseRun.{LooseRan}
use Rattle.law_loosely.specs.law_loose.kr_loose.Quiet.{IsQuiet}
use Rattle.law_loosely.specs.Loosely.{IsImageOf, image_of, mounted_by}
use Rattle.law_loosely.specs.LooseWords.{LooseWordsAgree}
use Rattle.pr_call.specs.LooseHeadline.{AsksUntold, OpensQuietly, TellsImage, TellsLoosely}
use Rattle.pr_call.specs.Promise.{ComesBeforeRun, EndsEarly, EndsInSteps, IsReportedLoosely, NothingIsPut, Passed, TellsOpening, TellsRun}
use Rattle.pr_call.proofs.HeadlineLemmas.{WasReadOr, read-asked-or, settled-if-begun}
use Rattle.pr_call.proofs.PrefixLemmas.{begins-behind, begins-itself, begins-more, begins-taken, got-prefix, kept-prefix, past-begin, some-begin}

-- an answer that comes of a run that began, and names no source as written to
pub record IsOfRun (a : Answer) : Type 0 where
  pub after : ComesBeforeRun a → ⊥
  pub sinks : (a ≡ WriteFault TreeSource → ⊥) × (a ≡ WriteFault Elf → ⊥) × (a ≡ WriteFault Input → ⊥)

-- what tells a whole run ends in no step
whole-not-in-steps : (puts : List Put) (p : Passed) (a : Answer) → TellsRun a → EndsInSteps puts p a → ⊥
whole-not-in-steps puts p (Ended status) tells ends = ends
whole-not-in-steps puts p Deadlock tells ends = ends
whole-not-in-steps puts p Spent tells ends = ends
whole-not-in-steps puts p (Usage word why) tells ends = tells
whole-not-in-steps puts p (TooLong which) tells ends = tells
whole-not-in-steps puts p (TreeBad line why) tells ends = tells
whole-not-in-steps puts p (BadBind index why) tells ends = tells
whole-not-in-steps puts p (NoStart errno) tells ends = tells
whole-not-in-steps puts p (ReadFault which) tells ends = tells
whole-not-in-steps puts p (WriteFault which) tells ends = tells
whole-not-in-steps puts p NoMemory tells ends = tells

-- ---- the report of a loose run, as that of its image

module _ (plan : Plan) (met : Bool) (n : Machine Tracing) (ran : Ran Watch) (p : Passed) (a : Answer)
    (told : IsReportedLoosely (loose_report plan (loose_traced_run plan n)) (TellsQuiet asks 0 plain met (loose_traced_run plan n)) p a)
    (quiet : IsQuiet asks 0 plain met (loose_traced_run plan n).left.steps) (image : IsImageOf (loose_traced_run plan n) ran) where
  abbrev loose : LooseRan Tracing
  loose = loose_traced_run plan n

  -- the line says that the run was quiet
  quiet-told : TellsRun a → told.quiet ≡ true
  quiet-told tells = by told.line
    where
      by : EndsInSteps (loose_report plan loose told.quiet).puts p a ⊎ TellsQuiet asks 0 plain met loose told.quiet → told.quiet ≡ true
      by (inl ends) = absurd (whole-not-in-steps (loose_report plan loose told.quiet).puts p a tells ends)
      by (inr is) = is.1 quiet

  -- ---- what was put begins the bytes of all its steps

  abbrev quiet-line : List ℕ
  quiet-line = loose_line true

  abbrev BothBegin : Type 0
  BothBegin = GotPrefix p.out (outs loose.puts) × GotPrefix p.err (errs loose.puts ++ quiet-line)

  stops-in-out : StopsInOut loose.puts p.out p.err → BothBegin
  stops-in-out s = (
    got-prefix p.out.before p.out.now (outs (take s.made loose.puts) ++ take s.out_got.0 s.put.out) (outs loose.puts) s.out_got.1 (past-begin out_part s.made loose.puts s.put s.out_got.0 s.next),
    got-prefix p.err.before p.err.now (errs (take s.made loose.puts)) (errs loose.puts ++ quiet-line) s.err_got (begins-more (errs (take s.made loose.puts)) (errs loose.puts) quiet-line (some-begin err_part s.made loose.puts)),
  )

  stops-in-err : StopsInErr loose.puts p.out p.err → BothBegin
  stops-in-err s =
      let got : List ℕ = errs (take s.made loose.puts) ++ take s.err_got.0 s.put.err in (
        got-prefix p.out.before p.out.now (outs (take (suc s.made) loose.puts)) (outs loose.puts) s.out_got (some-begin out_part (suc s.made) loose.puts),
        got-prefix p.err.before p.err.now got (errs loose.puts ++ quiet-line) s.err_got.1 (begins-more got (errs loose.puts) quiet-line (past-begin err_part s.made loose.puts s.put s.err_got.0 s.next)),
      )

  stops-between : StopsBetween loose.puts p.out p.err → BothBegin
  stops-between s = (got-prefix p.out.before p.out.now (outs (take s.made loose.puts)) (outs loose.puts) s.out_got (some-begin out_part s.made loose.puts), by s.err_got)
    where
      some : (n : ℕ) → Got p.err (errs (take n loose.puts)) → GotPrefix p.err (errs loose.puts ++ quiet-line)
      some n got = got-prefix p.err.before p.err.now (errs (take n loose.puts)) (errs loose.puts ++ quiet-line) got (begins-more (errs (take n loose.puts)) (errs loose.puts) quiet-line (some-begin err_part n loose.puts))

      by : Got p.err (errs (take s.made loose.puts)) ⊎ Got p.err (errs (take (s.made - 1) loose.puts)) → GotPrefix p.err (errs loose.puts ++ quiet-line)
      by (inl got) = some s.made got
      by (inr got) = some (s.made - 1) got

  all-put : told.quiet ≡ true → PutsTurns (loose_report plan loose told.quiet) p.out p.err → BothBegin
  all-put is puts =
      let all : List ℕ = errs loose.puts ++ quiet-line in (
        got-prefix p.out.before p.out.now (outs loose.puts) (outs loose.puts) puts.out_got (begins-itself (outs loose.puts)),
        got-prefix p.err.before p.err.now all all (subst (λ q. Got p.err (errs loose.puts ++ loose_line q)) is puts.err_got) (begins-itself all),
      )

  stops-in-line : told.quiet ≡ true → StopsInCalm (loose_report plan loose told.quiet) p.out p.err → BothBegin
  stops-in-line is s =
      let n : ℕ = s.err_got.0 in (
        got-prefix p.out.before p.out.now (outs loose.puts) (outs loose.puts) s.out_got (begins-itself (outs loose.puts)),
        got-prefix p.err.before p.err.now (errs loose.puts ++ take n quiet-line) (errs loose.puts ++ quiet-line) (subst (λ q. Got p.err (errs loose.puts ++ take n (loose_line q))) is s.err_got.1)
            (begins-behind (errs loose.puts) (take n quiet-line) quiet-line (begins-taken n quiet-line)),
      )

  -- by what was answered, and whether the line was due
  begin-by : IsOfRun a → (b : Answer) → a ≡ b → EndsInSteps loose.puts p b ⊎ (told.quiet ≡ true) → BothBegin
  begin-by from (Ended status) e due = all-put (quiet-told (subst TellsRun (sym e) tt)) (told.reported.turns (subst TellsRun (sym e) tt))
  begin-by from Deadlock e due = all-put (quiet-told (subst TellsRun (sym e) tt)) (told.reported.turns (subst TellsRun (sym e) tt))
  begin-by from Spent e due = all-put (quiet-told (subst TellsRun (sym e) tt)) (told.reported.turns (subst TellsRun (sym e) tt))
  begin-by from (Usage word why) e due = absurd (from.after (subst ComesBeforeRun (sym e) tt))
  begin-by from (TooLong which) e due = absurd (from.after (subst ComesBeforeRun (sym e) tt))
  begin-by from (TreeBad number why) e due = absurd (from.after (subst ComesBeforeRun (sym e) tt))
  begin-by from (BadBind index why) e due = absurd (from.after (subst ComesBeforeRun (sym e) tt))
  begin-by from (NoStart errno) e due = absurd (from.after (subst ComesBeforeRun (sym e) tt))
  begin-by from (ReadFault which) e due = absurd (from.after (subst ComesBeforeRun (sym e) tt))
  begin-by from (WriteFault TreeSource) e due = absurd (from.sinks.0 e)
  begin-by from (WriteFault Elf) e due = absurd (from.sinks.1 e)
  begin-by from (WriteFault Input) e due = absurd (from.sinks.2 e)
  begin-by from (WriteFault Out) e due = stops-in-out (told.reported.out_stops e)
  begin-by from (WriteFault ErrSink) e (inl stops) = stops-in-err stops
  begin-by from (WriteFault ErrSink) e (inr is) = by (told.reported.err_stops e)
    where
      by : StopsInErr loose.puts p.out p.err ⊎ StopsInCalm (loose_report plan loose told.quiet) p.out p.err → BothBegin
      by (inl stops) = stops-in-err stops
      by (inr stops) = stops-in-line is stops
  begin-by from (WriteFault Left) e (inl stops) = absurd stops
  begin-by from (WriteFault Left) e (inr is) = all-put is (told.reported.left_stops e).0
  begin-by from NoMemory e (inl stops) = stops-between stops
  begin-by from NoMemory e (inr is) = by (told.reported.memory_stops e)
    where
      by : StopsBetween loose.puts p.out p.err ⊎ PutsTurns (loose_report plan loose told.quiet) p.out p.err → BothBegin
      by (inl stops) = stops-between stops
      by (inr puts) = all-put is puts

  both-begin : NothingIsPut p ⊎ IsOfRun a → BothBegin
  both-begin (inl none) = (kept-prefix p.out.before p.out.now (outs loose.puts) none.out_stays, kept-prefix p.err.before p.err.now (errs loose.puts ++ quiet-line) none.err_stays)
  both-begin (inr from) = begin-by from a refl (by told.line)
    where
      by : EndsInSteps loose.puts p a ⊎ TellsQuiet asks 0 plain met loose told.quiet → EndsInSteps loose.puts p a ⊎ (told.quiet ≡ true)
      by (inl stops) = inl stops
      by (inr is) = inr (is.1 quiet)

  pub image-told : NothingIsPut p ⊎ IsOfRun a → TellsImage loose ran plan.user p a
  image-told how = record {
    answered = by told.reported.answered;
    out = λ tells. subst (Got p.out) image.out (told.reported.turns tells).out_got;
    err = λ tells. subst (Got p.err) (λ j. image.err j ++ loose_line (quiet-told tells j)) (told.reported.turns tells).err_got;
    listing = λ tells. subst (Got p.left) same-listing (told.reported.listing tells);
    trees = λ tells. image.trees;
    out_begins = subst (GotPrefix p.out) image.out (both-begin how).0;
    err_begins = subst (λ l. GotPrefix p.err (l ++ quiet-line)) image.err (both-begin how).1;
    left_begins = λ fails. subst (GotPrefix p.left) same-listing (told.reported.left_stops fails).1;
  }
    where
      same-listing : canonical loose.left.machine.state.tree plan.user ≡ canonical ran.machine.state.tree plan.user
      same-listing = listings_tell_nodes loose.left.machine.state.tree ran.machine.state.tree plan.user image.trees

      by : (a ≡ answer_of loose.ending loose.left.machine.tally.status) ⊎ EndsEarly a → (a ≡ answer_of ran.ending ran.machine.tally.status) ⊎ EndsEarly a
      by (inl e) = inl (e ∙ λ j. answer_of (image.ending j) (image.status j))
      by (inr early) = inr early

-- what ends before it is told whole tells nothing of it, and puts nothing
pub early-image : (loose : LooseRan Tracing) (ran : Ran Watch) (user : User) (p : Passed) (a : Answer) → EndsEarly a → (TellsRun a → ⊥) → NothingIsPut p → TellsImage loose ran user p a
early-image steps ran user p a early untold none = record {
  answered = inr early;
  out = λ tells. absurd (untold tells);
  err = λ tells. absurd (untold tells);
  listing = λ tells. absurd (untold tells);
  trees = λ tells. absurd (untold tells);
  out_begins = kept-prefix p.out.before p.out.now (outs ran.puts) none.out_stays;
  err_begins = kept-prefix p.err.before p.err.now (errs ran.puts ++ loose_line true) none.err_stays;
  left_begins = λ fails. kept-prefix p.left.before p.left.now (canonical ran.machine.state.tree user) none.left_stays;
}

-- ---- the words

module _ (agree : LooseWordsAgree) (words : List (List ℕ)) (tree elf input : List ℕ) (are : AllByRecursion AreBytes words) where
  opens-as : (a : Asked) → AsksUntold words tree elf input a → opening words tree elf input ≡ begins a
  opens-as a is =
      ap (λ (r : Result Options Answer). and_then r (λ options. opened_for options.case options tree elf input)) is.asks
      ∙ ap (λ case. opened_for case is.options tree elf input) is.own
      ∙ ap (λ (r : Result Asked Answer). and_then r (λ asked. begins asked)) is.gives

  image-of-opened : (plan : Plan) (n : Machine Tracing) (table : List Row) (m : Machine Watch) → (is : OpensQuietly words tree elf input plan n table m) → IsRead is.asked_for
      → IsImageOf (loose_traced_run plan n) (mounted_by (image_of (loose_traced_run plan n)) table m)
  image-of-opened plan n table m is read =
      let a : Asked = is.asked_for in
      let has : a.options ≡ is.loosely.options = read-has-options is.loosely.options tree elf input a is.loosely.gives in
      let settled = settled-if-begun a (record { plan = is.begins.own; started = Mounts table m }) is.begins.begin.over in
      agree words tree elf input is.loosely.options a settled.0 (record { word_bytes = are; read = read; asks = is.loosely.asks; gives = is.loosely.gives; settles = settled.1 })
      (ap (λ (o : Options). o.native) has ∙ is.loosely.watched) (ap (λ (o : Options). o.ids) has ∙ is.loosely.untold)
      plan is.begins.met n is.begins.own table m is.begins.begin is.begins.quiet is.begins.calm

  -- what is told of the opening is told of the image
  pub loose-headline : (E : Type 0) → WasReadOr words tree elf input E → (p : Passed) (a : Answer) → NothingIsPut p ⊎ IsOfRun a → (E → EndsEarly a × (TellsRun a → ⊥) × NothingIsPut p) → TellsOpening (opening words tree elf input) p a
      → (plan : Plan) (n : Machine Tracing) (table : List Row) (m : Machine Watch) → OpensQuietly words tree elf input plan n table m → TellsLoosely plan n table m p a
  loose-headline E was p a how early tells plan n table m is = by (read-asked-or words tree elf input E was is.loosely.options is.asked_for is.loosely.asks is.loosely.own is.loosely.gives)
    where
      by : IsRead is.asked_for ⊎ E → TellsLoosely plan n table m p a
      by (inr e) = early-image (loose_traced_run plan n) (mounted_by (image_of (loose_traced_run plan n)) table m) plan.user p a (early e).0 (early e).1 (early e).2
      by (inl read) =
          let opens : opening words tree elf input ≡ Ok (record { plan = plan; started = Loosely is.begins.met n }) = opens-as is.asked_for is.loosely ∙ is.begins.begin.steps in
          image-told plan is.begins.met n (mounted_by (image_of (loose_traced_run plan n)) table m) p a (subst (λ (o : Result Begun Answer). TellsOpening o p a) opens tells) is.begins.quiet
          (image-of-opened plan n table m is read) how
