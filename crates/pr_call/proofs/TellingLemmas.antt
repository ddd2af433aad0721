-- The promises, of sources that tell what they have left.
use Rattle.std.proofs.Common.{◌≡◌, ◌∙◌, ◌⊎◌, inl, inr, ℕ, List, Option, Some, None, IfSome, refl, sym, subst}
use Rattle.std.specs.Prelude.{Result, Ok, Err, IfOk}
use Rattle.std.specs.Io.KnownBytes.{IsAtEnd}
use Rattle.law_loosely.specs.law_machines.pr_words.declared.options.Options.{Options}
use Rattle.law_loosely.specs.law_machines.kr_turns.Turn.{Machine}
use Rattle.law_loosely.specs.law_machines.kr_view.View.{Row}
use Rattle.law_loosely.specs.law_machines.pr_run.declared.plan.Plan.{Plan}
use Rattle.law_loosely.specs.law_machines.pr_start.Machines.{Watch}
use Rattle.law_loosely.specs.law_machines.pr_start.TracedBeginning.{Tracing}
use Rattle.law_loosely.specs.Loosely.{image_of, mounted_by}
use Rattle.law_loosely.specs.law_machines.pr_io.Drawn.{gave}
use Rattle.law_loosely.specs.law_machines.pr_sources.declared.answer.Answer.{Answer}
use Rattle.law_loosely.specs.law_machines.pr_sources.declared.answer.Answer.TheVariants.{Ended, Deadlock, Spent, Usage, TooLong, TreeBad, BadBind, NoStart, ReadFault, WriteFault, NoMemory}
use Rattle.law_loosely.specs.law_machines.pr_sources.declared.answer.Which.TheVariants.{Tree as TreeSource, Elf, Input, Out, Err as ErrSink, Left}
use Rattle.law_loosely.specs.law_machines.pr_sources.Asking.{asked}
use Rattle.law_loosely.specs.law_machines.pr_sources.Reading.{AllAreRead, HasCause, IsListed, IsPast, IsWanted, ReadsSources, Sources, WantsElf, read_asked, read_listing, read_tree}
use Rattle.law_loosely.specs.law_machines.pr_sources.Telling.{Agrees, SourcesThatTellAgree, Stage, and_told, told_asked, told_listing, told_tree}
use Rattle.law_loosely.specs.law_machines.pr_sources.Within.{IsEarly, and_then}
use Rattle.law_loosely.proofs.law_machines.pr_sources.TellingLemmas.{agrees_listing, agrees_then, agrees_tree, has}
use Rattle.law_loosely.specs.law_machines.pr_top.Opening.{Begun, begins, loose_traced_run, opened_for, report}
use Rattle.pr_call.specs.LooseHeadline.{TellsLoosely}
use Rattle.pr_call.specs.Promise.{ComesBeforeRun, IsAnswerOf, IsReadThrough, NoneFailed, NothingIsPut, Passed, Refuses, TellsOpening, TellsRun, opened_by}
use Rattle.pr_call.specs.Telling.{HasToldCause, IsPromised, IsPromisedOfTold, OpensToldCalmly, OpensToldQuietly, PromisesHoldOfTold, told_by, told_opened_for}
use Rattle.pr_call.proofs.LooseLemmas.{early-image}
use Rattle.pr_call.proofs.TopLemmas.{early-ends, early-opening, early-told, no-fault-left, not-early, not-told}

module _ (law : SourcesThatTellAgree) (words : List (List ℕ)) (p : Passed) (a : Answer) (is : IsPromised words p a) where
  abbrev s : Sources
  s = p.sources

  abbrev Same : Options → Type 0
  Same o = Agrees (told_asked o s.tree.had s.elf.had s.input.had) (read_asked o (gave s.tree) (gave s.elf) (gave s.input))

  -- nothing was put, and the answer may come in place of any opening
  pub record CutShort : Type 0 where
    pub early : IsEarly a
    pub nothing : NothingIsPut p

  -- ---- what the words ask for

  all-same : (o : Options) → AllAreRead s → Same o
  all-same o all = by (law s is.gives o Deadlock all)
    where
      by : Same o ⊎ IsEarly Deadlock → Same o
      by (inl same) = same
      by (inr early) = absurd early

  cut-or-same : (o : Options) (b : Answer) → a ≡ b → IsReadThrough p b → Same o ⊎ CutShort
  cut-or-same o NoMemory e (inl none) = inr (record { early = subst IsEarly (sym e) tt; nothing = none })
  cut-or-same o NoMemory e (inr all) = inl (all-same o all)
  cut-or-same o (ReadFault which) e ends = inr (record { early = subst IsEarly (sym e) tt; nothing = is.untouched (subst ComesBeforeRun (sym e) tt) })
  cut-or-same o (Usage word why) e ends = absurd ends
  cut-or-same o (TooLong which) e ends = by (law s is.gives o (TooLong which) ends)
    where
      by : Same o ⊎ IsEarly (TooLong which) → Same o ⊎ CutShort
      by (inl same) = inl same
      by (inr early) = absurd early
  cut-or-same o (TreeBad line why) e ends = by (law s is.gives o (TreeBad line why) ends)
    where
      by : Same o ⊎ IsEarly (TreeBad line why) → Same o ⊎ CutShort
      by (inl same) = inl same
      by (inr early) = absurd early
  cut-or-same o (BadBind index why) e ends = inl (all-same o ends)
  cut-or-same o (NoStart errno) e ends = inl (all-same o ends)
  cut-or-same o (WriteFault which) e ends = inl (all-same o ends)
  cut-or-same o (Ended status) e ends = inl (all-same o ends)
  cut-or-same o Deadlock e ends = inl (all-same o ends)
  cut-or-same o Spent e ends = inl (all-same o ends)

  asked-same : (o : Options) → ReadsSources (asked words) → Same o ⊎ CutShort
  asked-same o reads = cut-or-same o a refl (is.ends reads)

  -- ---- what is opened

  abbrev Opened : Type 0
  Opened = Agrees (told_by words s) (opened_by words s)

  opened-for : (case : Option ℕ) (o : Options) → (case ≡ None → Same o ⊎ CutShort) → Agrees (told_opened_for case o s.tree.had s.elf.had s.input.had) (opened_for case o (gave s.tree) (gave s.elf) (gave s.input)) ⊎ CutShort
  opened-for (Some n) o f = inl refl
  opened-for None o f = by (f refl)
    where
      by : Same o ⊎ CutShort → Agrees (told_opened_for None o s.tree.had s.elf.had s.input.had) (opened_for None o (gave s.tree) (gave s.elf) (gave s.input)) ⊎ CutShort
      by (inl same) = inl (agrees_then (told_asked o s.tree.had s.elf.had s.input.had) (read_asked o (gave s.tree) (gave s.elf) (gave s.input)) (λ asked. Some (begins asked)) (λ asked. begins asked) same (λ x e. refl))
      by (inr cut) = inr cut

  opened-same : Opened ⊎ CutShort
  opened-same = by (asked words) refl
    where
      by : (w : Result Options Answer) → asked words ≡ w
          → Agrees (and_told (Some w) (λ o. told_opened_for o.case o s.tree.had s.elf.had s.input.had)) (and_then w (λ o. opened_for o.case o (gave s.tree) (gave s.elf) (gave s.input))) ⊎ CutShort
      by (Err refusal) e = inl refl
      by (Ok o) e = opened-for o.case o (λ own. asked-same o (subst ReadsSources (sym e) own))

  -- ---- each promise

  tells : (told : Stage Begun) → Agrees told (opened_by words s) ⊎ CutShort → IfSome told (λ o. TellsOpening o p a)
  tells None either = tt
  tells (Some o) (inl same) = subst (λ o. TellsOpening o p a) (sym same) is.opening
  tells (Some o) (inr cut) = early-told a cut.early p cut.nothing o

  refuses : Refuses a → (told : Stage Begun) → Agrees told (opened_by words s) ⊎ CutShort → IfSome told (λ o. o ≡ Err a)
  refuses refused None either = tt
  refuses refused (Some o) (inl same) = same ∙ is.refusal refused
  refuses refused (Some o) (inr cut) = absurd (not-early a refused cut.early)

  completes : (told : Stage Begun) → Agrees told (opened_by words s) ⊎ CutShort → IfSome told (λ o. IfOk o (λ b. NoneFailed p → (a ≡ (report b).answer) ⊎ (a ≡ NoMemory)))
  completes None either = tt
  completes (Some (Err refusal)) either = tt
  completes (Some (Ok b)) (inl same) = λ none. subst (λ o. IsAnswerOf o a ⊎ (a ≡ NoMemory)) (sym same) (is.complete none)
  completes (Some (Ok b)) (inr cut) = λ none. no-fault-left (asked words) p a (a ≡ (report b).answer) cut.early is.causes none

  calmly : (o : Result Begun Answer) → OpensToldCalmly words s.tree.had s.elf.had s.input.had o → TellsOpening o p a
  calmly o calm = by (asked-same calm.traced.options (subst ReadsSources (sym calm.traced.asks) calm.traced.own))
    where
      by : Same calm.traced.options ⊎ CutShort → TellsOpening o p a
      by (inr cut) = early-told a cut.early p cut.nothing o
      by (inl same) =
          let given : Ok calm.asked_for ≡ read_asked calm.traced.options (gave s.tree) (gave s.elf) (gave s.input) = subst (λ told. Agrees told (read_asked calm.traced.options (gave s.tree) (gave s.elf) (gave s.input))) calm.traced.tells same in
          is.headline o (record {
            asked_for = calm.asked_for;
            traced = record { options = calm.traced.options; asks = calm.traced.asks; gives = sym given; own = calm.traced.own; watched = calm.traced.watched; by_turns = calm.traced.by_turns };
            opens = calm.opens;
            calm = calm.calm;
          })

  quietly : (plan : Plan) (n : Machine Tracing) (table : List Row) (m : Machine Watch) → OpensToldQuietly words s.tree.had s.elf.had s.input.had plan n table m → TellsLoosely plan n table m p a
  quietly plan n table m opens = by (asked-same opens.loosely.options (subst ReadsSources (sym opens.loosely.asks) opens.loosely.own))
    where
      by : Same opens.loosely.options ⊎ CutShort → TellsLoosely plan n table m p a
      by (inr cut) =
          early-image (loose_traced_run plan n) (mounted_by (image_of (loose_traced_run plan n)) table m) plan.user p a (early-ends a cut.early) (not-told a (early-opening a cut.early))
          cut.nothing
      by (inl same) =
          let given : Ok opens.asked_for ≡ read_asked opens.loosely.options (gave s.tree) (gave s.elf) (gave s.input) = subst (λ told. Agrees told (read_asked opens.loosely.options (gave s.tree) (gave s.elf) (gave s.input))) opens.loosely.tells same in
          is.loose plan n table m (record {
            asked_for = opens.asked_for;
            loosely = record {
              options = opens.loosely.options;
              asks = opens.loosely.asks;
              gives = sym given;
              own = opens.loosely.own;
              watched = opens.loosely.watched;
              untold = opens.loosely.untold;
            };
            begins = opens.begins;
          })

  -- ---- sources

  caused : (b : Answer) → a ≡ b → HasCause (asked words) s b → HasToldCause (asked words) (told_tree s.tree.had) (told_listing s.tree.had s.elf.had) s b
  caused (ReadFault TreeSource) e cause = cause
  caused (ReadFault Elf) e cause =
      let before : WantsElf s.tree = subst (IsReadThrough p) e (is.ends cause.0) in
      (cause.0, (has IsWanted (told_tree s.tree.had) (read_tree (gave s.tree)) (agrees_tree s is.gives before.tree_end) cause.1.0, cause.1.1))
  caused (ReadFault Input) e cause =
      let before : IsListed s.tree s.elf = subst (IsReadThrough p) e (is.ends cause.0) in
      (cause.0, (has IsPast (told_listing s.tree.had s.elf.had) (read_listing (gave s.tree) (gave s.elf)) (agrees_listing s is.gives before.listing) cause.1.0, cause.1.1))
  caused (ReadFault Out) e cause = cause
  caused (ReadFault ErrSink) e cause = cause
  caused (ReadFault Left) e cause = cause
  caused NoMemory e cause = tt
  caused (Usage word why) e cause = tt
  caused (TooLong which) e cause = tt
  caused (TreeBad line why) e cause = tt
  caused (BadBind index why) e cause = tt
  caused (NoStart errno) e cause = tt
  caused (WriteFault which) e cause = tt
  caused (Ended status) e cause = tt
  caused Deadlock e cause = tt
  caused Spent e cause = tt

  -- a run that is told comes behind all sources
  told-all : (b : Answer) → TellsRun b → IsReadThrough p b → AllAreRead s
  told-all (Ended status) told all = all
  told-all Deadlock told all = all
  told-all Spent told all = all
  told-all NoMemory told all = absurd told
  told-all (Usage word why) told all = absurd told
  told-all (TooLong which) told all = absurd told
  told-all (TreeBad line why) told all = absurd told
  told-all (BadBind index why) told all = absurd told
  told-all (NoStart errno) told all = absurd told
  told-all (ReadFault which) told all = absurd told
  told-all (WriteFault which) told all = absurd told

  all-read : TellsRun a → ReadsSources (asked words) → AllAreRead s
  all-read told reads = told-all a told (is.ends reads)

  file-end : AllAreRead s → IfSome (told_tree s.tree.had) (λ listing. IsWanted listing → IsAtEnd s.elf.has)
  file-end all = has (λ listing. IsWanted listing → IsAtEnd s.elf.has) (told_tree s.tree.had) (read_tree (gave s.tree)) (agrees_tree s is.gives all.listing.tree_end) (λ wanted. (all.listing.elf_end wanted).none_left)

  pub promised-of-told : IsPromisedOfTold words p a
  promised-of-told = record {
    headline = calmly;
    loose = quietly;
    opening = tells (told_by words s) opened-same;
    refusal = λ refused. refuses refused (told_by words s) opened-same;
    causes = caused a refl is.causes;
    tree_end = λ told reads. (all-read told reads).listing.tree_end.none_left;
    elf_end = λ told reads. file-end (all-read told reads);
    input_end = λ told reads. (all-read told reads).input_end.none_left;
    complete = completes (told_by words s) opened-same;
  }

pub promises_hold_of_told : SourcesThatTellAgree → PromisesHoldOfTold
promises_hold_of_told law words p a is = promised-of-told law words p a is
