-- What the promises say of sources that tell what they have left: the opening of those bytes, where it is known, is answered and put.
use Rattle.std.specs.Prelude.{◌≡◌, ◌⊎◌, ℕ, false, List, [], Option, Some, None, IfOk, IfSome, Result, Ok, Err}
use Rattle.std.specs.Io.KnownBytes.{IsAtEnd}
use Rattle.law_loosely.specs.law_machines.kr_inode.declared.user.User.{User}
use Rattle.law_loosely.specs.law_machines.kr_tree.Tree.{Tree}
use Rattle.law_loosely.specs.law_machines.kr_turns.Turn.{Machine}
use Rattle.law_loosely.specs.law_machines.kr_view.View.{Row}
use Rattle.law_loosely.specs.law_machines.pr_run.declared.plan.Plan.{Plan}
use Rattle.law_loosely.specs.law_machines.pr_start.Machines.{Watch}
use Rattle.law_loosely.specs.law_machines.pr_start.TracedBeginning.{Tracing}
use Rattle.law_loosely.specs.law_machines.pr_words.declared.options.Options.{Options}
use Rattle.law_loosely.specs.law_machines.pr_io.Drawn.{SourceFailed}
use Rattle.law_loosely.specs.law_machines.pr_sources.declared.answer.Answer.{Answer}
use Rattle.law_loosely.specs.law_machines.pr_sources.declared.answer.Answer.TheVariants.{NoMemory, ReadFault}
use Rattle.law_loosely.specs.law_machines.pr_sources.declared.answer.Which.{Which}
use Rattle.law_loosely.specs.law_machines.pr_sources.declared.answer.Which.TheVariants.{Tree as TreeSource, Elf, Input}
use Rattle.law_loosely.specs.law_machines.pr_sources.Asking.{asked}
use Rattle.law_loosely.specs.law_machines.pr_sources.Reading.{AreDrawn, HasCause, IsPast, IsWanted, ReadsSources, Sources}
use Rattle.law_loosely.specs.law_machines.pr_sources.Telling.{Stage, and_told, told_asked, told_listing, told_tree}
use Rattle.law_loosely.specs.law_machines.pr_sources.declared.reading.Asked.{Asked}
use Rattle.law_loosely.specs.law_machines.pr_top.Opening.{Begun, begins, case_begun, report}
use Rattle.law_loosely.specs.law_machines.Openings.{over_mounts}
use Rattle.pr_call.specs.Headline.{Headline, IsCalmOpening}
use Rattle.pr_call.specs.LooseHeadline.{BeginsQuietly, LooseHeadline, TellsLoosely}
use Rattle.pr_call.specs.Promise.{ComesBeforeRun, IsComplete, IsReadThrough, IsTold, NoneFailed, NothingIsPut, Passed, Refuses, TellsOpening, TellsRun, opened_by}

-- ---- the opening of what sources have left

abbrev pub told_opened_for : Option ℕ → Options → Option (List ℕ) → Option (List ℕ) → Option (List ℕ) → Stage Begun
told_opened_for (Some n) options tree elf input = Some (case_begun n options)
told_opened_for None options tree elf input = and_told (told_asked options tree elf input) (λ asked. Some (begins asked))

abbrev pub told_opening : List (List ℕ) → Option (List ℕ) → Option (List ℕ) → Option (List ℕ) → Stage Begun
told_opening words tree elf input = and_told (Some (asked words)) (λ options. told_opened_for options.case options tree elf input)

-- that of the sources of a call
abbrev pub told_by : List (List ℕ) → Sources → Stage Begun
told_by words s = told_opening words s.tree.had s.elf.had s.input.had

-- what words ask for of sources that tell: not for a generated case, not for mounts, and not for single steps
pub record AsksToldTraced (words : List (List ℕ)) (tree elf input : Option (List ℕ)) (a : Asked) : Type 0 where
  pub options : Options
  pub asks : asked words ≡ Ok options
  pub tells : told_asked options tree elf input ≡ Some (Ok a)
  pub own : options.case ≡ None
  pub watched : options.native ≡ false
  pub by_turns : options.loose ≡ []

-- of the same this is opened over mounts, calmly
pub record OpensToldCalmly (words : List (List ℕ)) (tree elf input : Option (List ℕ)) (opened : Result Begun Answer) : Type 0 where
  pub asked_for : Asked
  pub traced : AsksToldTraced words tree elf input asked_for
  pub opens : over_mounts asked_for ≡ opened
  pub calm : IsCalmOpening asked_for opened

-- not for a generated case, not for mounts, and not for an identity
pub record AsksToldUntold (words : List (List ℕ)) (tree elf input : Option (List ℕ)) (a : Asked) : Type 0 where
  pub options : Options
  pub asks : asked words ≡ Ok options
  pub tells : told_asked options tree elf input ≡ Some (Ok a)
  pub own : options.case ≡ None
  pub watched : options.native ≡ false
  pub untold : options.ids ≡ None

-- of the same a loose run begins that is quiet, and over mounts what it stands for, calmly
pub record OpensToldQuietly (words : List (List ℕ)) (tree elf input : Option (List ℕ)) (plan : Plan) (n : Machine Tracing) (table : List Row) (m : Machine Watch) : Type 0 where
  pub asked_for : Asked
  pub loosely : AsksToldUntold words tree elf input asked_for
  pub begins : BeginsQuietly asked_for plan n table m

-- ---- where faults come

abbrev pub ToldFaultHasCause : Stage (List ℕ) → Stage (Tree × User) → Sources → Which → Type 0
ToldFaultHasCause tree listing s TreeSource = SourceFailed s.tree
ToldFaultHasCause tree listing s Elf = IfSome tree IsWanted × SourceFailed s.elf
ToldFaultHasCause tree listing s Input = IfSome listing IsPast × SourceFailed s.input
ToldFaultHasCause tree listing s which = ⊥

abbrev pub HasToldCause : Result Options Answer → Stage (List ℕ) → Stage (Tree × User) → Sources → Answer → Type 0
HasToldCause words tree listing s (ReadFault which) = ReadsSources words × ToldFaultHasCause tree listing s which
HasToldCause words tree listing s answer = Unit {0}

-- ---- what is promised, and what that says then

-- the promises of the top call from which the others follow
pub record IsPromised (words : List (List ℕ)) (p : Passed) (answer : Answer) : Type 0 where
  pub headline : Headline words p answer
  pub loose : LooseHeadline words p answer
  pub opening : IsTold words p answer
  pub refusal : Refuses answer → opened_by words p.sources ≡ Err answer
  pub gives : AreDrawn p.sources
  pub ends : ReadsSources (asked words) → IsReadThrough p answer
  pub untouched : ComesBeforeRun answer → NothingIsPut p
  pub causes : HasCause (asked words) p.sources answer
  pub complete : IsComplete words p answer

pub record IsPromisedOfTold (words : List (List ℕ)) (p : Passed) (answer : Answer) : Type 0 where
  pub headline : (o : Result Begun Answer) → OpensToldCalmly words p.sources.tree.had p.sources.elf.had p.sources.input.had o → TellsOpening o p answer
  pub loose : (plan : Plan) (n : Machine Tracing) (table : List Row) (m : Machine Watch) → OpensToldQuietly words p.sources.tree.had p.sources.elf.had p.sources.input.had plan n table m
      → TellsLoosely plan n table m p answer
  pub opening : IfSome (told_by words p.sources) (λ o. TellsOpening o p answer)
  pub refusal : Refuses answer → IfSome (told_by words p.sources) (λ o. o ≡ Err answer)
  pub causes : HasToldCause (asked words) (told_tree p.sources.tree.had) (told_listing p.sources.tree.had p.sources.elf.had) p.sources answer
  pub tree_end : TellsRun answer → ReadsSources (asked words) → IsAtEnd p.sources.tree.has
  pub elf_end : TellsRun answer → ReadsSources (asked words) → IfSome (told_tree p.sources.tree.had) (λ listing. IsWanted listing → IsAtEnd p.sources.elf.has)
  pub input_end : TellsRun answer → ReadsSources (asked words) → IsAtEnd p.sources.input.has
  pub complete : IfSome (told_by words p.sources) (λ o. IfOk o (λ b. NoneFailed p → (answer ≡ (report b).answer) ⊎ (answer ≡ NoMemory)))

abbrev pub PromisesHoldOfTold : Type 0
PromisesHoldOfTold = (words : List (List ℕ)) (p : Passed) (answer : Answer) → IsPromised words p answer → IsPromisedOfTold words p answer
