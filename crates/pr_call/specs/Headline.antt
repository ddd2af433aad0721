-- The same words and bytes over mounts: what they open there, where that is calm. Without `--native`, `--case` and `--loose` the public call answers and puts
-- what is told of it.
use Rattle.std.specs.Prelude.{◌≡◌, ℕ, false, List, [], None, Result, Ok, Err}
use Rattle.law_loosely.specs.law_machines.pr_io.Drawn.{gave}
use Rattle.law_loosely.specs.law_machines.kr_view.View.{Row}
use Rattle.law_loosely.specs.law_machines.Given.{settled_in}
use Rattle.law_loosely.specs.law_machines.pr_words.declared.options.Options.{Options}
use Rattle.law_loosely.specs.law_machines.pr_sources.declared.answer.Answer.{Answer}
use Rattle.law_loosely.specs.law_machines.pr_sources.Asking.{asked}
use Rattle.law_loosely.specs.law_machines.pr_sources.Reading.{read_asked}
use Rattle.law_loosely.specs.law_machines.pr_sources.declared.reading.Asked.{Asked}
use Rattle.law_loosely.specs.law_machines.pr_top.Opening.{Begun}
use Rattle.law_loosely.specs.law_machines.Openings.{IsCalmRun, IsCalmStart, over_mounts}
use Rattle.pr_call.specs.Promise.{Passed, TellsOpening}

-- what words ask for of the bytes of sources: not for a generated case, not for mounts, and not for single steps
pub record AsksTraced (words : List (List ℕ)) (tree elf input : List ℕ) (a : Asked) : Type 0 where
  pub options : Options
  pub asks : asked words ≡ Ok options
  pub gives : read_asked options tree elf input ≡ Ok a
  pub own : options.case ≡ None
  pub watched : options.native ≡ false
  pub by_turns : options.loose ≡ []

-- a run that breaks no calm rule; or a refusal: of bindings that don't settle, or of a start whose walks break none
abbrev pub IsCalmOpening : Asked → Result Begun Answer → Type 0
IsCalmOpening a (Ok b) = IsCalmRun b.plan b.started
IsCalmOpening a (Err refusal) = (table : List Row) → (settled_in a).answer ≡ Ok table → IsCalmStart a table

-- of the same this is opened over mounts, calmly
pub record OpensCalmly (words : List (List ℕ)) (tree elf input : List ℕ) (opened : Result Begun Answer) : Type 0 where
  pub asked_for : Asked
  pub traced : AsksTraced words tree elf input asked_for
  pub opens : over_mounts asked_for ≡ opened
  pub calm : IsCalmOpening asked_for opened

-- this holds of what is opened so
abbrev pub OfCalmOpening : (words : List (List ℕ)) (tree elf input : List ℕ) → (Result Begun Answer → Type 0) → Type 0
OfCalmOpening words tree elf input P = (opened : Result Begun Answer) → OpensCalmly words tree elf input opened → P opened

-- the headline: what is told is that of what the bytes that were given open so
abbrev pub Headline : List (List ℕ) → Passed → Answer → Type 0
Headline words p answer = OfCalmOpening words (gave p.sources.tree) (gave p.sources.elf) (gave p.sources.input) (λ o. TellsOpening o p answer)
