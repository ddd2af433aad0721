-- What the words ask for.
use Rattle.std.specs.Prelude.{◌≡◌, ℕ, List, Result, Ok, Err}
use Rattle.pr_words.specs.declared.options.Options.{Options}
use Rattle.pr_words.specs.declared.fault.WordsFault.{WordsFault}
use Rattle.pr_words.specs.declared.fault.WordsFault.TheVariants as fault
use Rattle.pr_words.specs.Reading.{reading_of}
use Rattle.pr_sources.specs.declared.answer.Answer.{Answer}
use Rattle.pr_sources.specs.declared.answer.Answer.TheVariants.{NoMemory, Usage}

abbrev pub as_answer : WordsFault → Answer
as_answer (fault.Usage word why) = Usage word why
as_answer fault.NoMemory = NoMemory

abbrev pub asked_of : Result Options WordsFault → Result Options Answer
asked_of (Ok o) = Ok o
asked_of (Err e) = Err (as_answer e)

-- the options in the words, or the first word that breaks a rule
abbrev pub asked : List (List ℕ) → Result Options Answer
asked words = asked_of (reading_of words)

-- what reading words answers where there are no options
abbrev pub IsOfAsking : Answer → Type 0
IsOfAsking (Usage word why) = Unit {0}
IsOfAsking NoMemory = Unit {0}
IsOfAsking answer = ⊥

-- an answer is the expected one, but for want of memory
abbrev pub IsRefused : {A : Type 0} → Result A Answer → Answer → Type 0
IsRefused expected NoMemory = Unit {0}
IsRefused expected answer = expected ≡ Err answer

abbrev pub IsUnlessNoMemory : {A : Type 0} → Result A Answer → Result A Answer → Type 0
IsUnlessNoMemory expected (Ok x) = expected ≡ Ok x
IsUnlessNoMemory expected (Err answer) = IsRefused expected answer
