-- What a reader answers, where memory may run out.
use Rattle.std.specs.Prelude.{◌≡◌, Result, Ok, Err}
use Rattle.pr_words.specs.declared.fault.Why.{Why}
use Rattle.pr_words.specs.declared.fault.OptionFault.{OptionFault}
use Rattle.pr_words.specs.declared.fault.OptionFault.TheVariants.{Broken, NoMemory}
use Rattle.pr_words.specs.declared.fault.WordsFault.{WordsFault}
use Rattle.pr_words.specs.declared.fault.WordsFault.TheVariants.{Usage, NoMemory as NoMemoryForWords}

-- the answer is the expected one, or memory ran out
abbrev pub IsRead : {A : Type 0} → Result A Why → Result A OptionFault → Type 0
IsRead expected (Ok x) = expected ≡ Ok x
IsRead expected (Err (Broken why)) = expected ≡ Err why
IsRead expected (Err NoMemory) = Unit {0}

-- the same for whole words
abbrev pub IsAnswer : {A : Type 0} → Result A WordsFault → Result A WordsFault → Type 0
IsAnswer expected (Ok x) = expected ≡ Ok x
IsAnswer expected (Err (Usage word why)) = expected ≡ Err (Usage word why)
IsAnswer expected (Err NoMemoryForWords) = Unit {0}
