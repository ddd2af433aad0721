-- What a reader answers, where memory may run out.
use Rattle.std.specs.Prelude.{◌≡◌, Result, Ok, Err}
use Rattle.kr_text.specs.declared.fault.TreeWhy.{TreeWhy}
use Rattle.kr_text.specs.declared.fault.LineFault.{LineFault}
use Rattle.kr_text.specs.declared.fault.LineFault.TheVariants.{Bad, NoMemory}

-- the answer is the expected one, or memory ran out
abbrev pub IsRead : {A : Type 0} → Result A TreeWhy → Result A LineFault → Type 0
IsRead expected (Ok x) = expected ≡ Ok x
IsRead expected (Err (Bad why)) = expected ≡ Err why
IsRead expected (Err NoMemory) = Unit {0}

-- what stands after a change is the expected value, or memory ran out
abbrev pub Changes : {A : Type 0} → Result A TreeWhy → Result (Unit {0}) LineFault → A → Type 0
Changes expected (Ok done) after = expected ≡ Ok after
Changes expected (Err (Bad why)) after = expected ≡ Err why
Changes expected (Err NoMemory) after = Unit {0}
