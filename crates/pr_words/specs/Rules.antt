-- The rules by their numbers.
use Rattle.std.specs.Prelude.{ℕ, nat_le, if◌then◌else◌}
use Rattle.pr_words.specs.declared.fault.Why.{Why}
use Rattle.pr_words.specs.declared.fault.Why.TheVariants.{Unknown, NoValue, BadNumber, BadSchedule, BadBind, BadEnv, Twice, CalmAlone, CaseAlone, ZeroByte, BadId, LooseAlone}

abbrev pub number_of_rule : Why → ℕ
number_of_rule Unknown = 1
number_of_rule NoValue = 2
number_of_rule BadNumber = 3
number_of_rule BadSchedule = 4
number_of_rule BadBind = 5
number_of_rule BadEnv = 6
number_of_rule Twice = 7
number_of_rule CalmAlone = 8
number_of_rule CaseAlone = 9
number_of_rule ZeroByte = 10
number_of_rule BadId = 11
number_of_rule LooseAlone = 12

-- of two rules the one with the smaller number
abbrev pub smaller : Why → Why → Why
smaller a b = if nat_le (number_of_rule a) (number_of_rule b) then a else b
