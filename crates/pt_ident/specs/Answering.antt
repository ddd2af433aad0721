-- What is answered before the memory of the process is looked at.
use Rattle.std.specs.Prelude.{Option, Some, None, List, ℕ, Result, Ok, Err}
use Rattle.kr_inode.specs.pr_base.declared.errno.Errno.{Errno}
use Rattle.pt_ident.specs.declared.calls.IdAnswer.{IdAnswer}
use Rattle.pt_ident.specs.declared.calls.IdAnswer.TheVariants.{Value, Three, Groups, SetGroups}
use Rattle.pt_ident.specs.Identity.{Identity, Numbers, Effect, Answers, TellsNumbers, TellsGroups, TakesGroups, numbers_of, three_of}

abbrev pub answer_of : Effect → IdAnswer
answer_of (Answers n after) = Value n
answer_of (TellsNumbers n real effective saved) = Three (three_of n)
answer_of (TellsGroups at) = Groups
answer_of (TakesGroups count at) = SetGroups

-- memory alone changes nothing of it yet
abbrev pub identity_of : Identity → Effect → Identity
identity_of old (Answers n after) = after
identity_of old (TellsNumbers n real effective saved) = old
identity_of old (TellsGroups at) = old
identity_of old (TakesGroups count at) = old

-- the same where there is such a call
abbrev pub identity_behind : Identity → Option Effect → Identity
identity_behind old None = old
identity_behind old (Some effect) = identity_of old effect

-- three numbers in an array, as those of a user or of a group
abbrev pub seen : Result (List ℕ) Errno → Result Numbers Errno
seen (Ok three) = Ok (numbers_of three)
seen (Err e) = Err e
