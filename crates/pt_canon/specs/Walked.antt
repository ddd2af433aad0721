-- What the steps of an answer leave of a walker. No public clause cites this module.
use Rattle.std.specs.Prelude.{Bool, Option, Result, Ok, Err, if◌then◌else◌}
use Rattle.pt_canon.specs.KeptAnswers.{after_recall}
use Rattle.pt_canon.specs.Remembering.{Key, Walking, with_newest}
use Rattle.pt_canon.specs.declared.canon.Canon.{Canon}
use Rattle.pt_canon.specs.declared.canon.WalkErr.{WalkErr}
use Rattle.pt_canon.specs.declared.walker.Walked.{Walked}

-- the answer of a walk, whether it is steady or not
abbrev pub answer_of : Result Walked WalkErr → Result Canon WalkErr
answer_of (Ok walked) = Ok walked.canon
answer_of (Err e) = Err e

-- with the answer for a key as the newest, where it is remembered
abbrev pub recalled : {E : Type 0} → Walking → Key → Result (Option Canon) E → Walking
recalled w key result = record { table = w.table; pauses = w.pauses; remembered = after_recall w.remembered key result }

-- with an answer whose walk is steady
abbrev pub noted : {E : Type 0} → Walking → Key → Bool → Result Canon E → Walking
noted w key steady (Ok canon) = if steady then record { table = w.table; pauses = w.pauses; remembered = with_newest key canon w.remembered } else w
noted w key steady (Err e) = w
