-- Ends of reading a source.
use Rattle.pr_io.specs.Drawn.{Drawn}
use Rattle.pr_sources.specs.declared.answer.Answer.{Answer}
use Rattle.pr_sources.specs.declared.answer.Answer.TheVariants.{Ended, Deadlock, Spent, Usage, TooLong, TreeBad, BadBind, NoStart, ReadFault, WriteFault, NoMemory}
use Rattle.pr_sources.specs.declared.answer.Which.{Which}
use Rattle.pr_sources.specs.Within.{IsEarly, IsReadEnd}

-- a read that ended early
pub is_early : (which : Which) (d : Drawn) (answer : Answer) → IsReadEnd which d answer → IsEarly answer
is_early which d NoMemory end = tt
is_early which d (ReadFault w) end = tt
is_early which d (TooLong w) end = end
is_early which d (Ended status) end = end
is_early which d Deadlock end = end
is_early which d Spent end = end
is_early which d (Usage word why) end = end
is_early which d (TreeBad line why) end = end
is_early which d (BadBind index why) end = end
is_early which d (NoStart errno) end = end
is_early which d (WriteFault w) end = end
