use Rattle.law_marks.proofs.WatcherLemmas.{watchers_see_no_marks}
use Rattle.law_marks.proofs.runs.watchers_see_no_marks.Goals as goal

pub returns : goal.returns
returns g c = watchers_see_no_marks _
