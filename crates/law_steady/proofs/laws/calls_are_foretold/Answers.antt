use Rattle.law_steady.proofs.AheadLemmas.{calls_are_foretold}
use Rattle.law_steady.proofs.laws.calls_are_foretold.Goals as goal

pub returns : goal.returns
returns g c = calls_are_foretold _
