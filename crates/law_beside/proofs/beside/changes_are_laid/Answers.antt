use Rattle.law_beside.proofs.BesideLemmas.{changes_are_laid}
use Rattle.law_beside.proofs.beside.changes_are_laid.Goals as goal

pub returns : goal.returns
returns g c = changes_are_laid _
