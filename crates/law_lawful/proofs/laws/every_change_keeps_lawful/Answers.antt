use Rattle.law_lawful.proofs.ChangeLemmas.{every-change-keeps}
use Rattle.law_lawful.proofs.laws.every_change_keeps_lawful.Goals as goal

pub returns : goal.returns
returns g c = every-change-keeps _
