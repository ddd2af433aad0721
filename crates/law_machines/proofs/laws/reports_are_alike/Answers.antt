use Rattle.law_machines.proofs.ReportLemmas.{reports_are_alike}
use Rattle.law_machines.proofs.laws.reports_are_alike.Goals as goal

pub returns : goal.returns
returns g c = reports_are_alike _ _
