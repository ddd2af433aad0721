use Rattle.kr_hostview.proofs.LawLemmas.{lawful-on-host}
use Rattle.kr_hostview.proofs.laws.lawful_on_host.Goals as goal

pub returns : goal.returns
returns g c = lawful-on-host
