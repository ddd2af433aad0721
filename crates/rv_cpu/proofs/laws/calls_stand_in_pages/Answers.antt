use Rattle.rv_cpu.proofs.CallLemmas.{calls-stand-in-pages}
use Rattle.rv_cpu.proofs.laws.calls_stand_in_pages.Goals as goal

pub returns : goal.returns
returns c = calls-stand-in-pages
