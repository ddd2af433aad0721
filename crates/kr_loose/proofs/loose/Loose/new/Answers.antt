use Rattle.std.proofs.Common.{refl}
use Rattle.kr_loose.specs.Behind.{kept_of}
use Rattle.kr_loose.proofs.BehindLemmas.{behind-start}
use Rattle.kr_loose.proofs.loose.Loose.new.Goals as goal

pub returns-clause-behind : goal.returns-clause-behind
returns-clause-behind g c = behind-start g.S.Stops.asks g.row.MARKED _ c.args.kernel.met (kept_of c.args.kernel c.new-judge.result) c.requires.running refl c.new-judge.ensures.undisturbed
