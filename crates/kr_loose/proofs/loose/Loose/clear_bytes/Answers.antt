use Rattle.std.proofs.Common.{subst, sym}
use Rattle.kr_loose.specs.Behind.{IsBehind, kept_of}
use Rattle.kr_loose.proofs.GoneLemmas.{still-behind}
use Rattle.kr_loose.proofs.loose.Loose.clear_bytes.Goals as goal

pub returns-clause-behind : goal.returns-clause-behind
returns-clause-behind g c = λ met_at_start steps behind.
    let clears = c.clear_bytes.ensures in
    let judge = c.args.self.now.judge in
    subst (λ pl. IsBehind g.S.Stops.asks g.row.MARKED (g.P.Places.mounts pl) met_at_start steps (kept_of c.clear_bytes.new.self judge)) (sym clears.places)
    (still-behind g.S.Stops.asks (g.P.Places.mounts c.args.self.now.kernel.places) c.args.self.now.kernel c.clear_bytes.new.self judge clears.paused clears.met clears.shape_changes clears.byte_changes met_at_start steps behind)
