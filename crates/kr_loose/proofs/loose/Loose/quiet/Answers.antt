use Rattle.std.proofs.Common.{Bool, ap, ◌∙◌}
use Rattle.std.specs.Prelude.{◌&&◌, not}
use Rattle.kr_loose.specs.Behind.{kept_of}
use Rattle.kr_loose.proofs.BehindLemmas.{quiet-told}
use Rattle.kr_loose.proofs.loose.Loose.quiet.Goals as goal

pub returns : goal.returns
returns g c = λ met_at_start steps behind.
    quiet-told g.S.Stops.asks g.row.MARKED _ (kept_of c.args.self.now.kernel c.args.self.now.judge) c.unless.result (c.unless.ensures ∙ ap (λ (b : Bool). c.args.self.now.judge.undisturbed && not b) c.met_proc.ensures) met_at_start steps behind
