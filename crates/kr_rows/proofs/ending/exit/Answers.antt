use Rattle.std.proofs.Common.{◌*◌, refl, sym, ap, ◌∙◌, [], ◌∷◌, w32, pos, unsigned_abs}
use Rattle.std.specs.Int.{int_rem_euclid}
use Rattle.std.proofs.Math.Facts.{to_z-of_z}
use Rattle.kr_seen.specs.kr_model.Change.{End}
use Rattle.kr_seen.specs.kr_model.Reply.{ends}
use Rattle.kr_seen.specs.kr_model.declared.outcome.Outcome.TheVariants.{Ended}
use Rattle.kr_seen.proofs.PerformLemmas.{by-reply}
use Rattle.kr_rows.proofs.ending.exit.Goals as goal

pub returns-in-Ok-clause-performs : goal.returns-in-Ok-clause-performs
returns-in-Ok-clause-performs g c = λ some.
    by-reply c.args.pid _ c.args.state.now c.end.new.self Ended c.requires.lawful.pids (record { outcome = Ended; changes = End c.exit_status.result ∷ [] })
    (ap (λ z. ends (unsigned_abs (int_rem_euclid z (pos 256)) * 256)) (sym (to_z-of_z {w = w32} {z = c.args.code} c.ranges.code)) ∙ ap ends (sym c.exit_status.ensures))
    refl c.in-Ok.ensures.makes
