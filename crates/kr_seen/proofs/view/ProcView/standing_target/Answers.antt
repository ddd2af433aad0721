use Rattle.std.proofs.Common.{subst, sym}
use Rattle.kr_seen.specs.Held.{shown_of}
use Rattle.kr_seen.specs.Standing.{IsStanding}
use Rattle.kr_seen.proofs.StandingLemmas.{standing}
use Rattle.kr_seen.proofs.view.ProcView.standing_target.Goals as goal

pub returns-clause-stands : goal.returns-clause-stands
returns-clause-stands g c =
    subst (IsStanding g.P.Places.number c.args.self.now.state.tree c.args.self.now.table) (sym c.target.ensures)
    (standing g.P.Places.number (shown_of c.args.self.now) c.is_lawful.ensures.lawful c.is_lawful.ensures.root c.args.at)
