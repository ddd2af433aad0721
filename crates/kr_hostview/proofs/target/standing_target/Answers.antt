use Rattle.std.proofs.Common.{subst, sym}
use Rattle.kr_seen.specs.kr_view.View.{plain}
use Rattle.kr_seen.specs.kr_ops.Meaning.{meaning}
use Rattle.kr_seen.specs.Standing.{IsStanding}
use Rattle.kr_hostview.specs.OnHost.{number}
use Rattle.kr_hostview.proofs.HostLemmas.{standing}
use Rattle.kr_hostview.proofs.target.standing_target.Goals as goal

pub returns-clause-stands : goal.returns-clause-stands
returns-clause-stands g c =
    subst (IsStanding number c.args.state.now.tree plain) (sym c.target.ensures) (standing c.requires.number c.requires.table (meaning c.args.state.now) c.requires.lawful c.args.at)
