use Rattle.std.proofs.Common.{sym, ap, ◌∙◌}
use Rattle.kr_ops.specs.kr_model.Seen.{OpensFound, Opens, WalkFails}
use Rattle.kr_ops.specs.kr_model.Walks.{looked_at}
use Rattle.kr_ops.specs.Meaning.{meaning}
use Rattle.kr_seen.specs.Numbered.{state_numbered}
use Rattle.kr_ops.specs.kr_view.Leads.{numbered}
use Rattle.kr_ops.specs.pr_base.declared.errno.Errno.TheVariants.{ENOENT}
use Rattle.std.specs.Option.{option_map, option_map_or}
use Rattle.kr_seen.specs.Placed.{placed_in}
use Rattle.kr_seen.proofs.TakenLemmas.{opened-new, opened-found}
use Rattle.kr_seen.proofs.targets.opened.Goals as goal

pub returns-then-creates : goal.returns-then-creates
returns-then-creates g c = λ pid.
    let s = state_numbered g.P.Places.number (meaning c.args.state.now) in
    ap Opens (c.created.ensures pid) ∙ opened-new (g.P.Places.mounts c.args.places.now) pid s c.args.flags (placed_in g.P.Places.number c.args.target.now) (sym c.creates.ensures ∙ c.if-creates.true)

pub returns-in-Some : goal.returns-in-Some
returns-in-Some g c = λ pid.
    let s = state_numbered g.P.Places.number (meaning c.args.state.now) in
    let target = placed_in g.P.Places.number c.args.target.now in
    let table = g.P.Places.mounts c.args.places.now in
    ap (λ l. Opens (OpensFound l)) (c.looked_at.ensures pid)
    ∙ ap (λ o. option_map_or (λ p. Opens (OpensFound (looked_at table pid s target p))) (option_map (numbered g.P.Places.number) o) (WalkFails ENOENT)) (sym c.in-Some.is)
    ∙ opened-found table pid s c.args.flags target (sym c.creates.ensures ∙ c.if-creates.false)
