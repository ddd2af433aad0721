use Rattle.std.proofs.Common.{ap, sym, ◌∙◌, Some}
use Rattle.kr_ops.specs.Meaning.{meaning}
use Rattle.kr_seen.specs.Numbered.{state_numbered}
use Rattle.kr_ops.specs.kr_view.Leads.{numbered}
use Rattle.kr_seen.specs.Placed.{placed_in}
use Rattle.kr_seen.specs.Told.{entry_told}
use Rattle.kr_seen.proofs.TakenLemmas.{of-directory, of-other, looked_with}
use Rattle.std.specs.Option.{option_map}
use Rattle.kr_seen.proofs.targets.looked_at.Goals as goal
use Rattle.kr_seen.proofs.targets.looked_at.Goals.{then-is_directory_host, else-is_directory_host}

pub returns : goal.returns
returns g c = λ pid.
    let s = state_numbered g.P.Places.number (meaning c.args.state.now) in
    let target = placed_in g.P.Places.number c.args.target.now in
    let found = numbered g.P.Places.number c.args.found in
    elim c.if-is_directory_host.branch [
      | then-is_directory_host w ↦ ap (λ o. looked_with c.args.found.host (option_map entry_told o)) w.entry-is ∙ of-directory (g.P.Places.mounts c.args.places.now) pid s target found (sym c.is_directory_host.ensures.tree ∙ w.if-is_directory_host.true)
      | else-is_directory_host w ↦ ap (λ o. looked_with c.args.found.host (option_map entry_told o)) w.entry-is ∙ ap (λ e. looked_with c.args.found.host (Some e)) (w.entry_of.ensures pid s) ∙ of-other (g.P.Places.mounts c.args.places.now) pid s target found (sym c.is_directory_host.ensures.tree ∙ w.if-is_directory_host.false)
    ]
