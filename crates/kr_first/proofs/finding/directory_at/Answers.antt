use Rattle.std.proofs.Common.{ℕ, Err, sym, ap, subst, ◌∙◌}
use Rattle.std.specs.Option.{option_and_then}
use Rattle.kr_start.specs.pr_base.declared.path.WalkMode.TheVariants.{Look}
use Rattle.kr_start.specs.kr_tree.declared.place.Place.{Place}
use Rattle.kr_execve.specs.kr_view.declared.target.Target.{Target}
use Rattle.kr_execve.specs.kr_view.declared.target.WalkFault.{WalkFault}
use Rattle.kr_execve.specs.kr_view.Answers.{IsReached}
use Rattle.kr_execve.specs.kr_view.Leads.{numbered}
use Rattle.kr_execve.specs.kr_view.Reach.{reach_after}
use Rattle.kr_execve.specs.kr_view.Walk.{place_walk}
use Rattle.kr_first.specs.Starting.{around, directory_found, if_directory}
use Rattle.kr_first.proofs.finding.directory_at.Goals as goal

pub returns-in-Ok-clause-place : goal.returns-in-Ok-clause-place
returns-in-Ok-clause-place g c =
    let number = g.P.Places.number in
    let tree = c.args.tree.now in
    let through = around (g.P.Places.mounts c.args.places.now) tree c.args.user in
    let w = c.in-Ok.ensures.answer in
    let ends = ap (λ (base : Place ℕ). (place_walk through Look base c.args.path.now).answer) (sym c.root.ensures) ∙ w.1 in
    c.directory_found.ensures number ∙ sym (ap (directory_found tree) ends ∙ ap (λ (t : Target ℕ). option_and_then (if_directory tree) t.found) w.2)

pub returns-in-Ok-clause-reach : goal.returns-in-Ok-clause-reach
returns-in-Ok-clause-reach g c =
    let through = around (g.P.Places.mounts c.args.places.now) c.args.tree.now c.args.user in
    c.in-Ok.ensures.reach ∙ ap (λ (base : Place ℕ). reach_after through Look (place_walk through Look base c.args.path.now) c.args.reach.now) c.root.ensures

pub returns-in-Err-Err-clause-reach : goal.returns-in-Err-Err-clause-reach
returns-in-Err-Err-clause-reach g c =
    let through = around (g.P.Places.mounts c.args.places.now) c.args.tree.now c.args.user in
    let begins = numbered g.P.Places.number c.root.result in
    subst (λ (f : WalkFault). IsReached {T = Target g.row.P-Mount.Denot} through Look (place_walk through Look begins c.args.path.now) c.args.reach.now c.resolve.new.reach (Err f)) c.in-Err-Err.field-0-is c.in-Err-Err.ensures.reach
    ∙ ap (λ (base : Place ℕ). reach_after through Look (place_walk through Look base c.args.path.now) c.args.reach.now) c.root.ensures
