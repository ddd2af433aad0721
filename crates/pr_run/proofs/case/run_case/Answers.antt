use Rattle.std.proofs.Common.{◌≡◌, ap, sym, ◌∙◌}
use Rattle.pr_sources.specs.kr_tree.Tree.{Tree}
use Rattle.pr_sources.specs.kr_text.Canonical.{canonical}
use Rattle.kr_loose.specs.kr_core.Kernel.{machine}
use Rattle.kr_loose.specs.kr_turns.Turn.{Machine}
use Rattle.pr_run.specs.Case.{agree, outcome, told_of}
use Rattle.pr_run.specs.Keeping.{kept_told}
use Rattle.pr_run.specs.Slots.{run_of}
use Rattle.pr_run.proofs.KeepLemmas.{if-ok}
use Rattle.pr_run.proofs.case.run_case.Goals as goal

pub returns : goal.returns
returns g c =
    let user = c.args.plan.now.user in
    let one = run_of g.S.Graphed.part g.S.Graphed.does g.P.Places.mounts g.P.Places.number c.args.plan.now c.args.watched.now in
    let other = run_of g.T.Graphed.part g.T.Graphed.does g.Q.Places.mounts g.Q.Places.number c.args.plan.now c.args.mounted.now in
    let first : kept_told c.in_ok-kept.kept c.tree.result.now ≡ outcome one = ap (kept_told c.in_ok-kept.kept) c.tree.ensures ∙ c.in_ok-kept.ensures.kept in
    let second : kept_told c.in_ok-other.other c.tree-2.result.now ≡ outcome other = ap (kept_told c.in_ok-other.other) c.tree-2.ensures ∙ c.in_ok-other.ensures.kept in
    let listing : canonical c.tree.result.now user ≡ canonical one.machine.state.tree user =
    ap (λ (t : Tree). canonical t user) (c.tree.ensures ∙ sym (ap (λ (m : Machine g.S.Graphed.Part). m.state.tree) c.in_ok-kept.ensures.machine)) in
    if-ok c.tell.result (λ told is. is ∙ (λ i. told_of c.args.case (first i) (listing i) (agree (first i) (second i)))) c.tell.ensures
