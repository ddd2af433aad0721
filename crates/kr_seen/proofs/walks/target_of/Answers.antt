use Rattle.std.proofs.Common.{refl, sym, ◌∙◌, subst}
use Rattle.std.specs.Prelude.{Option, Ok, Err}
use Rattle.std.proofs.lemmas.Result.{err_from_is_err_and}
use Rattle.kr_ops.specs.kr_calls.PathTable.{path_use}
use Rattle.kr_ops.specs.kr_view.Answers.{IsAnswer, IsReached}
use Rattle.kr_ops.specs.kr_view.Leads.{numbered}
use Rattle.kr_ops.specs.kr_view.Walk.{place_walk}
use Rattle.kr_ops.specs.kr_view.declared.target.Target.{Target}
use Rattle.kr_ops.specs.kr_model.ProcessDirectory.{around_of}
use Rattle.kr_ops.specs.Meaning.{meaning}
use Rattle.kr_seen.specs.Held.{shown_of}
use Rattle.kr_seen.specs.Numbered.{state_numbered}
use Rattle.kr_seen.proofs.TargetLemmas.{around-told, shown-as, some-bytes, walked-from, reached-from, target-found, walk-fails, fault-reached}
use Rattle.kr_seen.proofs.walks.target_of.Goals as goal

pub returns-in_err-target-clause-answer : goal.returns-in_err-target-clause-answer
returns-in_err-target-clause-answer g c =
    let number = g.P.Places.number in
    let table = g.P.Places.mounts c.args.places.now in
    let s = state_numbered number (meaning c.args.state.now) in
    let u = path_use c.in-Some.path in
    let base = numbered number c.in-Ok.base in
    let some = some-bytes c.in-Some.path.text.now c.if-is_empty.ensures in
    let told = shown-as c.procs-procs.result table c.root-root.result c.args.state.now c.procs-procs.ensures.table c.procs-procs.ensures.root c.procs-procs.ensures.state in
    let same = around-told number (shown_of c.procs-procs.result) table table c.root-root.result (meaning c.args.state.now) c.args.pid told refl c.root-root.ensures in
    let e = err_from_is_err_and c.from_residual.result c.from_residual.ensures.1 in
    rw (c.in-Some.is, e.1, e.2)
    (walk-fails number table c.args.pid s _ _ c.in_err-target.field-0.0 (walked-from number table c.args.pid s u c.in-Some.path.text.now base some c.in-Ok.ensures)
    (subst (λ around. IsAnswer number (place_walk around c.in-Some.path.mode base c.in-Some.path.text.now).answer (Err c.in_err-target.field-0.0)) same c.in_err-target.ensures.answer))

pub returns-in_err-target-clause-reach : goal.returns-in_err-target-clause-reach
returns-in_err-target-clause-reach g c =
    let number = g.P.Places.number in
    let table = g.P.Places.mounts c.args.places.now in
    let s = state_numbered number (meaning c.args.state.now) in
    let u = path_use c.in-Some.path in
    let base = numbered number c.in-Ok.base in
    let some = some-bytes c.in-Some.path.text.now c.if-is_empty.ensures in
    let told = shown-as c.procs-procs.result table c.root-root.result c.args.state.now c.procs-procs.ensures.table c.procs-procs.ensures.root c.procs-procs.ensures.state in
    let same = around-told number (shown_of c.procs-procs.result) table table c.root-root.result (meaning c.args.state.now) c.args.pid told refl c.root-root.ensures in
    let around = around_of table c.args.pid s in
    let e = err_from_is_err_and c.from_residual.result c.from_residual.ensures.1 in
    rw (c.in-Some.is, e.1, e.2)
    (fault-reached (Target g.row.P-Mount.Denot) (Option (Target g.row.P-Mount.Denot)) around c.in-Some.path.mode (place_walk around c.in-Some.path.mode base c.in-Some.path.text.now) _ c.args.reach.now c.resolve.new.reach c.in_err-target.field-0.0 (sym (reached-from number table c.args.pid s u c.in-Some.path.text.now base c.args.reach.now some c.in-Ok.ensures))
    (subst (λ around. IsReached {T = Target g.row.P-Mount.Denot} around c.in-Some.path.mode (place_walk around c.in-Some.path.mode base c.in-Some.path.text.now) c.args.reach.now c.resolve.new.reach (Err c.in_err-target.field-0.0)) same c.in_err-target.ensures.reach))

pub returns-clause-answer : goal.returns-clause-answer
returns-clause-answer g c =
    let number = g.P.Places.number in
    let table = g.P.Places.mounts c.args.places.now in
    let s = state_numbered number (meaning c.args.state.now) in
    let u = path_use c.in-Some.path in
    let base = numbered number c.in-Ok.base in
    let some = some-bytes c.in-Some.path.text.now c.if-is_empty.ensures in
    let told = shown-as c.procs-procs.result table c.root-root.result c.args.state.now c.procs-procs.ensures.table c.procs-procs.ensures.root c.procs-procs.ensures.state in
    let same = around-told number (shown_of c.procs-procs.result) table table c.root-root.result (meaning c.args.state.now) c.args.pid told refl c.root-root.ensures in
    rw c.in-Some.is
    (target-found number table c.args.pid s _ _ c.in_ok-target.target (walked-from number table c.args.pid s u c.in-Some.path.text.now base some c.in-Ok.ensures)
    (subst (λ around. IsAnswer number (place_walk around c.in-Some.path.mode base c.in-Some.path.text.now).answer (Ok c.in_ok-target.target)) same c.in_ok-target.ensures.answer))

pub returns-clause-reach : goal.returns-clause-reach
returns-clause-reach g c =
    let number = g.P.Places.number in
    let table = g.P.Places.mounts c.args.places.now in
    let s = state_numbered number (meaning c.args.state.now) in
    let u = path_use c.in-Some.path in
    let base = numbered number c.in-Ok.base in
    let some = some-bytes c.in-Some.path.text.now c.if-is_empty.ensures in
    let told = shown-as c.procs-procs.result table c.root-root.result c.args.state.now c.procs-procs.ensures.table c.procs-procs.ensures.root c.procs-procs.ensures.state in
    let same = around-told number (shown_of c.procs-procs.result) table table c.root-root.result (meaning c.args.state.now) c.args.pid told refl c.root-root.ensures in
    rw c.in-Some.is
    (subst (λ around. IsReached around c.in-Some.path.mode (place_walk around c.in-Some.path.mode base c.in-Some.path.text.now) c.args.reach.now c.resolve.new.reach (Ok c.in_ok-target.target)) same c.in_ok-target.ensures.reach
    ∙ sym (reached-from number table c.args.pid s u c.in-Some.path.text.now base c.args.reach.now some c.in-Ok.ensures))
