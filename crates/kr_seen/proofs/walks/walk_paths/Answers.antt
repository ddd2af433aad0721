use Rattle.std.proofs.Common.{sym, ap, ◌∙◌, subst}
use Rattle.std.specs.Prelude.{Option, Ok, Err}
use Rattle.std.proofs.lemmas.Result.{err_from_is_err_and}
use Rattle.kr_ops.specs.kr_view.declared.target.Target.{Target}
use Rattle.kr_ops.specs.kr_model.Walks.{target_at}
use Rattle.kr_ops.specs.Meaning.{meaning}
use Rattle.kr_seen.specs.Numbered.{state_numbered}
use Rattle.kr_seen.specs.CallWalks.{path_reach, IsReachedTo, IsTarget}
use Rattle.kr_seen.proofs.TargetLemmas.{first-reach, second-reach, both-found}
use Rattle.kr_seen.proofs.walks.walk_paths.Goals as goal

pub returns-in_err-first-clause-reach : goal.returns-in_err-first-clause-reach
returns-in_err-first-clause-reach g c =
    let number = g.P.Places.number in
    let table = g.P.Places.mounts c.args.places.now in
    let s = state_numbered number (meaning c.args.state.now) in
    let f = c.in_err-first.field-0.0 in
    let e = err_from_is_err_and c.from_residual.result c.from_residual.ensures.1 in
    rw (e.1, e.2)
    (first-reach number table c.args.pid s c.args.request.now f c.args.reach.now c.target_of.new.reach
    (subst (λ u. IsTarget {M = g.row.P-Mount.Denot} number (target_at table c.args.pid s u) (Err f)) c.path_of.ensures c.in_err-first.ensures.answer)
    (subst (λ u. IsReachedTo {T = Option (Target g.row.P-Mount.Denot)} (path_reach table c.args.pid s u c.args.reach.now) c.args.reach.now c.target_of.new.reach (Err f)) c.path_of.ensures c.in_err-first.ensures.reach))

pub returns-in_err-second-clause-reach : goal.returns-in_err-second-clause-reach
returns-in_err-second-clause-reach g c =
    let number = g.P.Places.number in
    let table = g.P.Places.mounts c.args.places.now in
    let s = state_numbered number (meaning c.args.state.now) in
    let f = c.in_err-second.field-0.0 in
    let first = c.in_ok-first.ensures.answer in
    let e = err_from_is_err_and c.from_residual-in_err-second.result c.from_residual-in_err-second.ensures.1 in
    rw (e.1, e.2)
    (second-reach number table c.args.pid s c.args.request.now first.0 (sym (ap (target_at table c.args.pid s) c.path_of.ensures) ∙ first.1) c.args.reach.now c.target_of.new.reach
    (c.in_ok-first.ensures.reach ∙ ap (λ u. path_reach table c.args.pid s u c.args.reach.now) c.path_of.ensures) f c.target_of-2.new.reach
    (subst (λ u. IsReachedTo {T = Option (Target g.row.P-Mount.Denot)} (path_reach table c.args.pid s u c.target_of.new.reach) c.target_of.new.reach c.target_of-2.new.reach (Err f)) c.path_of-2.ensures c.in_err-second.ensures.reach))

pub returns-clause-answer : goal.returns-clause-answer
returns-clause-answer g c =
    let number = g.P.Places.number in
    let table = g.P.Places.mounts c.args.places.now in
    let s = state_numbered number (meaning c.args.state.now) in
    let first = c.in_ok-first.ensures.answer in
    both-found number table c.args.pid s c.args.request.now first.0 (sym (ap (target_at table c.args.pid s) c.path_of.ensures) ∙ first.1) c.args.reach.now c.target_of.new.reach
    (c.in_ok-first.ensures.reach ∙ ap (λ u. path_reach table c.args.pid s u c.args.reach.now) c.path_of.ensures) (record { first = c.in_ok-first.first; second = c.in_ok-second.second }) first.2
    (subst (λ u. IsTarget {M = g.row.P-Mount.Denot} number (target_at table c.args.pid s u) (Ok c.in_ok-second.second)) c.path_of-2.ensures c.in_ok-second.ensures.answer)
