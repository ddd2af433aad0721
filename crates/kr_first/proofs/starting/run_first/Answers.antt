use Rattle.std.proofs.Common.{◌≡◌, ℕ, List, sym, ap, subst, arith, ◌∙◌}
use Rattle.std.proofs.lemmas.Result.{err_from_is_err_and}
use Rattle.std.specs.Option.{option_map}
use Rattle.std.specs.Prelude.{Ok}
use Rattle.kr_start.specs.kr_tree.Lawful.{AreBytes}
use Rattle.kr_execve.specs.kr_view.Leads.{numbered}
use Rattle.kr_execve.specs.kr_exec.Answers.{plan_numbered}
use Rattle.kr_start.specs.Start.{first_of}
use Rattle.kr_first.specs.Starting.{directory_at, plan_of}
use Rattle.kr_first.proofs.BeginLemmas.{can-begin, is-ready, runs-on, state-is}
use Rattle.kr_first.proofs.starting.run_first.Goals as goal

pub begin-requires : goal.begin-requires
begin-requires g c =
    let number = g.P.Places.number in
    let table = g.P.Places.mounts c.args.places.now in
    let tree = c.args.tree in
    let user = c.args.user in
    let first = c.args.first in
    let base = c.in-Some.base in
    let plan = c.in_ok-plan.plan in
    let cwd = ap (directory_at table tree user) (sym c.as_slice-2.ensures) ∙ sym c.in_ok-base.ensures.place ∙ ap (option_map (numbered number)) c.in-Some.is in
    let planned = subst (λ (path : List ℕ). plan_of table tree user (numbered number base) path c.in_ok-args.args first.env ≡ Ok (plan_numbered number plan)) c.as_slice-3.ensures c.in_ok-plan.ensures.answer in
    let begins = can-begin number table tree user first base cwd c.in_ok-args.args plan planned c.in_ok-image.image c.image_of.new.room c.in_ok-image.ensures
    c.trees_are_kept.ensures.kept c.requires.stands c.requires.lasts c.requires.named c.requires.text (subst AreBytes c.as_slice.ensures c.are_bytes.ensures) c.in_ok-plan.ensures.program c.in_ok-plan.ensures.loadable in
    let ready = is-ready number table tree user first base cwd c.in_ok-args.args plan planned c.in_ok-image.image c.image_of.new.room c.in_ok-image.ensures
    c.args.input c.idle-state.result c.idle-state.ensures.state c.idle-state.ensures.lawful c.idle-state.ensures.served in
    (omega arith, (omega arith, (ready (c.idle-state.ensures.begins (first_of c.in_ok-image.image base plan.place plan.dir plan.name) begins), c.in_ok-image.ensures.4)))

pub returns-in_err-begin-clause-answer : goal.returns-in_err-begin-clause-answer
returns-in_err-begin-clause-answer g c =
    let e = err_from_is_err_and c.from_residual-in_err-begin.result c.from_residual-in_err-begin.ensures.1 in
    rw (e.1, e.2) tt

pub returns-clause-answer : goal.returns-clause-answer
returns-clause-answer g c =
    let number = g.P.Places.number in
    let table = g.P.Places.mounts c.args.places.now in
    let tree = c.args.tree in
    let user = c.args.user in
    let first = c.args.first in
    let base = c.in-Some.base in
    let plan = c.in_ok-plan.plan in
    let cwd = ap (directory_at table tree user) (sym c.as_slice-2.ensures) ∙ sym c.in_ok-base.ensures.place ∙ ap (option_map (numbered number)) c.in-Some.is in
    let planned = subst (λ (path : List ℕ). plan_of table tree user (numbered number base) path c.in_ok-args.args first.env ≡ Ok (plan_numbered number plan)) c.as_slice-3.ensures c.in_ok-plan.ensures.answer in
    state-is number table tree user first base cwd c.in_ok-args.args plan planned c.in_ok-image.image c.image_of.new.room c.in_ok-image.ensures
    c.args.input c.idle-state.result c.idle-state.ensures.state c.begin.new.state c.in_ok-begin.ensures.begins c.in_ok-args.ensures

pub returns-clause-runs : goal.returns-clause-runs
returns-clause-runs g c =
    let number = g.P.Places.number in
    let table = g.P.Places.mounts c.args.places.now in
    let tree = c.args.tree in
    let user = c.args.user in
    let first = c.args.first in
    let base = c.in-Some.base in
    let plan = c.in_ok-plan.plan in
    let cwd = ap (directory_at table tree user) (sym c.as_slice-2.ensures) ∙ sym c.in_ok-base.ensures.place ∙ ap (option_map (numbered number)) c.in-Some.is in
    let planned = subst (λ (path : List ℕ). plan_of table tree user (numbered number base) path c.in_ok-args.args first.env ≡ Ok (plan_numbered number plan)) c.as_slice-3.ensures c.in_ok-plan.ensures.answer in
    let begins = can-begin number table tree user first base cwd c.in_ok-args.args plan planned c.in_ok-image.image c.image_of.new.room c.in_ok-image.ensures
    c.trees_are_kept.ensures.kept c.requires.stands c.requires.lasts c.requires.named c.requires.text (subst AreBytes c.as_slice.ensures c.are_bytes.ensures) c.in_ok-plan.ensures.program c.in_ok-plan.ensures.loadable in
    runs-on number table tree user first base cwd c.in_ok-args.args plan planned c.in_ok-image.image c.image_of.new.room c.in_ok-image.ensures
    c.args.input c.idle-state.result c.idle-state.ensures.state c.begin.new.state c.in_ok-begin.ensures.begins c.starts_last.ensures c.requires.lasts
    (c.in_ok-begin.ensures.lawful number table c.idle-state.ensures.lawful (c.idle-state.ensures.begins (first_of c.in_ok-image.image base plan.place plan.dir plan.name) begins)) c.in_ok-begin.ensures.served
