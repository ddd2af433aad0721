use Rattle.std.proofs.Common.{ap, ◌∙◌}
use Rattle.law_allowed.specs.kr_model.Seen.{Taken}
use Rattle.law_steady.specs.Ahead.{rename_alters}
use Rattle.kr_rows.specs.kr_ops.Meaning.{meaning}
use Rattle.kr_transfer.specs.kr_seen.Numbered.{state_numbered}
use Rattle.kr_transfer.specs.kr_seen.Told.{taken_told}
use Rattle.kr_perform.proofs.ForetoldLemmas.{moves-nothing, moves-nowhere, moves-to}
use Rattle.kr_perform.proofs.altering.rename_at_alters.Goals as goal

pub returns-in_default : goal.returns-in_default
returns-in_default g c = λ pid olddir newdir old new.
    moves-nothing g.P.Places.number (g.P.Places.mounts c.args.places.now) pid (meaning c.args.state.now) c.args.state.now.tree c.args.targets.now.first c.args.targets.now.second c.in_default.is

pub returns-in-Some-second : goal.returns-in-Some-second
returns-in-Some-second g c = λ pid olddir newdir old new.
    let number = g.P.Places.number in
    let s = meaning c.args.state.now in
    let t = c.args.state.now.tree in
    let n = state_numbered number s in
    c.rename_alters.ensures
    ∙ ap (λ (x : Taken). rename_alters t x (taken_told c.taken-to.result)) (c.taken-from.ensures pid n)
    ∙ ap (rename_alters t _) (c.taken-to.ensures pid n)
    ∙ moves-to number (g.P.Places.mounts c.args.places.now) pid s t c.args.targets.now.first c.args.targets.now.second c.in-Some.old c.in-Some.is c.in-Some-second.new c.in-Some-second.is

pub returns-in-None : goal.returns-in-None
returns-in-None g c = λ pid olddir newdir old new.
    moves-nowhere g.P.Places.number (g.P.Places.mounts c.args.places.now) pid (meaning c.args.state.now) c.args.state.now.tree c.args.targets.now.first c.args.targets.now.second c.in-Some.old c.in-Some.is c.in-None.is
