use Rattle.std.proofs.Common.{ℤ, ap, ◌∙◌, w32}
use Rattle.std.proofs.Math.Facts.{to_z-of_z}
use Rattle.law_allowed.specs.kr_model.Known.{known}
use Rattle.law_allowed.specs.kr_model.State.{image_layout}
use Rattle.law_steady.specs.Ahead.{mode_alters, of_open, of_place}
use Rattle.kr_rows.specs.kr_ops.Meaning.{meaning}
use Rattle.kr_perform.proofs.altering.open_mode_alters.Goals as goal

pub returns-in-Some : goal.returns-in-Some
returns-in-Some g c =
    let k = known image_layout c.args.pid (meaning c.args.state.now) in
    let test = mode_alters c.args.state.now.tree c.args.mode in
    c.mode_alters.ensures ∙ c.in-Some.ensures test ∙ ap (λ (z : ℤ). of_open k z (of_place test)) (to_z-of_z {w = w32} {z = c.args.fd} c.ranges.fd)

pub returns-in-None : goal.returns-in-None
returns-in-None g c =
    let k = known image_layout c.args.pid (meaning c.args.state.now) in
    let test = mode_alters c.args.state.now.tree c.args.mode in
    c.in-None.ensures test ∙ ap (λ (z : ℤ). of_open k z (of_place test)) (to_z-of_z {w = w32} {z = c.args.fd} c.ranges.fd)
