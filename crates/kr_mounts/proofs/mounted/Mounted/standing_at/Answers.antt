use Rattle.std.proofs.Common.{◌≡◌, ◌∙◌, ap, sym, Some, None, position}
use Rattle.kr_walk.specs.kr_view.View.{stands_at, is_point}
use Rattle.kr_mounts.specs.Index.{name_number}
use Rattle.kr_mounts.specs.Stored.{table_of}
use Rattle.kr_mounts.proofs.IndexLemmas.{no_point_there}
use Rattle.kr_mounts.proofs.mounted.Mounted.standing_at.Goals as goal

pub returns-in_err-name : goal.returns-in_err-name
returns-in_err-name c =
    let none : name_number c.self.inside.names c.args.name.now ≡ None = sym c.in_err-name.ensures.value in
    c.from_residual.ensures
    ∙ sym (no_point_there (table_of c.self.inside.mounts.items) c.self.inside.names c.self.inside.points c.self.inside.entries c.self.invariant.0 c.args.mount c.args.dir c.args.name.now none)
    ∙ ap (λ ms. position (stands_at (is_point c.args.mount c.args.dir c.args.name.now)) (table_of ms)) c.self.view_is

pub returns : goal.returns
returns c =
    let there : name_number c.self.inside.names c.args.name.now ≡ Some c.in_ok-name.field-0.now = sym c.in_ok-name.ensures.value in
    c.copied.ensures ∙ c.get-2.ensures.value
    ∙ c.self.invariant.0.pointed c.args.mount c.args.dir c.args.name.now c.in_ok-name.field-0.now there
    ∙ ap (λ ms. position (stands_at (is_point c.args.mount c.args.dir c.args.name.now)) (table_of ms)) c.self.view_is
