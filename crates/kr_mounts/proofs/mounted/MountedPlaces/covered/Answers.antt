use Rattle.std.proofs.Common.{◌∙◌, ap, sym}
use Rattle.kr_walk.specs.kr_view.View.{covered}
use Rattle.kr_mounts.specs.Stored.{table_of}
use Rattle.kr_mounts.proofs.IndexLemmas.{covered_is, not_covered}
use Rattle.kr_mounts.proofs.mounted.MountedPlaces.covered.Goals as goal

pub returns-in-Some : goal.returns-in-Some
returns-in-Some c =
    c.contains_key.ensures
    ∙ covered_is (table_of c.self.inside.mounts.items) c.self.inside.names c.self.inside.points c.self.inside.entries c.self.invariant.0 c.args.dir c.in-Some.name.now c.args.name.now (sym c.in-Some.ensures.value)
    ∙ ap (λ ms. covered (table_of ms) c.args.dir c.args.name.now) c.self.view_is

pub returns-in-None : goal.returns-in-None
returns-in-None c =
    sym (not_covered (table_of c.self.inside.mounts.items) c.self.inside.names c.self.inside.points c.self.inside.entries c.self.invariant.0 c.args.dir c.args.name.now (sym c.in-None.ensures.value))
    ∙ ap (λ ms. covered (table_of ms) c.args.dir c.args.name.now) c.self.view_is
