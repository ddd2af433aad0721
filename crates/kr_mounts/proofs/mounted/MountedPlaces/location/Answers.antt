use Rattle.std.proofs.Common.{◌≡◌, ◌∙◌, ap, sym, refl, length, Some, None}
use Rattle.std.specs.Prelude.{slice_get}
use Rattle.std.proofs.lemmas.Option.{slice_get_past, slice_get_read}
use Rattle.kr_walk.specs.kr_view.View.{location}
use Rattle.kr_mounts.specs.Stored.{table_of}
use Rattle.kr_mounts.proofs.TableLemmas.{location_none, location_some}
use Rattle.kr_mounts.proofs.mounted.MountedPlaces.location.Goals as goal

pub returns-in-Some : goal.returns-in-Some
returns-in-Some c =
    let k = c.args.mount.number in
    let m = c.in-Some.settled.now in
    let found = slice_get_read c.deref.result.now (length c.deref.result.now) k m refl c.in-Some.ensures.lookup.3.0 c.in-Some.ensures.lookup.1 in
    let is : slice_get c.self.inside.mounts.items k ≡ Some m = ap (λ ms. slice_get ms k) (sym c.deref.ensures.value) ∙ found in
    c.as_slice.ensures ∙ location_some c.self.inside.mounts.items k m c.self.invariant.1 is ∙ ap (λ ms. location (table_of ms) k) c.self.view_is

pub returns-in-None : goal.returns-in-None
returns-in-None c =
    let k = c.args.mount.number in
    let none : slice_get c.self.inside.mounts.items k ≡ None = ap (λ ms. slice_get ms k) (sym c.deref.ensures.value) ∙ slice_get_past c.deref.result.now k c.in-None.ensures.lookup.3 in
    sym (location_none c.self.inside.mounts.items k none) ∙ ap (λ ms. location (table_of ms) k) c.self.view_is
