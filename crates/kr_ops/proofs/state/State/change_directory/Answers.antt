use Rattle.std.proofs.Common.{ap, refl, ◌∙◌, Some}
use Rattle.law_lawful.specs.kr_model.Applied.{released_at}
use Rattle.kr_ops.specs.declared.state.Process.{Process}
use Rattle.kr_ops.proofs.CloseLemmas.{same-at}
use Rattle.kr_ops.proofs.OpeningLemmas.{not-living, one-more-fits, still-held}
use Rattle.kr_ops.proofs.PlaceLemmas.{directory-held, moved-means}
use Rattle.kr_ops.proofs.ServeLemmas.{kept-names, kept-room}
use Rattle.kr_ops.proofs.UseLemmas.{holds-fit}
use Rattle.kr_ops.proofs.state.State.change_directory.Goals as goal

pub unreachable-requires : goal.unreachable-requires
unreachable-requires g c = not-living c.args.self.now c.args.pid (c.index_of.ensures.none c.in_default.is) c.requires.caller.lives

pub hold-requires-clause-fits : goal.hold-requires-clause-fits
hold-requires-clause-fits g c = one-more-fits c.args.self.now.tree (Some c.args.place) (holds-fit c.args.self.now c.requires.caller.sound)

pub release-requires : goal.release-requires
release-requires g c =
    still-held c.args.self.now.tree c.hold.new.tree (Some c.args.place) (Some c.index.result.now.cwd) c.hold.ensures
    (directory-held c.args.self.now c.args.pid c.in-Some.k c.index.result.now c.requires.caller.sound c.in-Some.ensures.some c.index.ensures)

pub returns-clause-makes : goal.returns-clause-makes
returns-clause-makes g c = λ mounts from taken.
    let s = c.args.self.now in
    let at = c.in-Some.ensures.some in
    let same = same-at s.living.items c.in-Some.k c.index.result.now c.index_mut.result.now at.within c.index.ensures c.index_mut.ensures.value in
    moved-means s c.args.pid c.in-Some.k c.index_mut.result.now c.requires.caller.sound at c.index_mut.ensures.value c.args.place c.hold.new.tree c.release.new.tree c.hold.ensures
    (c.release.ensures ∙ ap (λ (p : Process _ _). released_at (Some p.cwd) c.hold.new.tree) same) mounts from taken

pub returns-clause-served : goal.returns-clause-served
returns-clause-served g c = record {
  files = kept-names c.args.self.now c.requires.caller.sound.served c.in-Some.k c.index_mut.result.now _ c.in-Some.ensures.some.within c.index_mut.ensures.value refl;
  room = kept-room c.args.self.now c.requires.caller.sound.served c.in-Some.k c.index_mut.result.now _ c.in-Some.ensures.some.within c.index_mut.ensures.value refl;
}
