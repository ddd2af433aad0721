use Rattle.std.proofs.Common.{ap, ◌∙◌, refl, Option}
use Rattle.law_lawful.specs.kr_tree.declared.place.Place.{Place}
use Rattle.law_lawful.specs.kr_model.Applied.{held_at, released_at}
use Rattle.kr_ops.proofs.CloseLemmas.{held-there}
use Rattle.kr_ops.proofs.OpeningLemmas.{not-open, is-open, count-fits, held-is-there, one-more-fits, still-held, copied-means}
use Rattle.kr_ops.proofs.ServeLemmas.{kept-room, names-copied}
use Rattle.kr_ops.proofs.UseLemmas.{holds-fit}
use Rattle.kr_ops.proofs.state.State.copy_onto.Goals as goal

pub unreachable-requires : goal.unreachable-requires
unreachable-requires g c = not-open c.args.self.now c.args.pid c.args.fd (c.index_of.ensures.none c.in_default.is) c.requires.is_open

pub dup_to-requires-clause-is_open : goal.dup_to-requires-clause-is_open
dup_to-requires-clause-is_open g c = is-open c.args.self.now c.args.pid c.in-Some.k c.index_mut.result.now c.requires.sound c.in-Some.ensures.some c.index_mut.ensures.value c.args.fd c.requires.is_open

pub dup_to-requires-clause-counts : goal.dup_to-requires-clause-counts
dup_to-requires-clause-counts g c = count-fits c.args.self.now c.args.pid c.in-Some.k c.index_mut.result.now c.requires.sound c.in-Some.ensures.some c.index_mut.ensures.value c.args.fd

pub hold-requires-clause-there : goal.hold-requires-clause-there
hold-requires-clause-there g c =
    held-is-there c.args.self.now.tree c.place_at-copied.result
    (held-there c.args.self.now c.requires.sound c.index_mut.result.now.descs c.args.fd c.place_at-copied.result (c.place_at-copied.ensures c.index_mut.result.now c.index_mut.ensures.value))

pub hold-requires-clause-fits : goal.hold-requires-clause-fits
hold-requires-clause-fits g c = one-more-fits c.args.self.now.tree _ (holds-fit c.args.self.now c.requires.sound)

pub release-requires : goal.release-requires
release-requires g c =
    still-held c.args.self.now.tree c.hold.new.tree c.place_at-copied.result c.place_at-closed.result c.hold.ensures
    (held-there c.args.self.now c.requires.sound c.index_mut.result.now.descs c.args.to c.place_at-closed.result (c.place_at-closed.ensures c.index_mut.result.now c.index_mut.ensures.value))

pub returns-clause-makes : goal.returns-clause-makes
returns-clause-makes g c = λ mounts.
    let s = c.args.self.now in
    let p = c.index_mut.result.now in
    copied-means s c.args.pid c.in-Some.k p c.requires.sound c.in-Some.ensures.some c.index_mut.ensures.value mounts c.args.fd c.args.to c.args.cloexec c.hold.new.tree c.release.new.tree c.dup_to.new.self c.dup_to.new.d
    (is-open s c.args.pid c.in-Some.k p c.requires.sound c.in-Some.ensures.some c.index_mut.ensures.value c.args.fd c.requires.is_open)
    (c.hold.ensures ∙ ap (λ (o : Option (Place _)). held_at o s.tree) (c.place_at-copied.ensures p c.index_mut.ensures.value))
    (c.release.ensures ∙ ap (λ (o : Option (Place _)). released_at o c.hold.new.tree) (c.place_at-closed.ensures p c.index_mut.ensures.value))
    c.in_ok-dup_to.ensures.files c.in_ok-dup_to.ensures.descs

pub returns-clause-served : goal.returns-clause-served
returns-clause-served g c =
    let s = c.args.self.now in
    let at = c.in-Some.ensures.some in
    let p = c.index_mut.result.now in
    record {
      files = names-copied s c.requires.sound c.in-Some.k c.args.fd c.args.to c.args.cloexec p _ c.dup_to.new.self at.within c.index_mut.ensures.value
          (is-open s c.args.pid c.in-Some.k p c.requires.sound at c.index_mut.ensures.value c.args.fd c.requires.is_open) c.requires.below c.requires.other
          c.in_ok-dup_to.ensures.files c.in_ok-dup_to.ensures.descs;
      room = kept-room s c.requires.sound.served c.in-Some.k p _ at.within c.index_mut.ensures.value refl;
    }
