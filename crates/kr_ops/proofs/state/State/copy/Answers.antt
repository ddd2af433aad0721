use Rattle.std.proofs.Common.{sym, ap, subst, ◌∙◌, refl, Option}
use Rattle.std.proofs.lemmas.Result.{err_from_is_err_and}
use Rattle.law_lawful.specs.kr_tree.declared.place.Place.{Place}
use Rattle.law_lawful.specs.kr_files.Files.{Kept, NamesOpenFiles, copied}
use Rattle.law_lawful.proofs.kr_files.DescriptorLemmas.{lowest_free-some}
use Rattle.law_lawful.specs.kr_model.Applied.{held_at}
use Rattle.kr_ops.specs.declared.state.Process.{Process}
use Rattle.kr_ops.proofs.CloseLemmas.{held-there}
use Rattle.kr_ops.proofs.OpeningLemmas.{full-same, not-open, is-open, count-fits, held-is-there, one-more-fits, lowest, copied-fresh}
use Rattle.kr_ops.proofs.ServeLemmas.{all-at, on-err, refused-before, keys-by, kept-room, names-copy, names-kept, names-set}
use Rattle.kr_ops.proofs.UseLemmas.{holds-fit}
use Rattle.kr_ops.proofs.state.State.copy.Goals as goal

pub unreachable-requires : goal.unreachable-requires
unreachable-requires g c = not-open c.args.self.now c.args.pid c.args.fd (c.index_of.ensures.none c.in_default.is) c.requires.is_open

pub dup-requires-clause-is_open : goal.dup-requires-clause-is_open
dup-requires-clause-is_open g c = is-open c.args.self.now c.args.pid c.in-Some.k c.index_mut.result.now c.requires.sound c.in-Some.ensures.some c.index_mut.ensures.value c.args.fd c.requires.is_open

pub dup-requires-clause-counts : goal.dup-requires-clause-counts
dup-requires-clause-counts g c = count-fits c.args.self.now c.args.pid c.in-Some.k c.index_mut.result.now c.requires.sound c.in-Some.ensures.some c.index_mut.ensures.value c.args.fd

pub hold-requires-clause-there : goal.hold-requires-clause-there
hold-requires-clause-there g c =
    held-is-there c.args.self.now.tree c.place_at-place.result
    (held-there c.args.self.now c.requires.sound c.index_mut.result.now.descs c.args.fd c.place_at-place.result (c.place_at-place.ensures c.index_mut.result.now c.index_mut.ensures.value))

pub hold-requires-clause-fits : goal.hold-requires-clause-fits
hold-requires-clause-fits g c = one-more-fits c.args.self.now.tree _ (holds-fit c.args.self.now c.requires.sound)

pub returns-in_err-to-clause-full : goal.returns-in_err-to-clause-full
returns-in_err-to-clause-full g c =
    let e = err_from_is_err_and c.from_residual.result c.from_residual.ensures.1 in
    rw (e.1, e.2) (full-same _ _ _ _ (lowest c.args.self.now c.args.pid c.in-Some.k c.index_mut.result.now c.requires.sound c.in-Some.ensures.some c.index_mut.ensures.value c.args.from) c.in_err-to.ensures.full)

pub returns-clause-full : goal.returns-clause-full
returns-clause-full g c = full-same _ _ _ _ (lowest c.args.self.now c.args.pid c.in-Some.k c.index_mut.result.now c.requires.sound c.in-Some.ensures.some c.index_mut.ensures.value c.args.from) c.in_ok-to.ensures.full

pub returns-clause-lowest : goal.returns-clause-lowest
returns-clause-lowest g c =
    lowest c.args.self.now c.args.pid c.in-Some.k c.index_mut.result.now c.requires.sound c.in-Some.ensures.some c.index_mut.ensures.value c.args.from ∙ c.in_ok-to.ensures.lowest

pub returns-clause-makes : goal.returns-clause-makes
returns-clause-makes g c = λ mounts.
    let s = c.args.self.now in
    let p = c.index_mut.result.now in
    copied-fresh s c.args.pid c.in-Some.k p c.requires.sound c.in-Some.ensures.some c.index_mut.ensures.value mounts c.args.fd c.in_ok-to.to c.args.cloexec c.hold.new.tree c.dup.new.self c.dup.new.d
    (is-open s c.args.pid c.in-Some.k p c.requires.sound c.in-Some.ensures.some c.index_mut.ensures.value c.args.fd c.requires.is_open)
    (lowest_free-some p.descs c.args.from c.in_ok-to.to c.in_ok-to.ensures.lowest).free
    (c.hold.ensures ∙ ap (λ (o : Option (Place _)). held_at o s.tree) (c.place_at-place.ensures p c.index_mut.ensures.value))
    c.in_ok-to.ensures.files c.in_ok-to.ensures.descs

pub returns-clause-served : goal.returns-clause-served
returns-clause-served g c =
    let s = c.args.self.now in
    let at = c.in-Some.ensures.some in
    let p = c.index_mut.result.now in
    let keys = ap (λ (f : Kept _). f.keys) c.in_ok-to.ensures.files ∙ keys-by p.descs c.args.fd copied s.files (λ x. refl) in
    record {
      files = names-set s.files c.dup.new.self s.living.items c.in-Some.k _ c.requires.sound.served.files (names-kept s.files c.dup.new.self keys)
          (subst (λ d. NamesOpenFiles c.dup.new.self d) (sym c.in_ok-to.ensures.descs)
          (names-kept s.files c.dup.new.self keys _
          (names-copy s.files p.descs c.args.fd c.in_ok-to.to c.args.cloexec (is-open s c.args.pid c.in-Some.k p c.requires.sound at c.index_mut.ensures.value c.args.fd c.requires.is_open)
          (all-at (λ (q : Process _ _). NamesOpenFiles s.files q.descs) s.living.items c.in-Some.k p c.requires.sound.served.files at.within c.index_mut.ensures.value))));
      room = kept-room s c.requires.sound.served c.in-Some.k p _ at.within c.index_mut.ensures.value refl;
    }

pub returns-in_err-to-clause-err : goal.returns-in_err-to-clause-err
returns-in_err-to-clause-err g c =
    on-err _ _
    (refused-before c.args.self.now _ c.requires.sound.served c.in-Some.k c.index_mut.result.now c.dup.new.self c.dup.new.d c.in-Some.ensures.some.within c.index_mut.ensures.value c.in_err-to.ensures.err c.in_err-to.ensures.err_descs refl refl refl refl)
