use Rattle.std.proofs.Common.{◌∙◌, refl}
use Rattle.std.proofs.lemmas.Result.{err_from_is_err_and}
use Rattle.kr_ops.proofs.OpeningLemmas.{full-same, not-living, one-more-fits, lowest, opened-means}
use Rattle.kr_ops.proofs.ServeLemmas.{all-at, on-err, refused-before, kept-room, names-add, names-insert, names-set}
use Rattle.kr_ops.proofs.UseLemmas.{holds-fit}
use Rattle.law_lawful.specs.kr_files.Files.{NamesOpenFiles}
use Rattle.kr_ops.specs.declared.state.Process.{Process}
use Rattle.kr_ops.proofs.state.State.open.Goals as goal

pub unreachable-requires : goal.unreachable-requires
unreachable-requires g c = not-living c.args.self.now c.args.pid (c.index_of.ensures.none c.in_default.is) c.requires.caller.lives

pub hold-requires-clause-fits : goal.hold-requires-clause-fits
hold-requires-clause-fits g c = one-more-fits c.args.self.now.tree _ (holds-fit c.args.self.now c.requires.caller.sound)

pub returns-in_err-fd-clause-full : goal.returns-in_err-fd-clause-full
returns-in_err-fd-clause-full g c =
    let e = err_from_is_err_and c.from_residual.result c.from_residual.ensures.1 in
    rw (e.1, e.2)
    (full-same _ _ _ _ (lowest c.args.self.now c.args.pid c.in-Some.k c.index_mut.result.now c.requires.caller.sound c.in-Some.ensures.some c.index_mut.ensures.value 0) c.in_err-fd.ensures.full)

pub returns-clause-full : goal.returns-clause-full
returns-clause-full g c =
    full-same _ _ _ _ (lowest c.args.self.now c.args.pid c.in-Some.k c.index_mut.result.now c.requires.caller.sound c.in-Some.ensures.some c.index_mut.ensures.value 0) c.in_ok-fd.ensures.full

pub returns-clause-lowest : goal.returns-clause-lowest
returns-clause-lowest g c = lowest c.args.self.now c.args.pid c.in-Some.k c.index_mut.result.now c.requires.caller.sound c.in-Some.ensures.some c.index_mut.ensures.value 0 ∙ c.in_ok-fd.ensures.lowest

pub returns-clause-makes : goal.returns-clause-makes
returns-clause-makes g c = λ mounts from m o taken same.
    opened-means c.args.self.now c.args.pid c.in-Some.k c.index_mut.result.now c.requires.caller.sound c.in-Some.ensures.some c.index_mut.ensures.value
    c.in_ok-fd.fd c.args.cloexec c.args.opened c.hold.new.tree c.open.new.self c.open.new.d c.hold.ensures c.in_ok-fd.ensures.table c.in_ok-fd.ensures.gives mounts from m o taken same

pub returns-clause-served : goal.returns-clause-served
returns-clause-served g c =
    let s = c.args.self.now in
    let at = c.in-Some.ensures.some in
    let p = c.index_mut.result.now in
    let gives = c.in_ok-fd.ensures.gives in
    record {
      files = names-set s.files c.open.new.self s.living.items c.in-Some.k _ c.requires.caller.sound.served.files (names-insert s.files c.open.new.self gives.key _ gives.was_free gives.keys)
          (names-add s.files c.open.new.self gives.key _ c.in_ok-fd.fd c.args.cloexec p.descs c.open.new.d gives.was_free gives.keys gives.descs
          (all-at (λ (q : Process _ _). NamesOpenFiles s.files q.descs) s.living.items c.in-Some.k p c.requires.caller.sound.served.files at.within c.index_mut.ensures.value));
      room = kept-room s c.requires.caller.sound.served c.in-Some.k p _ at.within c.index_mut.ensures.value refl;
    }

pub returns-in_err-fd-clause-err : goal.returns-in_err-fd-clause-err
returns-in_err-fd-clause-err g c =
    on-err _ _
    (refused-before c.args.self.now _ c.requires.caller.sound.served c.in-Some.k c.index_mut.result.now c.open.new.self c.open.new.d c.in-Some.ensures.some.within c.index_mut.ensures.value c.in_err-fd.ensures.err c.in_err-fd.ensures.err_descs refl refl refl refl)
