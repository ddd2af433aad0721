use Rattle.std.proofs.Common.{sym, ap, ◌∙◌, refl}
use Rattle.std.specs.Option.{is_some}
use Rattle.law_lawful.specs.kr_files.Descriptors.{cloexec_of}
use Rattle.kr_ops.specs.declared.state.Process.{Process}
use Rattle.kr_ops.proofs.ChangeLemmas.{named-nowhere}
use Rattle.kr_ops.proofs.CloseLemmas.{close-none, shut-means, closed-means, same-at, held-there, some-open}
use Rattle.kr_ops.proofs.ServeLemmas.{names-closed, room-set}
use Rattle.kr_ops.proofs.state.State.close.Goals as goal

pub returns-in_default-clause-makes : goal.returns-in_default-clause-makes
returns-in_default-clause-makes g c = λ mounts. close-none _ c.args.pid c.args.fd (named-nowhere c.args.self.now c.args.pid c.args.fd (c.index_of.ensures.none c.in_default.is))

pub returns-then-is_none-clause-makes : goal.returns-then-is_none-clause-makes
returns-then-is_none-clause-makes g c = λ mounts.
    close-none _ c.args.pid c.args.fd
    (shut-means c.args.self.now c.args.pid c.in-Some.k c.args.fd c.index.result.now c.requires c.in-Some.ensures.some c.index.ensures (ap is_some (sym c.cloexec.ensures) ∙ c.if-is_none.ensures))

pub release-requires : goal.release-requires
release-requires g c = held-there c.args.self.now c.requires c.index_mut.result.now.descs c.args.fd c.place_at-place.result (c.place_at-place.ensures c.index_mut.result.now c.index_mut.ensures.value)

pub returns-clause-makes : goal.returns-clause-makes
returns-clause-makes g c = λ mounts.
    let s = c.args.self.now in
    let at = c.in-Some.ensures.some in
    let same = same-at s.living.items c.in-Some.k c.index.result.now c.index_mut.result.now at.within c.index.ensures c.index_mut.ensures.value in
    closed-means s c.args.pid c.in-Some.k c.args.fd c.index_mut.result.now c.requires at c.index_mut.ensures.value
    c.place_at-place.result c.release.new.tree c.close.new.self c.close.new.d
    (some-open c.index_mut.result.now.descs c.args.fd (ap (λ (p : Process _ _). is_some (cloexec_of p.descs c.args.fd)) (sym same) ∙ ap is_some (sym c.cloexec.ensures) ∙ c.if-is_none.ensures))
    (c.place_at-place.ensures c.index_mut.result.now c.index_mut.ensures.value)
    c.release.ensures c.close.ensures.files c.close.ensures.descs

pub returns-clause-served : goal.returns-clause-served
returns-clause-served g c =
    let s = c.args.self.now in
    let at = c.in-Some.ensures.some in
    let same = same-at s.living.items c.in-Some.k c.index.result.now c.index_mut.result.now at.within c.index.ensures c.index_mut.ensures.value in
    record {
      files = names-closed s c.requires c.in-Some.k c.args.fd c.index_mut.result.now _ c.close.new.self at.within c.index_mut.ensures.value
          (some-open c.index_mut.result.now.descs c.args.fd (ap (λ (p : Process _ _). is_some (cloexec_of p.descs c.args.fd)) (sym same) ∙ ap is_some (sym c.cloexec.ensures) ∙ c.if-is_none.ensures))
          c.close.ensures.files c.close.ensures.descs;
      room = c.requires.served.room ∙ sym (room-set s.living.items c.in-Some.k c.index_mut.result.now _ at.within c.index_mut.ensures.value refl);
    }
