use Rattle.std.proofs.Common.{sym, ap, subst, ◌∙◌, refl}
use Rattle.std.specs.Option.{is_some}
use Rattle.law_lawful.specs.kr_files.Descriptors.{Meanings, meanings}
use Rattle.law_lawful.specs.kr_files.Files.{NamesOpenFiles}
use Rattle.law_lawful.specs.pr_base.Maps.{changed}
use Rattle.law_lawful.specs.kr_model.State.{with_descs}
use Rattle.kr_ops.specs.Meaning.{process_meaning}
use Rattle.kr_ops.proofs.ChangeLemmas.{nobody-changed, one-changed, shut, flagged, flag-changed, flag-nowhere}
use Rattle.kr_ops.proofs.ServeLemmas.{all-at, kept-names, kept-room, names-flag, names-set}
use Rattle.kr_ops.specs.declared.state.Process.{Process}
use Rattle.kr_ops.proofs.state.State.set_cloexec.Goals as goal

pub returns-in_default-clause-makes : goal.returns-in_default-clause-makes
returns-in_default-clause-makes g c = λ mounts. nobody-changed c.args.self.now c.args.pid (with_descs (λ (d : Meanings). changed d c.args.fd (flagged c.args.on))) (c.index_of.ensures.none c.in_default.is)

pub returns-then-is_some-clause-makes : goal.returns-then-is_some-clause-makes
returns-then-is_some-clause-makes g c = λ mounts.
    one-changed c.args.self.now c.args.pid c.in-Some.k c.index_mut.result.now _ (with_descs (λ (d : Meanings). changed d c.args.fd (flagged c.args.on))) c.requires.pids c.in-Some.ensures.some c.index_mut.ensures.value
    (ap (λ (m : Meanings). with_descs (λ _. m) (process_meaning c.index_mut.result.now)) (ap meanings c.set_cloexec.ensures ∙ flag-changed c.index_mut.result.now.descs c.args.fd c.args.on))

pub returns-else-is_some-clause-makes : goal.returns-else-is_some-clause-makes
returns-else-is_some-clause-makes g c = λ mounts.
    one-changed c.args.self.now c.args.pid c.in-Some.k c.index_mut.result.now c.index_mut.result.now (with_descs (λ (d : Meanings). changed d c.args.fd (flagged c.args.on))) c.requires.pids c.in-Some.ensures.some c.index_mut.ensures.value
    (ap (λ (m : Meanings). with_descs (λ _. m) (process_meaning c.index_mut.result.now)) (sym
    (flag-nowhere c.index_mut.result.now.descs c.args.fd c.args.on (shut c.index_mut.result.now.descs c.args.fd (ap is_some (sym c.cloexec.ensures) ∙ sym c.if-is_some.ensures)))))

pub returns-then-is_some-clause-served : goal.returns-then-is_some-clause-served
returns-then-is_some-clause-served g c =
    let s = c.args.self.now in
    let at = c.in-Some.ensures.some in
    let p = c.index_mut.result.now in
    record {
      files = names-set s.files s.files s.living.items c.in-Some.k _ c.requires.served.files (λ d names. names)
          (subst (λ d. NamesOpenFiles s.files d) (sym c.set_cloexec.ensures)
          (names-flag s.files p.descs c.args.fd c.args.on (all-at (λ (q : Process _ _). NamesOpenFiles s.files q.descs) s.living.items c.in-Some.k p c.requires.served.files at.within c.index_mut.ensures.value)));
      room = kept-room s c.requires.served c.in-Some.k p _ at.within c.index_mut.ensures.value refl;
    }

pub returns-else-is_some-clause-served : goal.returns-else-is_some-clause-served
returns-else-is_some-clause-served g c = record {
  files = kept-names c.args.self.now c.requires.served c.in-Some.k c.index_mut.result.now _ c.in-Some.ensures.some.within c.index_mut.ensures.value refl;
  room = kept-room c.args.self.now c.requires.served c.in-Some.k c.index_mut.result.now _ c.in-Some.ensures.some.within c.index_mut.ensures.value refl;
}
