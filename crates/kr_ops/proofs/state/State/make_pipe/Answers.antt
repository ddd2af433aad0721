use Rattle.std.proofs.Common.{sym, ap, ◌∙◌, refl, ◌+◌}
use Rattle.std.specs.Prelude.{Err}
use Rattle.std.proofs.lemmas.Result.{err_from_is_err_and}
use Rattle.law_lawful.specs.kr_files.Files.{NamesOpenFiles}
use Rattle.kr_ops.specs.declared.state.Process.{Process}
use Rattle.kr_ops.proofs.OpeningLemmas.{error-of, not-living, lowest-two, pipe-means, takes-pipe}
use Rattle.kr_ops.proofs.ServeLemmas.{all-at, on-err, refused-before, kept-room, names-pair, names-paired, names-set}
use Rattle.kr_ops.proofs.state.State.make_pipe.Goals as goal

pub unreachable-requires : goal.unreachable-requires
unreachable-requires g c = not-living c.args.self.now c.args.pid (c.index_of.ensures.none c.in_default.is) c.requires.caller.lives

pub returns-in_err-first-clause-full : goal.returns-in_err-first-clause-full
returns-in_err-first-clause-full g c =
    let same = takes-pipe c.args.self.now c.args.pid c.in-Some.k c.index_mut.result.now c.requires.caller.sound c.in-Some.ensures.some c.index_mut.ensures.value in
    let e = err_from_is_err_and c.from_residual.result c.from_residual.ensures.1 in
    let refused = c.in_err-first.ensures.full in
    rw (e.1, e.2) (λ full. same ∙ refused.0 (ap (λ x. Err x) (error-of full)), λ none. ap (λ x. Err x) (error-of (refused.1 (sym same ∙ none))))

pub returns-clause-full : goal.returns-clause-full
returns-clause-full g c =
    let same = takes-pipe c.args.self.now c.args.pid c.in-Some.k c.index_mut.result.now c.requires.caller.sound c.in-Some.ensures.some c.index_mut.ensures.value in
    (λ full. absurd cc, λ none. absurd (let refused = c.in_ok-first.ensures.full.1 (sym same ∙ none) in cc))

pub returns-clause-lowest : goal.returns-clause-lowest
returns-clause-lowest g c = lowest-two c.args.self.now c.args.pid c.in-Some.k c.index_mut.result.now c.requires.caller.sound c.in-Some.ensures.some c.index_mut.ensures.value ∙ c.in_ok-first.ensures.lowest

pub returns-clause-makes : goal.returns-clause-makes
returns-clause-makes g c = λ mounts.
    pipe-means c.args.self.now c.args.pid c.in-Some.k c.index_mut.result.now c.requires.caller.sound c.in-Some.ensures.some c.index_mut.ensures.value mounts c.in_ok-first.first c.in_ok-first.second c.args.cloexec c.pipe.new.self c.pipe.new.d c.in_ok-first.ensures.table c.in_ok-first.ensures.gives

pub returns-clause-served : goal.returns-clause-served
returns-clause-served g c =
    let s = c.args.self.now in
    let at = c.in-Some.ensures.some in
    let p = c.index_mut.result.now in
    let gives = c.in_ok-first.ensures.gives in
    record {
      files = names-set s.files c.pipe.new.self s.living.items c.in-Some.k _ c.requires.caller.sound.served.files
          (names-paired s.files c.pipe.new.self p.descs c.pipe.new.d c.in_ok-first.first c.in_ok-first.second (s.files.table.last_file + 1) c.args.cloexec gives)
          (names-pair s.files c.pipe.new.self p.descs c.pipe.new.d c.in_ok-first.first c.in_ok-first.second (s.files.table.last_file + 1) c.args.cloexec gives
          (all-at (λ (q : Process _ _). NamesOpenFiles s.files q.descs) s.living.items c.in-Some.k p c.requires.caller.sound.served.files at.within c.index_mut.ensures.value));
      room = kept-room s c.requires.caller.sound.served c.in-Some.k p _ at.within c.index_mut.ensures.value refl;
    }

pub returns-in_err-first-clause-err : goal.returns-in_err-first-clause-err
returns-in_err-first-clause-err g c =
    on-err _ _
    (refused-before c.args.self.now _ c.requires.caller.sound.served c.in-Some.k c.index_mut.result.now c.pipe.new.self c.pipe.new.d c.in-Some.ensures.some.within c.index_mut.ensures.value c.in_err-first.ensures.err c.in_err-first.ensures.err_descs refl refl refl refl)
