use Rattle.std.proofs.Common.{refl}
use Rattle.law_lawful.specs.kr_model.Applied.{with_brk}
use Rattle.kr_ops.proofs.ChangeLemmas.{nobody-changed, one-changed}
use Rattle.kr_ops.proofs.ServeLemmas.{kept-names, kept-room}
use Rattle.kr_ops.proofs.state.State.set_break.Goals as goal

pub returns-in-Some-clause-makes : goal.returns-in-Some-clause-makes
returns-in-Some-clause-makes g c = λ mounts. one-changed c.args.self.now c.args.pid c.in-Some.k c.index_mut.result.now _ (with_brk c.args.brk) c.requires c.in-Some.ensures.some c.index_mut.ensures.value refl

pub returns-in-Some-clause-served : goal.returns-in-Some-clause-served
returns-in-Some-clause-served g c = λ served. record {
  files = kept-names c.args.self.now served c.in-Some.k c.index_mut.result.now _ c.in-Some.ensures.some.within c.index_mut.ensures.value refl;
  room = kept-room c.args.self.now served c.in-Some.k c.index_mut.result.now _ c.in-Some.ensures.some.within c.index_mut.ensures.value refl;
}

pub returns-in_default-clause-makes : goal.returns-in_default-clause-makes
returns-in_default-clause-makes g c = λ mounts. nobody-changed c.args.self.now c.args.pid (with_brk c.args.brk) (c.index_of.ensures.none c.in_default.is)
