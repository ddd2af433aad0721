use Rattle.std.proofs.Common.{◌≡◌, ◌∙◌, None, ap, sym, subst, arith}
use Rattle.law_lawful.specs.kr_model.Applied.{close_on_exec_below}
use Rattle.kr_ops.specs.Meaning.{meaning}
use Rattle.kr_ops.specs.Sound.{IsServed}
use Rattle.kr_ops.specs.declared.state.State.{State}
use Rattle.kr_ops.proofs.ClosingLemmas.{between, goes, next-closed, next-kept, none-closed}
use Rattle.kr_ops.proofs.state.State.close_on_exec.Goals as goal
use Rattle.kr_ops.proofs.state.State.close_on_exec.Goals.{then-unwrap_or, else-unwrap_or}

pub loop-fd-init : goal.loop-fd-init
loop-fd-init g c = record { closed = none-closed c.args.pid (meaning c.args.self.now); served = c.requires.served }

pub cloexec-requires : goal.cloexec-requires
cloexec-requires g c = (omega arith, between c.args.self.now c.loop-fd.self c.args.pid c.loop-fd.fd c.requires c.loop-fd.invariant.closed c.loop-fd.invariant.served)

pub close-requires : goal.close-requires
close-requires g c = (omega arith, between c.args.self.now c.loop-fd.self c.args.pid c.loop-fd.fd c.requires c.loop-fd.invariant.closed c.loop-fd.invariant.served)

pub loop-fd-preserved : goal.loop-fd-preserved
loop-fd-preserved g c = elim c.if-unwrap_or.branch [
  | then-unwrap_or w ↦ record {
    closed =
        ap (λ (s : State _ _). meaning s) w.self-is
        ∙ next-closed c.args.pid c.loop-fd.fd (meaning c.args.self.now) (meaning c.loop-fd.self) (meaning w.close.new.self) c.loop-fd.invariant.closed
        (goes c.args.pid c.loop-fd.fd (meaning c.loop-fd.self) c.cloexec.result c.cloexec.ensures ∙ sym w.if-unwrap_or.ensures) (w.close.ensures.makes (record { found = None; directory = None }));
    served = subst IsServed (sym w.self-is) w.close.ensures.served;
  }
  | else-unwrap_or w ↦ record {
    closed =
        ap (λ (s : State _ _). meaning s) w.self-is
        ∙ next-kept c.args.pid c.loop-fd.fd (meaning c.args.self.now) (meaning c.loop-fd.self) c.loop-fd.invariant.closed
        (goes c.args.pid c.loop-fd.fd (meaning c.loop-fd.self) c.cloexec.result c.cloexec.ensures ∙ sym w.if-unwrap_or.ensures);
    served = subst IsServed (sym w.self-is) c.loop-fd.invariant.served;
  }
]

pub returns-clause-makes : goal.returns-clause-makes
returns-clause-makes g c = λ mounts.
    let end : c.loop-fd.fd ≡ 1024 = omega (arith, c.loop-fd-test.false) in
    subst (λ n. meaning c.loop-fd.self ≡ close_on_exec_below c.args.pid n (meaning c.args.self.now)) end c.loop-fd.invariant.closed
