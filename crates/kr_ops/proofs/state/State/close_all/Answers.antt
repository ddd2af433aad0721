use Rattle.std.proofs.Common.{◌≡◌, None, subst, arith}
use Rattle.law_lawful.specs.kr_model.Applied.{close_below}
use Rattle.kr_ops.specs.Meaning.{meaning}
use Rattle.kr_ops.proofs.ClosingLemmas.{among, next-below, none-below}
use Rattle.kr_ops.proofs.state.State.close_all.Goals as goal

pub loop-fd-init : goal.loop-fd-init
loop-fd-init g c = record { closed = none-below c.args.pid (meaning c.args.self.now); served = c.requires.served }

pub close-requires : goal.close-requires
close-requires g c = (omega arith, among c.args.self.now c.loop-fd.self c.args.pid c.loop-fd.fd c.requires c.loop-fd.invariant.closed c.loop-fd.invariant.served)

pub loop-fd-preserved : goal.loop-fd-preserved
loop-fd-preserved g c = record {
  closed = next-below c.args.pid c.loop-fd.fd (meaning c.args.self.now) (meaning c.loop-fd.self) (meaning c.close.new.self) c.loop-fd.invariant.closed (c.close.ensures.makes (record { found = None; directory = None }));
  served = c.close.ensures.served;
}

pub returns-clause-closed : goal.returns-clause-closed
returns-clause-closed g c =
    let end : c.loop-fd.fd ≡ 1024 = omega (arith, c.loop-fd-test.false) in
    subst (λ n. meaning c.loop-fd.self ≡ close_below c.args.pid n (meaning c.args.self.now)) end c.loop-fd.invariant.closed
