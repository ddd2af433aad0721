use Rattle.std.proofs.Common.{ap, ◌∙◌, arith, length, refl}
use Rattle.std.specs.Vec.{with_item}
use Rattle.kr_ops.specs.Ending.{adopted}
use Rattle.kr_ops.proofs.NameLemmas.{length-first_done, none-done, next-done, each-done}
use Rattle.kr_ops.proofs.state.State.adopt_all.Goals as goal

pub loop-k-init : goal.loop-k-init
loop-k-init g c = record { others = refl; done = none-done _ _ }

pub loop-k-preserved : goal.loop-k-preserved
loop-k-preserved g c =
    let long = ap length c.loop-k.invariant.done ∙ length-first_done (adopted c.args.pid) c.loop-k.k c.args.self.now.living.items in
    let p = c.index_mut-process.result.now in
    record {
      others =
          let e = c.loop-k.invariant.others in
          λ j. record {
            tree = (e j).tree;
            user = (e j).user;
            files = (e j).files;
            room = (e j).room;
            input = (e j).input;
            taken = (e j).taken;
            out = (e j).out;
            err = (e j).err;
            living = with_item c.loop-k.self.living c.loop-k.k (record p { parent = c.parent_after-process.result });
            ended = (e j).ended;
            next_pid = (e j).next_pid;
          };
      done = next-done (adopted c.args.pid) c.loop-k.k c.loop-k.self.living.items c.args.self.now.living.items p _ c.loop-k.invariant.done (omega (arith, c.loop-k-test.true, c.len-k-end.ensures)) c.index_mut-process.ensures.value
          (ap (λ n. record p { parent = n }) c.parent_after-process.ensures);
    }

pub returns-clause-living : goal.returns-clause-living
returns-clause-living g c =
    let long = ap length c.loop-k.invariant.done ∙ length-first_done (adopted c.args.pid) c.loop-k.k c.args.self.now.living.items in
    each-done (adopted c.args.pid) c.loop-k.k c.loop-k.self.living.items c.args.self.now.living.items c.loop-k.invariant.done (omega (arith, c.loop-k-test.false, c.len-k-end.ensures))

pub returns-clause-others : goal.returns-clause-others
returns-clause-others g c = c.loop-k.invariant.others
