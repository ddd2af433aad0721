use Rattle.std.proofs.Common.{ap, ◌∙◌}
use Rattle.std.specs.Prelude.{map as map_list, ◌==◌, not}
use Rattle.law_lawful.specs.kr_model.State.{Ended}
use Rattle.kr_ops.specs.Meaning.{ended_meaning, meaning}
use Rattle.kr_ops.proofs.EndingLemmas.{ended-stay}
use Rattle.kr_ops.proofs.state.State.reap.Goals as goal

pub returns-clause-makes : goal.returns-clause-makes
returns-clause-makes g c = λ pid mounts.
    let ended = ap (λ es. map_list ended_meaning es) c.forget_ended.ensures ∙ ended-stay (λ (e : Ended). not (e.pid == c.args.child)) c.args.self.now.ended.items in
    λ j. record {
      tree = c.args.self.now.tree;
      user = c.args.self.now.user;
      files = c.args.self.now.files.table;
      input = c.args.self.now.input;
      taken = c.args.self.now.taken;
      out = c.args.self.now.out;
      err = c.args.self.now.err;
      living = (meaning c.args.self.now).living;
      ended = ended j;
      next_pid = c.args.self.now.next_pid;
    }
