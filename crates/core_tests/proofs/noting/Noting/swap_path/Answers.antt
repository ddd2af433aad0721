use Rattle.core_tests.proofs.EditLemmas.{both, peeked, poked, register-set, unchanged}
use Rattle.core_tests.proofs.noting.Noting.swap_path.Goals as goal

pub returns-then-ne-clause-edits : goal.returns-then-ne-clause-edits
returns-then-ne-clause-edits g c = peeked _ _ (g.T.Tracee.stopped c.args.t.now) (g.T.Tracee.stopped c.peek.new.self) c.requires c.in-Ok.ensures.after

pub returns-in-Ok-poke-clause-edits : goal.returns-in-Ok-poke-clause-edits
returns-in-Ok-poke-clause-edits g c =
    let t = g.T.Tracee.stopped c.args.t.now in
    let u = g.T.Tracee.stopped c.peek.new.self in
    let v = g.T.Tracee.stopped c.poke.new.self in
    let w = g.T.Tracee.stopped c.set_reg.new.self in
    both t u w c.requires (peeked _ _ t u c.requires c.in-Ok.ensures.after) (λ here. both u v w here (poked _ _ u v here c.in-Ok-poke.ensures.after) (λ there. register-set 11 _ v w there c.set_reg.ensures.set))

pub returns-in-Err-BadAddress-clause-edits : goal.returns-in-Err-BadAddress-clause-edits
returns-in-Err-BadAddress-clause-edits g c =
    let t = g.T.Tracee.stopped c.args.t.now in
    let u = g.T.Tracee.stopped c.peek.new.self in
    both t u (g.T.Tracee.stopped c.poke.new.self) c.requires (peeked _ _ t u c.requires c.in-Ok.ensures.after) (λ here. unchanged u (g.T.Tracee.stopped c.poke.new.self) here c.in-Err-BadAddress.ensures.err)

pub returns-in-Err-NoMemory-clause-edits : goal.returns-in-Err-NoMemory-clause-edits
returns-in-Err-NoMemory-clause-edits g c =
    let t = g.T.Tracee.stopped c.args.t.now in
    let u = g.T.Tracee.stopped c.peek.new.self in
    both t u (g.T.Tracee.stopped c.poke.new.self) c.requires (peeked _ _ t u c.requires c.in-Ok.ensures.after) (λ here. unchanged u (g.T.Tracee.stopped c.poke.new.self) here c.in-Err-NoMemory.ensures.err)
