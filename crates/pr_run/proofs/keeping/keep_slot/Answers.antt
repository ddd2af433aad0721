use Rattle.std.proofs.Common.{◌≡◌, refl, sym, ap, subst, ◌∙◌}
use Rattle.kr_loose.specs.kr_core.declared.kernel.Turned.{Turned}
use Rattle.pr_run.specs.Going.{GoesTo, after_slot}
use Rattle.pr_run.specs.Keeping.{puts_told}
use Rattle.pr_run.proofs.KeepLemmas.{told-push}
use Rattle.pr_run.proofs.keeping.keep_slot.Goals as goal

pub returns-in-Ok-Deadlock-clause-keeps : goal.returns-in-Ok-Deadlock-clause-keeps
returns-in-Ok-Deadlock-clause-keeps g c = λ x is.
    let goes = subst (λ (t : Turned). GoesTo (g.G.Goes.going (g.G.Goes.fixed c.args.run.now)) c.args.slot x (g.G.Goes.stands_for c.go.new.self) t) c.in-Ok-Deadlock.field-0-is (c.in-Ok-Deadlock.ensures.goes x is) in
    (goes.0, goes.1, refl)

pub returns-in-Ok-Over-clause-keeps : goal.returns-in-Ok-Over-clause-keeps
returns-in-Ok-Over-clause-keeps g c = λ x is.
    let goes = subst (λ (t : Turned). GoesTo (g.G.Goes.going (g.G.Goes.fixed c.args.run.now)) c.args.slot x (g.G.Goes.stands_for c.go.new.self) t) c.in-Ok-Over.field-0-is (c.in-Ok-Over.ensures.goes x is) in
    (goes.0, goes.1, refl)

pub returns-clause-keeps : goal.returns-clause-keeps
returns-clause-keeps g c = λ x is.
    let going = g.G.Goes.going (g.G.Goes.fixed c.args.run.now) in
    let goes = subst (λ (t : Turned). GoesTo going c.args.slot x (g.G.Goes.stands_for c.go.new.self) t) c.in-Ok-Ran.field-0-is (c.in-Ok-Ran.ensures.goes x is) in
    let after = after_slot going c.args.slot x in
    let written : going.put after ≡ g.G.Goes.written c.go.new.self = ap (λ f. (g.G.Goes.going f).put after) (sym c.in-Ok-Ran.ensures.fixed) ∙ g.met.G.Goes.is_written c.go.new.self after goes.1 in (
      goes.0,
      subst (λ f. g.G.Goes.stands_for c.take_bytes.new.run ((g.G.Goes.going f).forgets after)) c.in-Ok-Ran.ensures.fixed (c.in_ok-written.ensures.forgets after goes.1),
      ap puts_told c.in_ok-push.ensures.items ∙ told-push c.args.puts.now.items c.in_ok-written.written (going.put after) (c.in_ok-written.ensures.bytes ∙ sym written),
    )
