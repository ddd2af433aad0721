use Rattle.std.proofs.Common.{◌≡◌, inl, rules, refl, sym, ap, subst, ◌∙◌}
use Rattle.pr_sources.specs.pr_io.Moves.{Gets}
use Rattle.kr_loose.specs.kr_core.declared.kernel.Turned.{Turned}
use Rattle.kr_loose.specs.kr_turns.Run.{Put}
use Rattle.pr_run.specs.Going.{GoesTo, after_slot}
use Rattle.pr_run.proofs.TurnLemmas.{stops-made}
use Rattle.pr_run.proofs.turns.go_on.Goals as goal

pub returns-in-Ok-Deadlock-clause-puts : goal.returns-in-Ok-Deadlock-clause-puts
returns-in-Ok-Deadlock-clause-puts g c = λ x is.
    let goes = subst (λ (t : Turned). GoesTo (g.G.Goes.going (g.G.Goes.fixed c.args.run.now)) c.args.slot x (g.G.Goes.stands_for c.go.new.self) t) c.in-Ok-Deadlock.field-0-is (c.in-Ok-Deadlock.ensures.goes x is) in
    (goes.0, goes.1, refl, refl)

pub returns-in-Ok-Over-clause-puts : goal.returns-in-Ok-Over-clause-puts
returns-in-Ok-Over-clause-puts g c = λ x is.
    let goes = subst (λ (t : Turned). GoesTo (g.G.Goes.going (g.G.Goes.fixed c.args.run.now)) c.args.slot x (g.G.Goes.stands_for c.go.new.self) t) c.in-Ok-Over.field-0-is (c.in-Ok-Over.ensures.goes x is) in
    (goes.0, goes.1, refl, refl)

pub returns-in-Err-clause-puts : goal.returns-in-Err-clause-puts
returns-in-Err-clause-puts g c = λ x is. inl (refl, refl)

pub returns-in_err-put_turn-clause-puts : goal.returns-in_err-put_turn-clause-puts
returns-in_err-put_turn-clause-puts g c = λ x is.
    let going = g.G.Goes.going (g.G.Goes.fixed c.args.run.now) in
    let goes = subst (λ (t : Turned). GoesTo going c.args.slot x (g.G.Goes.stands_for c.go.new.self) t) c.in-Ok-Ran.field-0-is (c.in-Ok-Ran.ensures.goes x is) in
    let after = after_slot going c.args.slot x in
    let written : going.put after ≡ g.G.Goes.written c.go.new.self = ap (λ f. (g.G.Goes.going f).put after) (sym c.in-Ok-Ran.ensures.fixed) ∙ g.met.G.Goes.is_written c.go.new.self after goes.1 in
    let stopped = stops-made (going.ending x) (going.put after) (g.G.Goes.written c.go.new.self) _ _ (sym written) goes.0 _ c.in_err-put_turn.ensures.put in
    let h = c.from_residual.ensures in search (rules, stopped)

pub returns-clause-puts : goal.returns-clause-puts
returns-clause-puts g c = λ x is.
    let going = g.G.Goes.going (g.G.Goes.fixed c.args.run.now) in
    let goes = subst (λ (t : Turned). GoesTo going c.args.slot x (g.G.Goes.stands_for c.go.new.self) t) c.in-Ok-Ran.field-0-is (c.in-Ok-Ran.ensures.goes x is) in
    let after = after_slot going c.args.slot x in
    let written : going.put after ≡ g.G.Goes.written c.go.new.self = ap (λ f. (g.G.Goes.going f).put after) (sym c.in-Ok-Ran.ensures.fixed) ∙ g.met.G.Goes.is_written c.go.new.self after goes.1 in
    let put = c.in_ok-put_turn.ensures.put in (
      goes.0,
      subst (λ f. g.G.Goes.stands_for c.put_turn.new.run ((g.G.Goes.going f).forgets after)) c.in-Ok-Ran.ensures.fixed (c.in_ok-put_turn.ensures.forgets after goes.1),
      subst (λ (p : Put). Gets (g.O.Sink.got c.args.out.now) (g.O.Sink.got c.put_turn.new.out) p.out) (sym written) put.0,
      subst (λ (p : Put). Gets (g.R.Sink.got c.args.err.now) (g.R.Sink.got c.put_turn.new.err) p.err) (sym written) put.1,
    )
