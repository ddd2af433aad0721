use Rattle.std.proofs.Common.{◌∙◌, SFits, Some, ap, rules, sym, w64}
use Rattle.std.proofs.Math.Facts.{to_z-of_z}
use Rattle.pt_faker.specs.Stopping.{with_register}
use Rattle.pt_faker.proofs.StopLemmas.{only-then}
use Rattle.pt_faker.specs.Faking.{word_of}
use Rattle.pt_tracer.specs.Registers.{given_back}
use Rattle.pt_tracer.specs.Watched.{if_answered}
use Rattle.pt_tracer.proofs.settling.return_registers.Goals as goal

pub returns-in-Some-clause-returned : goal.returns-in-Some-clause-returned
returns-in-Some-clause-returned g c =
    let t = g.T.Tracee.stopped c.args.t.now in
    let answer = c.in-Some.answer in
    let fits : SFits w64 answer = search rules in
    c.set.ensures.set
    ∙ ap (λ v. with_register 10 v (g.T.Tracee.stopped c.give_back.new.t)) (c.cast_unsigned.ensures ∙ ap word_of (to_z-of_z {w = w64} {z = answer} fits))
    ∙ ap (λ u. if_answered (Some answer) u) c.give_back.ensures.back
    ∙ sym (ap (λ a. if_answered a (given_back c.args.call.now.passed t)) c.in-Some.is)

pub returns-in-Some-clause-edits : goal.returns-in-Some-clause-edits
returns-in-Some-clause-edits g c = only-then c.give_back.ensures.edits c.set.ensures.edits
