use Rattle.std.proofs.Common.{◌∙◌, ap}
use Rattle.pt_faker.specs.Stopping.{with_register}
use Rattle.pt_faker.proofs.StopLemmas.{only-then}
use Rattle.pt_tracer.proofs.registers.Arguments.give_back.Goals as goal

pub returns-clause-back : goal.returns-clause-back
returns-clause-back g c =
    let s = c.args.self in
    c.set-6.ensures.set
    ∙ ap (with_register 17 s.a7) (c.set-5.ensures.set
    ∙ ap (with_register 15 s.a5) (c.set-4.ensures.set
    ∙ ap (with_register 14 s.a4) (c.set-3.ensures.set
    ∙ ap (with_register 13 s.a3) (c.set-2.ensures.set
    ∙ ap (with_register 12 s.a2) c.set.ensures.set))))

pub returns-clause-edits : goal.returns-clause-edits
returns-clause-edits g c =
    let two = only-then c.set.ensures.edits c.set-2.ensures.edits in
    let three = only-then two c.set-3.ensures.edits in
    let four = only-then three c.set-4.ensures.edits in
    let five = only-then four c.set-5.ensures.edits in
    only-then five c.set-6.ensures.edits
