use Rattle.std.proofs.Common.{◌≡◌, ap, subst, ◌∙◌}
use Rattle.std.specs.Option.{IfNone}
use Rattle.rv_asm.specs.Assembly.{code_of, first_fault}
use Rattle.rv_asm.specs.Program.{Program, total}
use Rattle.pr_gen.proofs.GuestLemmas.{whole_program}
use Rattle.pr_gen.proofs.guest.guest_code.Goals as goal

pub returns-in-Ok-clause-code : goal.returns-in-Ok-clause-code
returns-in-Ok-clause-code c =
    let whole = whole_program c.new-asm.result c.put_all.new.asm c.put_all-2.new.asm c.put_all-3.new.asm c.put_all-4.new.asm
    c.new-asm.ensures.items c.new-asm.ensures.places c.in_ok-put_all.ensures c.in_ok-put_all-2.ensures c.in_ok-put_all-3.ensures c.in_ok-put_all-4.ensures in
    subst (λ (p : Program). IfNone (first_fault p) (c.in-Ok.code ≡ code_of p)) whole c.in-Ok.ensures.code

pub returns-in-Ok-clause-size : goal.returns-in-Ok-clause-size
returns-in-Ok-clause-size c =
    let whole = whole_program c.new-asm.result c.put_all.new.asm c.put_all-2.new.asm c.put_all-3.new.asm c.put_all-4.new.asm
    c.new-asm.ensures.items c.new-asm.ensures.places c.in_ok-put_all.ensures c.in_ok-put_all-2.ensures c.in_ok-put_all-3.ensures c.in_ok-put_all-4.ensures in
    c.in-Ok.ensures.size ∙ ap (λ (p : Program). total p.items) whole
