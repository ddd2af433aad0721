use Rattle.std.proofs.Common.{sym, ◌∙◌}
use Rattle.kr_ops.specs.Meaning.{meaning}
use Rattle.kr_seen.proofs.FindLemmas.{no-descriptor, open-shown, shut-shown}
use Rattle.kr_seen.proofs.find.find_descriptor.Goals as goal

pub returns-in_err-fd : goal.returns-in_err-fd
returns-in_err-fd g c =
    c.from_residual.ensures
    ∙ sym (no-descriptor (meaning c.args.state.now) (λ pid fd x h. (c.requires.descriptors pid fd x h).0) c.args.name.now c.args.pid (sym c.number_of.ensures ∙ c.in_err-fd.was))

pub returns-in-Some : goal.returns-in-Some
returns-in-Some g c =
    open-shown (meaning c.args.state.now) (λ pid fd x h. (c.requires.descriptors pid fd x h).0) c.args.name.now c.args.pid c.in_ok-fd.fd (sym c.number_of.ensures ∙ c.in_ok-fd.was) c.in-Some.field-0 (sym c.in-Some.ensures)

pub returns-in-None : goal.returns-in-None
returns-in-None g c =
    shut-shown (meaning c.args.state.now) (λ pid fd x h. (c.requires.descriptors pid fd x h).0) c.args.name.now c.args.pid c.in_ok-fd.fd (sym c.number_of.ensures ∙ c.in_ok-fd.was) (sym c.in-None.ensures)
