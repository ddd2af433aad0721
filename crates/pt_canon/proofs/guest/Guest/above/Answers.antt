use Rattle.std.proofs.Common.{◌∙◌, ap, subst, sym}
use Rattle.pt_bind.specs.Binding.{names_of}
use Rattle.pt_canon.specs.Kept.{IsBelowRoot}
use Rattle.pt_canon.specs.ProcessLinks.{above}
use Rattle.pt_canon.proofs.GuestLemmas.{cut}
use Rattle.pt_canon.proofs.guest.Guest.above.Goals as goal

pub invariant_of-result : goal.invariant_of-result
invariant_of-result c =
    let both = cut c.self.inside.bytes.items c.self.invariant c.last_slash-end.result (λ front name e plain. c.last_slash-end.ensures.last front name (c.as_slice.ensures.value ∙ e) plain) in
    subst IsBelowRoot (sym c.truncate.ensures.items) both.0

pub returns : goal.returns
returns c =
    let both = cut c.self.inside.bytes.items c.self.invariant c.last_slash-end.result (λ front name e plain. c.last_slash-end.ensures.last front name (c.as_slice.ensures.value ∙ e) plain) in
    ap names_of c.truncate.ensures.items ∙ both.1 ∙ ap above c.self.view_is
