use Rattle.std.proofs.Common.{◌∙◌, ◌++◌, ◌∷◌, ap}
use Rattle.pt_canon.proofs.GuestLemmas.{child_made}
use Rattle.pt_canon.proofs.guest.Guest.child.Goals as goal

pub invariant_of-result : goal.invariant_of-result
invariant_of-result c =
    let made = c.in_ok-extend_from_slice.ensures.items ∙ ap (λ b. b ++ c.args.name.now) c.in_ok-push.ensures.items in
    (child_made c.self.inside.bytes.items c.self.invariant c.args.name.now c.extend_from_slice.new.self.items c.requires made).0

pub returns : goal.returns
returns c =
    let made = c.in_ok-extend_from_slice.ensures.items ∙ ap (λ b. b ++ c.args.name.now) c.in_ok-push.ensures.items in
    (child_made c.self.inside.bytes.items c.self.invariant c.args.name.now c.extend_from_slice.new.self.items c.requires made).1 ∙ ap (λ t. c.args.name.now ∷ t) c.self.view_is
