use Rattle.std.proofs.Common.{◌≡◌, ◌∙◌, Some, ap, sym}
use Rattle.std.specs.Option.{option_map}
use Rattle.pt_bind.specs.pr_base.Paths.{text_of}
use Rattle.pt_bind.specs.Binding.{guest_of, names_of, rows_of}
use Rattle.pt_canon.proofs.TextLemmas.{guest_back}
use Rattle.pt_canon.proofs.translation.Translation.tagged.Goals as goal

pub returns-in_ok-of-in-Some : goal.returns-in_ok-of-in-Some
returns-in_ok-of-in-Some c =
    let bounds = c.args.self.now.table.now in
    let told : Some c.in-Some.guest ≡ option_map text_of (guest_of (rows_of bounds) c.args.tag (names_of c.args.name.now)) = sym c.in-Some.is ∙ c.in_ok-guest.ensures.guest in
    ap Some (c.in_ok-of-in-Some.ensures ∙ ap names_of c.as_slice.ensures) ∙ guest_back bounds c.args.tag c.args.name.now c.requires c.in-Some.guest told
