use Rattle.std.proofs.Common.{Bool, sym, ap, ◌∙◌}
use Rattle.std.specs.Bool.{if◌then◌else◌}
use Rattle.std.specs.Option.{option_map}
use Rattle.kr_view.specs.kr_tree.pr_base.Paths.{text_of}
use Rattle.kr_view.specs.View.{row}
use Rattle.kr_view.specs.Names.{guest_below, guest_source}
use Rattle.kr_view.proofs.GuestNameLemmas.{rooted_text}
use Rattle.kr_walk.proofs.guest.guest_name.Goals as goal

pub returns-in_ok-from_the_root-in-Some : goal.returns-in_ok-from_the_root-in-Some
returns-in_ok-from_the_root-in-Some g c =
    let r = row (g.P.Places.mounts c.args.places.now) (g.P.Places.number c.args.mount) in
    let remembered = option_map (λ e. (e.0, e.1.now)) c.args.remembered in
    let names = guest_below c.args.tree.now r c.args.ino remembered in
    let other = sym c.is_file_source.ensures ∙ c.if-is_file_source.false in
    rooted_text names c.in-Some.bytes c.in_ok-from_the_root-in-Some.field-0 (sym c.in-Some.is ∙ c.in_ok-bytes.ensures) c.in_ok-from_the_root-in-Some.ensures
    ∙ ap (λ (b : Bool). option_map text_of (if b then guest_source r remembered else names)) (sym other)
