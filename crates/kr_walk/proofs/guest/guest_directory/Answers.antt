use Rattle.std.proofs.Common.{◌≡◌, ◌-◌, ℕ, List, [], ◌++◌, Option, Some, length, take, drop, length-drop, sym, ap, ◌∙◌}
use Rattle.std.specs.Option.{option_map_or}
use Rattle.std.proofs.Math.Seq.{take-length}
use Rattle.kr_view.specs.kr_tree.pr_base.Paths.{text_of}
use Rattle.kr_view.specs.View.{Row, row}
use Rattle.kr_view.proofs.TableLemmas.{there_is}
use Rattle.kr_view.proofs.GuestNameLemmas.{moved_bytes}
use Rattle.kr_walk.proofs.guest.guest_directory.Goals as goal

-- what a range to the end has
to_end : (begin : ℕ) (bytes : List ℕ) → take (length bytes - begin) (drop begin bytes) ≡ drop begin bytes
to_end begin bytes = ap (λ n. take n (drop begin bytes)) (sym (length-drop begin bytes)) ∙ take-length (drop begin bytes)

pub returns : goal.returns
returns g c =
    let there = there_is (row (g.P.Places.mounts c.args.places.now) (g.P.Places.number c.args.mount)) c.requires.mounted in
    let text = c.in_ok-copy.ensures ∙ c.location.ensures ∙ ap (λ (o : Option Row). option_map_or (λ r. text_of r.text.location) o []) there.1 in
    moved_bytes c.args.tree.now (row (g.P.Places.mounts c.args.places.now) (g.P.Places.number c.args.mount)) there.0 c.args.dir c.in-Some-source_end.end c.in-Some.name c.below_the_root-guest.result c.append.new.self there.1
    (ap (λ n. Some (drop c.in-Some-source_end.end n)) (sym c.as_slice.ensures) ∙ c.in-Some-source_end.ensures.below there.0 there.1)
    (c.below_the_root-guest.ensures there.0.text.location (c.requires.table.location_names (g.P.Places.number c.args.mount) there.0 there.1) text)
    (c.in_ok-append.ensures.ok ∙ ap (λ bytes. c.below_the_root-guest.result ++ bytes) (to_end c.in-Some-source_end.end c.as_slice-2.result.now) ∙ ap (λ n. c.below_the_root-guest.result ++ drop c.in-Some-source_end.end n) c.as_slice-2.ensures)
