use Rattle.std.proofs.Common.{◌≡◌, ◌∙◌, ◌<◌, sym, ap, subst, refl, length, List, ℕ, Some, None, lit<}
use Rattle.std.specs.Prelude.{IsSome, slice_index}
use Rattle.std.specs.FinMap as map
use Rattle.rv_table.proofs.pr_base.BTreeLemmas.{removed}
use Rattle.rv_table.proofs.pr_base.MapLemmas.{remove-none}
use Rattle.rv_mem.specs.Places.{places_of, no_page, pages_at, IsSettled}
use Rattle.rv_mem.proofs.MapLemmas.{get-place}
use Rattle.rv_mem.proofs.PlaceLemmas.{IsLeft, left_by_index, inside, absent, still_there, paired-removed, AreNumbered-removed, pages_at-removed}
use Rattle.rv_mem.proofs.table.Table.remove.Goals as goal

pub returns-in_default : goal.returns-in_default
returns-in_default g c =
    ap (λ (es : List (ℕ × ℕ)). pages_at (places_of es) c.self.inside.pages) c.in_default.ensures.unchanged ∙ c.self.view_is
    ∙ sym (remove-none c.args.self.now c.args.number (absent (places_of c.self.inside.places.entries) c.self.inside.pages c.args.self.now c.args.number c.self.view_is
    (get-place c.self.inside.places c.args.number None c.in_default.ensures.value)))

pub swap_remove-number-requires : goal.swap_remove-number-requires
swap_remove-number-requires g c = subst (λ n. c.in-Some.place < n) (sym c.self.inside.numbers.ok.0) (c.self.invariant.0.held c.args.number c.in-Some.place (get-place c.self.inside.places c.args.number (Some c.in-Some.place) c.in-Some.ensures.value)).0

pub swap_remove-requires : goal.swap_remove-requires
swap_remove-requires g c = (
  lit< tt,
  inside (places_of c.self.inside.places.entries) c.self.inside.numbers.items c.self.inside.pages c.args.number c.in-Some.place c.self.invariant.0 c.self.invariant.1
      (get-place c.self.inside.places c.args.number (Some c.in-Some.place) c.in-Some.ensures.value),
)

pub settle-requires : goal.settle-requires
settle-requires g c =
    let old = places_of c.self.inside.places.entries in
    let middle = places_of c.remove.new.self.entries in
    let numbers = c.self.inside.numbers.items in
    let left = c.swap_remove-number.new.self.items in
    let place = c.in-Some.place in
    let here : map.get old c.args.number ≡ Some place = get-place c.self.inside.places c.args.number (Some place) c.in-Some.ensures.value in
    let is : middle ≡ map.remove old c.args.number = removed c.self.inside.places c.remove.new.self old c.args.number refl c.in-Some.ensures.updates in
    let ns : IsLeft 0 numbers left place = left_by_index 0 numbers left place c.self.inside.numbers.len c.swap_remove-number.new.self.len c.self.inside.numbers.ok.0 c.swap_remove-number.new.self.ok.0 c.swap_remove-number.ensures.len (λ l. c.swap_remove-number.ensures.by_index.0 0 l) (λ j d l. c.swap_remove-number.ensures.by_index.1 j 0 d l) in
    subst (λ (l : List ℕ). place < length l → IsSome (map.get middle (slice_index l place))) (sym c.deref.ensures.value) (still_there old middle numbers left c.args.number place c.self.invariant.0 here is ns)

pub invariant_of-self-2 : goal.invariant_of-self-2
invariant_of-self-2 g c =
    let old = places_of c.self.inside.places.entries in
    let middle = places_of c.remove.new.self.entries in
    let numbers = c.self.inside.numbers.items in
    let left = c.swap_remove-number.new.self.items in
    let place = c.in-Some.place in
    let here : map.get old c.args.number ≡ Some place = get-place c.self.inside.places c.args.number (Some place) c.in-Some.ensures.value in
    let is : middle ≡ map.remove old c.args.number = removed c.self.inside.places c.remove.new.self old c.args.number refl c.in-Some.ensures.updates in
    let ns : IsLeft 0 numbers left place = left_by_index 0 numbers left place c.self.inside.numbers.len c.swap_remove-number.new.self.len c.self.inside.numbers.ok.0 c.swap_remove-number.new.self.ok.0 c.swap_remove-number.ensures.len (λ l. c.swap_remove-number.ensures.by_index.0 0 l) (λ j d l. c.swap_remove-number.ensures.by_index.1 j 0 d l) in
    let pages = c.self.inside.pages in
    let rest = c.swap_remove.new.self in
    let after = places_of c.settle.new.places.entries in
    let ps : IsLeft no_page pages rest place = record { size = c.swap_remove.ensures.size; same = c.swap_remove.ensures.same; moved = c.swap_remove.ensures.moved } in
    let settled : IsSettled middle after left place = subst (λ (l : List ℕ). IsSettled middle after l place) c.deref.ensures.value c.settle.ensures in
    (AreNumbered-removed old middle after numbers left pages rest c.args.number place c.self.invariant.0 c.self.invariant.1 here is ns ps settled, paired-removed old middle after numbers left pages rest c.args.number place c.self.invariant.0 c.self.invariant.1 here is ns ps settled)

pub returns : goal.returns
returns g c =
    let old = places_of c.self.inside.places.entries in
    let middle = places_of c.remove.new.self.entries in
    let numbers = c.self.inside.numbers.items in
    let left = c.swap_remove-number.new.self.items in
    let place = c.in-Some.place in
    let here : map.get old c.args.number ≡ Some place = get-place c.self.inside.places c.args.number (Some place) c.in-Some.ensures.value in
    let is : middle ≡ map.remove old c.args.number = removed c.self.inside.places c.remove.new.self old c.args.number refl c.in-Some.ensures.updates in
    let ns : IsLeft 0 numbers left place = left_by_index 0 numbers left place c.self.inside.numbers.len c.swap_remove-number.new.self.len c.self.inside.numbers.ok.0 c.swap_remove-number.new.self.ok.0 c.swap_remove-number.ensures.len (λ l. c.swap_remove-number.ensures.by_index.0 0 l) (λ j d l. c.swap_remove-number.ensures.by_index.1 j 0 d l) in
    let pages = c.self.inside.pages in
    let rest = c.swap_remove.new.self in
    let after = places_of c.settle.new.places.entries in
    let ps : IsLeft no_page pages rest place = record { size = c.swap_remove.ensures.size; same = c.swap_remove.ensures.same; moved = c.swap_remove.ensures.moved } in
    let settled : IsSettled middle after left place = subst (λ (l : List ℕ). IsSettled middle after l place) c.deref.ensures.value c.settle.ensures in
    pages_at-removed old middle after numbers left pages rest c.args.number place c.self.invariant.0 c.self.invariant.1 here is ns ps settled ∙ ap (λ m. map.remove m c.args.number) c.self.view_is
