use Rattle.std.proofs.Common.{◌∙◌, sym, ap, subst, refl, arith}
use Rattle.std.specs.FinMap as map
use Rattle.std.specs.Prelude.{IsSome, slice_index}
use Rattle.std.specs.BTreeMap.{get_by}
use Rattle.std.specs.Ordering.{nat_cmp}
use Rattle.rv_table.proofs.pr_base.BTreeLemmas.{is_found, inserted, get-view}
use Rattle.rv_table.proofs.pr_base.MapLemmas.{get-insert_same, get-insert_other}
use Rattle.rv_mem.specs.Places.{places_of}
use Rattle.rv_mem.proofs.places.settle.Goals as goal

pub unwrap-requires : goal.unwrap-requires
unwrap-requires c = is_found c.args.places.now (places_of c.args.places.now.entries) (slice_index c.args.numbers.now c.args.place) c.get_mut.result refl c.get_mut.ensures.value (c.requires (omega arith))

pub returns : goal.returns
returns c =
    let number = slice_index c.args.numbers.now c.args.place in
    let old = places_of c.args.places.now.entries in
    let new = c.get_mut.follows.lender c.args.place in
    let there : IsSome (get_by (nat_cmp number) c.args.places.now) = subst IsSome (sym (get-view c.args.places.now.entries old number refl)) (c.requires (omega arith)) in
    let is = inserted c.args.places.now new old number c.args.place refl ((c.get_mut.follows.holds c.args.place).3 there) in
    record {
      told = λ l. ap (λ m. map.get m number) is ∙ get-insert_same old number c.args.place;
      others = λ q apart. ap (λ m. map.get m q) is ∙ get-insert_other old number c.args.place q (apart (omega arith));
    }
