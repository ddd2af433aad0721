use Rattle.std.proofs.Common.{ℕ, List, subst}
use Rattle.std.specs.Ordering.{nat_cmp}
use Rattle.std.specs.BTreeMap.Range.{IsRangeOf}
use Rattle.std.specs.declared.ops.Bound.TheVariants.{Included, Excluded}
use Rattle.rv_mem.proofs.MapLemmas.{no_pages_in, first_page_in, first_page_there}
use Rattle.rv_mem.proofs.table.Table.next.Goals as goal

pub returns-in-Some : goal.returns-in-Some
returns-in-Some g c = record {
  none = tt;
  there = first_page_there c.self.inside.places c.self.inside.pages c.args.self.now c.args.from c.args.to _ _ _ c.self.view_is
      (subst (λ (r : List (ℕ × ℕ)). IsRangeOf nat_cmp (Included c.args.from) (Excluded c.args.to) c.self.inside.places r) c.in-Some.ensures.steps (c.range.ensures.in_range tt));
  some = first_page_in c.self.inside.places c.self.inside.pages c.args.self.now c.args.from c.args.to _ _ _ c.self.view_is
      (subst (λ (r : List (ℕ × ℕ)). IsRangeOf nat_cmp (Included c.args.from) (Excluded c.args.to) c.self.inside.places r) c.in-Some.ensures.steps (c.range.ensures.in_range tt));
}

pub returns-in-None : goal.returns-in-None
returns-in-None g c = record {
  none = no_pages_in c.self.inside.places c.self.inside.pages c.args.self.now c.args.from c.args.to c.self.view_is
      (subst (λ (r : List (ℕ × ℕ)). IsRangeOf nat_cmp (Included c.args.from) (Excluded c.args.to) c.self.inside.places r) c.in-None.ensures.steps.0 (c.range.ensures.in_range tt));
  some = tt;
  there = tt;
}
