use Rattle.std.proofs.Common.{ℕ, List, ◌≡◌, ◌+◌, ◌∙◌, arith, true, false, nat_eq, subst}
use Rattle.std.specs.FinMap as map
use Rattle.std.specs.List.{list_any}
use Rattle.rv_mem.specs.Page.{fresh_page}
use Rattle.rv_table.proofs.pr_base.MapLemmas.{get-changed_other}
use Rattle.rv_mem.proofs.ChangeLemmas.{contains-with_page}
use Rattle.rv_mem.proofs.TableLemmas.{there_after, outside_after, fresh_more, mapped_from}
use Rattle.rv_mem.proofs.table.Table.map.Goals as goal

pub loop-k-init : goal.loop-k-init
loop-k-init g c =
    let added = subst (λ (xs : List ℕ). (q : ℕ) → list_any (nat_eq q) xs ≡ true → map.contains_key c.add_all.new.self q ≡ true) c.deref.ensures.value c.in_ok-add_all.ensures.added in
    let others = subst (λ (xs : List ℕ). (q : ℕ) → list_any (nat_eq q) xs ≡ false → map.get c.add_all.new.self q ≡ map.get c.args.self.now q) c.deref.ensures.value c.in_ok-add_all.ensures.others in
    record {
      there = there_after c.args.self.now c.add_all.new.self c.in_ok-absent.absent.items c.args.first c.args.count c.in_ok-absent.ensures.all added others;
      outside = outside_after c.args.self.now c.add_all.new.self c.in_ok-absent.absent.items c.args.first c.args.count c.in_ok-absent.ensures.absent others;
      fresh = λ j l. absurd (omega arith);
    }

pub loop-k-preserved : goal.loop-k-preserved
loop-k-preserved g c = record {
  there = λ j l. rw c.reset.ensures (contains-with_page c.loop-k.self (c.args.first + c.loop-k.k) (λ _. fresh_page c.args.rights) (c.args.first + j) ∙ c.loop-k.invariant.there j l);
  outside = λ q apart. rw c.reset.ensures (get-changed_other c.loop-k.self (c.args.first + c.loop-k.k) (λ _. fresh_page c.args.rights) q (apart c.loop-k.k c.loop-k-test.true) ∙ c.loop-k.invariant.outside q apart);
  fresh = λ j l. rw c.reset.ensures (fresh_more c.loop-k.self c.args.first c.loop-k.k (fresh_page c.args.rights) (c.loop-k.invariant.there c.loop-k.k c.loop-k-test.true) c.loop-k.invariant.fresh j l);
}

pub returns-clause-ok : goal.returns-clause-ok
returns-clause-ok g c = mapped_from c.args.self.now c.loop-k.self c.args.first c.args.count c.args.rights c.loop-k.invariant.outside (λ j l. c.loop-k.invariant.fresh j (omega arith))
