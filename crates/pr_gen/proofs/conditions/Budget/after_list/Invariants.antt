use Rattle.std.proofs.Common.{◌+◌, ◌-◌, ◌≤◌, length, drop}
use Rattle.pr_gen.proofs.Budgets.{Goes}
use Rattle.pr_gen.proofs.conditions.Budget.after_list.Given as goal

abbrev pub invariant-loop-text : goal.invariant-loop-text
invariant-loop-text l = record {
  within : l.k ≤ length l.list;
  counted : l.left.texts + l.k ≤ l.fn.self.texts;
  goes : Goes l.fn.self l.list l.left (drop l.k l.list);
}

abbrev pub decreases-loop-text : goal.decreases-loop-text
decreases-loop-text l = length l.list - l.k
