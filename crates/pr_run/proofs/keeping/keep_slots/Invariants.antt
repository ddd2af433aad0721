use Rattle.std.proofs.Common.{◌≡◌, ◌≤◌}
use Rattle.pr_run.specs.Going.{went_by}
use Rattle.pr_run.specs.Keeping.{puts_told}
use Rattle.pr_run.specs.Slots.{slot_of}
use Rattle.pr_run.proofs.RunLemmas.{IsKeptAlong}
use Rattle.pr_run.proofs.keeping.keep_slots.Given as goal

abbrev pub invariant-loop-turn : goal.invariant-loop-turn
invariant-loop-turn g l =
    let going = g.G.Goes.going (g.G.Goes.fixed l.fn.run) in
    record {
      whole_is : g.G.Goes.is_whole l.run;
      made : g.G.Goes.made l.run ≤ l.turn;
      same : g.G.Goes.fixed l.run ≡ g.G.Goes.fixed l.fn.run;
      along : (x : g.G.Goes.Run) → g.G.Goes.stands_for l.fn.run x
          → IsKeptAlong going (slot_of l.fn.plan.schedule) (went_by going l.fn.plan x) l.fn.plan.turns l.turn (g.G.Goes.stands_for l.run) (puts_told l.puts.items);
    }
