use Rattle.std.proofs.Common.{◌≡◌, ◌-◌, []}
use Rattle.kr_tree.proofs.NameLemmas.{written}
use Rattle.kr_tree.proofs.tree.Tree.name_backward.Given as goal

-- what is written, with what is still above, is the whole
abbrev pub invariant-loop-step : goal.invariant-loop-step
invariant-loop-step l = written l.backward.items (l.self.next - l._step) l.self l.at ≡ written [] l.self.next l.self l.dir
