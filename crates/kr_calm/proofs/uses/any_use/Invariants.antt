use Rattle.std.proofs.Common.{◌≡◌, false, take}
use Rattle.std.specs.Prelude.{map as map_list}
use Rattle.std.specs.List.{list_any}
use Rattle.kr_seen.specs.kr_ops.Meaning.{process_meaning}
use Rattle.kr_calm.specs.Questions.{process_answers}
use Rattle.kr_calm.proofs.uses.any_use.Given as goal

abbrev pub invariant-loop-k : goal.invariant-loop-k
invariant-loop-k g l = list_any (process_answers l.state.tree l.question l.state.files.table) (map_list process_meaning (take l.k l.state.living.items)) ≡ false
