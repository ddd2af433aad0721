use Rattle.std.proofs.Common.{ap, ◌∙◌}
use Rattle.kr_walk.specs.Rests.{stacked}
use Rattle.kr_walk.proofs.StackLemmas.{stacked_push}
use Rattle.kr_walk.proofs.rests.Rests.push.Goals as goal

pub returns-in_ok-push : goal.returns-in_ok-push
returns-in_ok-push c = ap stacked c.in_ok-push.ensures.items ∙ stacked_push c.args.self.now.list.items c.args.rest
