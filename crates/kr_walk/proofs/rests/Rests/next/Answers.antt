use Rattle.std.proofs.Common.{◌++◌, map, ap, ◌∙◌}
use Rattle.kr_view.specs.kr_tree.pr_base.Paths.{component_of}
use Rattle.kr_walk.specs.Rests.{stacked}
use Rattle.kr_walk.proofs.StackLemmas.{stacked_push}
use Rattle.kr_walk.proofs.rests.Rests.next.Goals as goal

pub returns : goal.returns
returns c =
    ap stacked c.in_ok-rest.ensures.items ∙ stacked_push c.pop.new.self.items c.in_ok-rest.rest
    ∙ ap (λ parts. map component_of parts ++ stacked c.pop.new.self.items) (c.in_ok-span.ensures.first.2)
