use Rattle.std.proofs.Common.{ap, ◌∙◌, nat_eq}
use Rattle.kr_view.proofs.RestLemmas.{done_at_end}
use Rattle.kr_walk.proofs.rest.Rest.is_done.Goals as goal

pub returns : goal.returns
returns c = ap (nat_eq c.args.self.now.at) c.len.ensures ∙ done_at_end _ _ c.args.self.now.within c.args.self.now.begun
