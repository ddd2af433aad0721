use Rattle.kr_walk.proofs.HostNameLemmas.{names_hang_together}
use Rattle.kr_walk.proofs.name.names_hang_together.Goals as goal

pub returns : goal.returns
returns c = names_hang_together c.args.tree.now c.trees_are_kept.ensures.kept.sound c.directories_have_host_names.ensures.lead
