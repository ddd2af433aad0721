use Rattle.rv_mem.proofs.LayoutLemmas as lemmas
use Rattle.rv_mem.proofs.laws.layouts_follow.Goals as goal

pub returns : goal.returns
returns c = lemmas.layouts_follow
