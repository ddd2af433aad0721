use Rattle.rv_mem.specs.Page.{zero_bytes}
use Rattle.rv_mem.proofs.frame.Frame.zeros.Goals as goal

pub returns : goal.returns
unfolding zero_bytes
returns c = c.in_ok-bytes.ensures.items_if_clones_equal (λ y e. e)
