use Rattle.std.proofs.Common.{take, ap, ◌∙◌}
use Rattle.kr_walk.proofs.NameLemmas.{cut_above}
use Rattle.kr_walk.proofs.name.cut.Goals as goal

pub returns : goal.returns
returns c = λ names are is.
    let whole = c.as_slice.ensures.value ∙ c.into_vec-bytes.ensures in
    c.from.ensures ∙ c.truncate.ensures.items ∙ ap (take c.last_slash-end.result) c.into_vec-bytes.ensures
    ∙ cut_above names c.args.name c.last_slash-end.result are is (rw whole at c.last_slash-end.ensures.within) (rw whole at c.last_slash-end.ensures.last)
