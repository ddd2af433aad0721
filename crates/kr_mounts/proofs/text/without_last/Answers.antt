use Rattle.std.proofs.Common.{◌≡◌, take, drop, ap, ◌∙◌}
use Rattle.pt_bind.specs.pr_base.Paths.{below_root}
use Rattle.pt_bind.specs.Binding.{names_of}
use Rattle.kr_mounts.proofs.CutLemmas.{below_names, below_parts, below_spelled, cut_above, cut_parts}
use Rattle.kr_mounts.proofs.text.without_last.Goals as goal

pub returns : goal.returns
returns c =
    let names = names_of c.args.bytes in
    let are = below_parts c.args.bytes c.requires in
    let whole = c.as_slice.ensures.value ∙ c.into_vec-items.ensures in
    let cut : c.from.result ≡ below_root (drop 1 names) =
    c.from.ensures ∙ c.truncate.ensures.items ∙ ap (take c.last_slash-end.result) c.into_vec-items.ensures
    ∙ cut_above names c.args.bytes c.last_slash-end.result are (below_spelled c.args.bytes c.requires) (rw whole at c.last_slash-end.ensures.within) (rw whole at c.last_slash-end.ensures.last) in
    record { names = ap names_of cut ∙ below_names (drop 1 names) (cut_parts names are); below = record { names = drop 1 names; are_parts = cut_parts names are; written = cut } }
