use Rattle.std.proofs.Common.{◌+◌, ◌∙◌}
use Rattle.std.proofs.lemmas.List.{take_rest}
use Rattle.pt_bind.specs.Binding.{names_of}
use Rattle.pt_bind.proofs.ByteLemmas.{spelled, spelled_parts}
use Rattle.kr_mounts.proofs.CutLemmas.{cut_name}
use Rattle.kr_mounts.proofs.text.last_name.Goals as goal

pub returns-else-is_empty : goal.returns-else-is_empty
returns-else-is_empty c =
    take_rest c.args.text.now (c.last_slash-end.result + 1)
    ∙ cut_name (names_of c.args.text.now) c.args.text.now c.last_slash-end.result (spelled_parts c.args.text.now c.requires) (spelled c.args.text.now c.requires) c.last_slash-end.ensures.last
