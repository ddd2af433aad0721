use Rattle.std.proofs.Common.{◌++◌, ap, ◌∙◌}
use Rattle.elf_load.proofs.ListLemmas.{on_ok, zeros-cut}
use Rattle.elf_load.proofs.stack.push_zeros.Goals as goal

pub returns : goal.returns
returns c =
    on_ok c.append.result _ _ (λ added. added ∙ ap (λ z. c.args.bytes.now ++ z) (zeros-cut c.args.count c.requires)) c.append.ensures.ok
