use Rattle.elf_load.proofs.ListLemmas.{drop-at}
use Rattle.std.proofs.Common.{sym, ap, ◌∙◌, ◌≡◌, Some}
use Rattle.std.specs.Prelude.{slice_get}
use Rattle.std.specs.Option.{option_copied}
use Rattle.elf_load.proofs.arguments.text_at.Goals as goal

pub returns : goal.returns
returns c =
    let there : slice_get c.args.texts.now c.args.k ≡ Some c.unwrap.result.now = sym c.at.ensures ∙ ap option_copied c.unwrap.ensures in
    drop-at c.args.texts.now c.args.k c.unwrap.result.now there
