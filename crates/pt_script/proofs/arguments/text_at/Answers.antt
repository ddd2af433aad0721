use Rattle.std.proofs.Common.{◌≡◌, ◌∙◌, Some, ap, sym}
use Rattle.std.specs.Option.{option_copied}
use Rattle.std.specs.Prelude.{slice_get}
use Rattle.pt_script.proofs.ListLemmas.{drop-at}
use Rattle.pt_script.proofs.arguments.text_at.Goals as goal

pub returns : goal.returns
returns c =
    let there : slice_get c.args.texts.now c.args.k ≡ Some c.unwrap.result.now = sym c.at.ensures ∙ ap option_copied c.unwrap.ensures in
    drop-at c.args.texts.now c.args.k c.unwrap.result.now there
