use Rattle.std.proofs.Common.{Option, List, ℕ, IfSome, ◌∙◌, sym, ap, subst}
use Rattle.std.specs.Option.{option_map}
use Rattle.pt_bind.specs.Binding.{IsWritten, names_of}
use Rattle.kr_mounts.proofs.SourceLemmas.{directory_told, no_directory}
use Rattle.kr_mounts.proofs.source.directory_source.Goals as goal

pub returns-in-Some : goal.returns-in-Some
returns-in-Some c =
    let named = ap (option_map names_of) (sym c.in-Some.is) ∙ c.in_ok-text.ensures.names in
    let P : Option (List ℕ) → Type 0 = λ o. IfSome o IsWritten in
    record { source = directory_told c.args.tree.now c.args.inode c.directory_above-dir.result c.in-Some.text named c.directory_above-dir.ensures; written = subst P c.in-Some.is c.in_ok-text.ensures.written }

pub returns-in-None-clause-source : goal.returns-in-None-clause-source
returns-in-None-clause-source c = no_directory c.args.tree.now c.args.inode (ap (option_map names_of) (sym c.in-None.is) ∙ c.in_ok-text.ensures.names)
