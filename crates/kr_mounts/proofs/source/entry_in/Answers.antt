use Rattle.std.proofs.Common.{◌∷◌, Option, List, ℕ, IfSome, ◌∙◌, sym, ap, subst}
use Rattle.std.specs.Option.{option_map}
use Rattle.pt_bind.specs.Binding.{IsWritten, names_of}
use Rattle.kr_mounts.proofs.SourceLemmas.{entry_told, no_entry}
use Rattle.kr_mounts.proofs.source.entry_in.Goals as goal

pub entry_text-requires-clause-directory : goal.entry_text-requires-clause-directory
entry_text-requires-clause-directory c =
    let P : Option (List ℕ) → Type 0 = λ o. IfSome o IsWritten in
    subst IsWritten (sym c.as_slice.ensures) (subst P c.in-Some.is c.in_ok-above.ensures.written)

pub returns-in_ok-text-in-Some : goal.returns-in_ok-text-in-Some
returns-in_ok-text-in-Some c =
    let named = ap (option_map names_of) (sym c.in-Some.is) ∙ c.in_ok-above.ensures.names in
    record {
      source = entry_told c.args.tree.now c.args.dir c.args.inode c.args.name.now c.in-Some.above c.in_ok-text-in-Some.text named (c.in_ok-text-in-Some.ensures.names ∙ ap (λ b. c.args.name.now ∷ names_of b) c.as_slice.ensures);
      written = c.in_ok-text-in-Some.ensures.written;
    }

pub returns-in-None-clause-source : goal.returns-in-None-clause-source
returns-in-None-clause-source c = no_entry c.args.tree.now c.args.dir c.args.inode c.args.name.now (ap (option_map names_of) (sym c.in-None.is) ∙ c.in_ok-above.ensures.names)
