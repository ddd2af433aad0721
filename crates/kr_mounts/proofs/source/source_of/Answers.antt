use Rattle.std.proofs.Common.{◌≡◌, Option, Some, sym, ap, subst, ◌∙◌}
use Rattle.std.specs.Bool.{if◌then◌else◌}
use Rattle.std.specs.Prelude.{IfOk}
use Rattle.std.specs.Option.{option_map}
use Rattle.kr_mounts.specs.Found.{source_told}
use Rattle.kr_mounts.specs.Sources.{Source, directory_source, entry_source, source_at}
use Rattle.kr_mounts.specs.declared.source.Found.{Found}
use Rattle.kr_mounts.proofs.source.source_of.Goals as goal

pub returns-then-is_directory-clause-source : goal.returns-then-is_directory-clause-source
returns-then-is_directory-clause-source c =
    let t = c.args.tree.now in
    let i = c.in-Node.inode in
    let same : directory_source t i ≡ source_at t c.args.dir c.args.name.now (Some c.args.found) =
    ap (λ b. if b then directory_source t i else entry_source t c.args.dir c.args.name.now i) (sym c.if-is_directory.true ∙ c.is_directory.ensures) ∙ ap (λ h. source_at t c.args.dir c.args.name.now (Some h)) (sym c.in-Node.is) in
    let P : Option Source → Type 0 = λ s. IfOk c.directory_source.result (λ (f : Option Found). option_map source_told f ≡ s) in
    subst P same c.directory_source.ensures.source

pub entry_source-requires : goal.entry_source-requires
entry_source-requires c = c.requires c.in-Node.inode c.in-Node.is (sym c.is_directory.ensures ∙ c.if-is_directory.false)

pub returns-else-is_directory-clause-source : goal.returns-else-is_directory-clause-source
returns-else-is_directory-clause-source c =
    let t = c.args.tree.now in
    let i = c.in-Node.inode in
    let same : entry_source t c.args.dir c.args.name.now i ≡ source_at t c.args.dir c.args.name.now (Some c.args.found) =
    ap (λ b. if b then directory_source t i else entry_source t c.args.dir c.args.name.now i) (sym c.if-is_directory.false ∙ c.is_directory.ensures) ∙ ap (λ h. source_at t c.args.dir c.args.name.now (Some h)) (sym c.in-Node.is) in
    let P : Option Source → Type 0 = λ s. IfOk c.entry_source.result (λ (f : Option Found). option_map source_told f ≡ s) in
    subst P same c.entry_source.ensures.source

pub returns-in-Proc-clause-source : goal.returns-in-Proc-clause-source
returns-in-Proc-clause-source c = ap (λ h. source_at c.args.tree.now c.args.dir c.args.name.now (Some h)) (sym c.in-Proc.is)
