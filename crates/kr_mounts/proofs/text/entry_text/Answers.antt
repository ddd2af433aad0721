use Rattle.std.proofs.Common.{◌≡◌, ◌∷◌, ◌++◌, ◌∙◌, ap}
use Rattle.pt_bind.specs.pr_base.Paths.{slash, below_root}
use Rattle.pt_bind.specs.Binding.{names_of}
use Rattle.pt_bind.proofs.ByteLemmas.{spelled_parts}
use Rattle.kr_mounts.proofs.CutLemmas.{pushed_names, pushed_written}
use Rattle.kr_mounts.proofs.text.entry_text.Goals as goal

pub returns-clause-names : goal.returns-clause-names
returns-clause-names c =
    let whole : c.push_name.new.bytes ≡ below_root (names_of c.args.directory.now) ++ slash ∷ c.args.name.now =
    c.in_ok-push_name.ensures ∙ ap (λ t. t ++ slash ∷ c.args.name.now) (c.in_ok-bytes.ensures ∙ c.below_root.ensures) in
    pushed_names c.args.name.now (names_of c.args.directory.now) c.push_name.new.bytes c.requires.name (spelled_parts c.args.directory.now c.requires.directory) whole

pub returns-clause-written : goal.returns-clause-written
returns-clause-written c =
    let whole : c.push_name.new.bytes ≡ below_root (names_of c.args.directory.now) ++ slash ∷ c.args.name.now =
    c.in_ok-push_name.ensures ∙ ap (λ t. t ++ slash ∷ c.args.name.now) (c.in_ok-bytes.ensures ∙ c.below_root.ensures) in
    pushed_written c.args.name.now (names_of c.args.directory.now) c.push_name.new.bytes c.requires.name (spelled_parts c.args.directory.now c.requires.directory) whole
