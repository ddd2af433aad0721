use Rattle.std.proofs.Common.{◌≡◌, ◌∙◌, List, ℕ, ap, subst}
use Rattle.pt_bind.specs.pr_base.Paths.{AreParts, text_of}
use Rattle.pt_bind.specs.Binding.{host_of, names_of, rows_of}
use Rattle.pt_bind.proofs.ByteLemmas.{spelled_parts}
use Rattle.pt_bind.proofs.TagLemmas.{if_ok}
use Rattle.pt_canon.proofs.TextLemmas.{host_back}
use Rattle.pt_canon.proofs.translation.Translation.host.Goals as goal

pub returns-clause-names : goal.returns-clause-names
returns-clause-names c =
    let rows = rows_of c.args.self.now.table.now in
    let are : AreParts c.args.at.now = subst AreParts c.text.ensures.names (spelled_parts c.text.result.now c.text.ensures.written) in
    let P : List ℕ → Type 0 = λ host. host ≡ text_of (host_of rows (names_of c.text.result.now)) in
    let Q : List ℕ → Type 0 = λ host. names_of host ≡ host_of rows c.args.at.now in
    if_ok c.host_of.result P Q (λ host e. host_back c.args.self.now.table.now c.args.at.now are host (e ∙ ap (λ t. text_of (host_of rows t)) c.text.ensures.names)) c.host_of.ensures.host
