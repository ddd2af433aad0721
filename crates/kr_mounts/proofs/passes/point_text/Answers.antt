use Rattle.std.proofs.Common.{◌≡◌, ◌∷◌, [], List, ℕ, Option, IfSome, sym, ap, subst, ◌∙◌}
use Rattle.std.specs.Option.{option_map, option_map_or}
use Rattle.std.proofs.lemmas.Result.{IfOk-weaker}
use Rattle.pt_bind.specs.pr_base.Paths.{IsPart, slash}
use Rattle.pt_bind.specs.pr_base.Texts.{Text}
use Rattle.pt_bind.specs.Binding.{IsWritten, names_of}
use Rattle.kr_mounts.specs.MountTable.{point_text}
use Rattle.kr_mounts.specs.Stored.{point_told}
use Rattle.kr_mounts.proofs.CutLemmas.{root_written}
use Rattle.kr_mounts.proofs.MountLemmas.{root_names}
use Rattle.kr_mounts.proofs.passes.point_text.Goals as goal

pub entry_text-requires-clause-directory : goal.entry_text-requires-clause-directory
entry_text-requires-clause-directory c =
    let P : Option (List ℕ) → Type 0 = λ o. IfSome o IsWritten in
    subst IsWritten (sym c.as_slice.ensures) (subst P c.in-Some.is c.in_ok-above.ensures.written)

pub entry_text-requires-clause-name : goal.entry_text-requires-clause-name
entry_text-requires-clause-name c = subst IsPart (sym c.as_slice-in-Some.ensures) c.requires

pub returns-in-Some-clause-names : goal.returns-in-Some-clause-names
returns-in-Some-clause-names c =
    let named = ap (option_map names_of) (sym c.in-Some.is) ∙ c.in_ok-above.ensures.names in
    let above = ap names_of c.as_slice.ensures ∙ ap (λ o. option_map_or (λ (t : Text). t) o []) named in
    let P : List ℕ → Type 0 = λ text. names_of text ≡ c.as_slice-in-Some.result.now ∷ names_of c.as_slice.result.now in
    let Q : List ℕ → Type 0 = λ text. names_of text ≡ point_text c.args.tree.now (point_told c.args.point.now) in
    IfOk-weaker c.entry_text.result P Q (λ text is. is ∙ (λ i. c.as_slice-in-Some.ensures i ∷ above i)) c.entry_text.ensures.names

pub entry_text-requires-in-None-clause-directory : goal.entry_text-requires-in-None-clause-directory
entry_text-requires-in-None-clause-directory c = root_written

pub returns-in-None-clause-names : goal.returns-in-None-clause-names
returns-in-None-clause-names c =
    let named = ap (option_map names_of) (sym c.in-None.is) ∙ c.in_ok-above.ensures.names in
    let above = root_names ∙ ap (λ o. option_map_or (λ (t : Text). t) o []) named in
    let P : List ℕ → Type 0 = λ text. names_of text ≡ c.as_slice-in-None.result.now ∷ names_of (slash ∷ []) in
    let Q : List ℕ → Type 0 = λ text. names_of text ≡ point_text c.args.tree.now (point_told c.args.point.now) in
    IfOk-weaker c.entry_text-in-None.result P Q (λ text is. is ∙ (λ i. c.as_slice-in-None.ensures i ∷ above i)) c.entry_text-in-None.ensures.names
