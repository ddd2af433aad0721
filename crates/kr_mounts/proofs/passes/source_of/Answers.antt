use Rattle.std.proofs.Common.{Option, Ok, IfSome, sym, ap, subst, ◌∙◌}
use Rattle.std.specs.Option.{option_map}
use Rattle.pt_bind.specs.Binding.{IsWritten}
use Rattle.kr_mounts.specs.Found.{source_told}
use Rattle.kr_mounts.specs.MountTable.{and_then, as_source, sourced, told}
use Rattle.kr_mounts.specs.Passes.{HasSource, sourced_told}
use Rattle.kr_mounts.specs.Sources.{source_by}
use Rattle.kr_mounts.specs.declared.fault.BindWhy.TheVariants.{NoSource}
use Rattle.kr_mounts.specs.declared.source.Found.{Found}
use Rattle.kr_mounts.proofs.PassLemmas.{told_memory, told_refused}
use Rattle.kr_mounts.proofs.passes.source_of.Goals as goal

pub returns-in_err-source : goal.returns-in_err-source
returns-in_err-source c = told_memory sourced_told HasSource (sourced c.args.tree.now c.args.user c.args.bind.now) _ c.from_residual.ensures.0 c.from_residual.ensures.1

pub returns-in-Some : goal.returns-in-Some
returns-in-Some c =
    let bind = c.args.bind.now in
    let found = ap (option_map source_told) (sym c.in-Some.is) ∙ c.in_ok-source.ensures.source ∙ ap (source_by c.args.tree.now c.args.user) c.as_slice.ensures in
    let P : Option Found → Type 0 = λ o. IfSome o (λ (f : Found). IsWritten f.text) in
    (ap (λ o. and_then (told bind.index (as_source o)) (λ source. Ok (record { bind = bind; source = source }))) (sym found), subst P c.in-Some.is c.in_ok-source.ensures.written)

pub returns-in-None : goal.returns-in-None
returns-in-None c =
    let bind = c.args.bind.now in
    let found = ap (option_map source_told) (sym c.in-None.is) ∙ c.in_ok-source.ensures.source ∙ ap (source_by c.args.tree.now c.args.user) c.as_slice.ensures in
    told_refused sourced_told HasSource (sourced c.args.tree.now c.args.user bind) bind.index _ NoSource c.refused.ensures
    (ap (λ o. and_then (told bind.index (as_source o)) (λ source. Ok (record { bind = bind; source = source }))) (sym found))
