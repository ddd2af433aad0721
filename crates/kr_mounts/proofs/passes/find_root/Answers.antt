use Rattle.std.proofs.Common.{Option, IfSome, Result, sym, ap, subst, ◌∙◌}
use Rattle.std.specs.Option.{option_map}
use Rattle.pt_bind.specs.Binding.{IsWritten}
use Rattle.kr_mounts.specs.Found.{source_told}
use Rattle.kr_mounts.specs.MountTable.{Refusal, told}
use Rattle.kr_mounts.specs.Passes.{IsTold}
use Rattle.kr_mounts.specs.Sources.{Source, root_source_by, root_source_of}
use Rattle.kr_mounts.specs.declared.fault.BindWhy.TheVariants.{NoSource}
use Rattle.kr_mounts.specs.declared.source.Found.{Found}
use Rattle.kr_mounts.proofs.PassLemmas.{told_memory, told_refused}
use Rattle.kr_mounts.proofs.passes.find_root.Goals as goal

pub returns-in_err-source : goal.returns-in_err-source
returns-in_err-source c = told_memory source_told (λ (f : Found). IsWritten f.text) (told 0 (root_source_by c.args.tree.now c.args.user c.args.path.now)) _ c.from_residual.ensures.0 c.from_residual.ensures.1

pub as_root-requires : goal.as_root-requires
as_root-requires c = let P : Option Found → Type 0 = λ o. IfSome o (λ (f : Found). IsWritten f.text) in subst P c.in-Some.is c.in_ok-source.ensures.written

pub returns-in-Some : goal.returns-in-Some
returns-in-Some c =
    let found = ap (option_map source_told) (sym c.in-Some.is) ∙ c.in_ok-source.ensures.source in
    let P : Result Source Refusal → Type 0 = λ a. IsTold source_told (λ (f : Found). IsWritten f.text) a c.as_root.result in
    subst P (ap (λ o. told 0 (root_source_of c.args.tree.now o)) found) c.as_root.ensures

pub returns-in-None : goal.returns-in-None
returns-in-None c =
    let found = ap (option_map source_told) (sym c.in-None.is) ∙ c.in_ok-source.ensures.source in
    told_refused source_told (λ (f : Found). IsWritten f.text) (told 0 (root_source_by c.args.tree.now c.args.user c.args.path.now)) 0 _ NoSource c.refused.ensures (ap (λ o. told 0 (root_source_of c.args.tree.now o)) (sym found))
