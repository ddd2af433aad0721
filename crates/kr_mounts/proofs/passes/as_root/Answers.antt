use Rattle.std.proofs.Common.{Ok, Err, sym, ap, ◌∙◌}
use Rattle.std.specs.Bool.{if◌then◌else◌}
use Rattle.pt_bind.specs.Binding.{IsWritten}
use Rattle.kr_mounts.specs.Found.{source_told}
use Rattle.kr_mounts.specs.MountTable.{told}
use Rattle.kr_mounts.specs.Sources.{as_root}
use Rattle.kr_mounts.specs.declared.fault.BindWhy.TheVariants.{RootNotDir}
use Rattle.kr_mounts.specs.declared.source.Found.{Found}
use Rattle.kr_mounts.proofs.PassLemmas.{told_refused}
use Rattle.kr_mounts.proofs.passes.as_root.Goals as goal

pub returns-then-is_listed : goal.returns-then-is_listed
returns-then-is_listed c =
    (ap (λ b. told 0 (if b then Ok (source_told c.args.found) else Err RootNotDir)) (sym c.is_listed.ensures ∙ c.if-is_listed.true), c.requires)

pub returns-else-is_listed : goal.returns-else-is_listed
returns-else-is_listed c =
    told_refused source_told (λ (f : Found). IsWritten f.text) (told 0 (as_root c.args.tree.now (source_told c.args.found))) 0 _ RootNotDir c.refused.ensures
    (ap (λ b. told 0 (if b then Ok (source_told c.args.found) else Err RootNotDir)) (sym c.is_listed.ensures ∙ c.if-is_listed.false))
