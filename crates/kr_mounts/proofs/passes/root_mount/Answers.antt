use Rattle.std.proofs.Common.{◌≡◌, None, sym, ap, subst, ◌∙◌, inl}
use Rattle.std.proofs.lemmas.Result.{IfOk-weaker}
use Rattle.pt_bind.specs.pr_base.declared.bind.Bound.{Bound}
use Rattle.pt_bind.specs.Binding.{IsWritten, names_of, point_of}
use Rattle.kr_mounts.specs.Bounds.{IsSpelled}
use Rattle.kr_mounts.specs.Found.{source_told}
use Rattle.kr_mounts.specs.MountTable.{root_row, row_of}
use Rattle.kr_mounts.specs.Stored.{row_of_mount}
use Rattle.kr_mounts.proofs.CutLemmas.{root_written}
use Rattle.kr_mounts.specs.declared.mount.Mount.{Mount}
use Rattle.kr_mounts.proofs.MountLemmas.{mount_with, root_names, row_told}
use Rattle.kr_mounts.proofs.passes.root_mount.Goals as goal

pub returns : goal.returns
returns c =
    let s = c.args.source in
    let text : Bound = record { index = 0; location = c.in_ok-location.location; source = s.text; point = c.new.result } in
    let location = ap names_of c.in_ok-location.ensures ∙ root_names in
    let row = row_told text s.inode s.dir s.is_dir None ∙ (λ i. row_of 0 (location i) (source_told s) (point_of (c.new.ensures i)) None) in
    let P : Mount → Type 0 = λ m. m ≡ mount_with text s.inode s.dir s.is_dir None in
    record {
      row = IfOk-weaker c.mount_of.result P (λ m. row_of_mount m ≡ root_row (source_told s)) (λ (m : Mount) is. ap row_of_mount is ∙ row) c.mount_of.ensures;
      texts = IfOk-weaker c.mount_of.result P IsSpelled (λ (m : Mount) is. subst IsSpelled (sym is) (record { location = subst IsWritten (sym c.in_ok-location.ensures) root_written; source = c.requires; point = inl c.new.ensures })) c.mount_of.ensures;
    }
