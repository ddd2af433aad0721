use Rattle.std.proofs.Common.{◌≡◌, Some, sym, ap, subst, ◌∙◌, inr}
use Rattle.std.proofs.lemmas.Result.{IfOk-weaker}
use Rattle.pt_bind.specs.pr_base.declared.bind.Bound.{Bound}
use Rattle.pt_bind.specs.Binding.{names_of}
use Rattle.kr_mounts.specs.Bounds.{IsSpelled}
use Rattle.kr_mounts.specs.Found.{located_told, source_told}
use Rattle.kr_mounts.specs.MountTable.{point_row, row_of}
use Rattle.kr_mounts.specs.Stored.{point_told, row_of_mount}
use Rattle.kr_mounts.specs.declared.mount.Mount.{Mount}
use Rattle.kr_mounts.proofs.MountLemmas.{mount_with, point_some, row_told}
use Rattle.kr_mounts.proofs.passes.mount_at.Goals as goal

pub mount_of-requires : goal.mount_of-requires
mount_of-requires c = c.requires.texts.source

pub returns : goal.returns
returns c =
    let one = c.args.one in
    let s = one.source in
    let text : Bound = record { index = one.index; location = one.location; source = s.text; point = c.in_ok-point_text.point_text } in
    let point = point_some c.in_ok-point_text.point_text c.in_ok-point_text.ensures.written ∙ ap Some c.in_ok-point_text.ensures.names in
    let row = row_told text s.inode s.dir s.is_dir (Some c.args.point) ∙ ap (λ p. row_of one.index (names_of one.location) (source_told s) p (Some (point_told c.args.point))) point in
    let P : Mount → Type 0 = λ m. m ≡ mount_with text s.inode s.dir s.is_dir (Some c.args.point) in
    record {
      row = IfOk-weaker c.mount_of.result P (λ m. row_of_mount m ≡ point_row c.args.tree.now (located_told one) (point_told c.args.point)) (λ (m : Mount) is. ap row_of_mount is ∙ row) c.mount_of.ensures;
      texts = IfOk-weaker c.mount_of.result P IsSpelled (λ (m : Mount) is. subst IsSpelled (sym is) (record { location = c.requires.texts.location; source = c.requires.texts.source; point = inr c.in_ok-point_text.ensures.written })) c.mount_of.ensures;
    }
