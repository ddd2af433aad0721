use Rattle.std.proofs.Common.{sym, ap, subst, ◌∙◌}
use Rattle.pt_bind.specs.Binding.{IsWritten, names_of}
use Rattle.kr_mounts.specs.Passes.{dir_under}
use Rattle.kr_mounts.specs.Texts.{last_name}
use Rattle.kr_mounts.proofs.passes.mount_of.Goals as goal

pub last_name-requires : goal.last_name-requires
last_name-requires c = subst IsWritten (sym c.as_slice.ensures) c.requires

pub dir_under-source_dir-requires : goal.dir_under-source_dir-requires
dir_under-source_dir-requires c = subst IsWritten (sym c.as_slice-2.ensures) c.requires

pub returns : goal.returns
returns c =
    let name = c.in_ok-source_name.ensures ∙ c.last_name.ensures ∙ ap (λ b. last_name (names_of b)) c.as_slice.ensures in
    let dir = c.dir_under-source_dir.ensures ∙ ap (λ b. dir_under c.args.dir (names_of b)) c.as_slice-2.ensures in
    λ i. record { text = c.args.text; source = c.args.source; source_dir = dir i; source_name = name i; is_dir = c.args.is_dir; point = c.args.point }
