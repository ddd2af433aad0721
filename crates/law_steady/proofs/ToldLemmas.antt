-- Whether a call alters the shape of the tree and the bytes of files, exactly.
use Rattle.std.proofs.Common.{[], refl, sym, ap, ◌∙◌}
use Rattle.std.proofs.lemmas.Option.{same_Some}
use Rattle.law_lawful.specs.kr_tree.Tree.{Inode, bytes_of}
use Rattle.law_lawful.specs.kr_model.Applied.{all_applied, applied, images}
use Rattle.law_lawful.specs.kr_model.Change.{End}
use Rattle.law_lawful.specs.kr_model.Judged.{alters_bytes, alters_shape}
use Rattle.law_lawful.specs.kr_model.State.{Image, State}
use Rattle.law_lawful.proofs.kr_model.ShapeLemmas.{shape_stays}
use Rattle.law_steady.specs.Bytes.{alters_bytes_of}
use Rattle.law_steady.specs.Calls.{alter_one_file, is_once, replied}
use Rattle.law_steady.specs.Told.{CallsAreTold, EndsLeaveBoth, ProgramsAreTold, QuietChangesLeaveBoth, SameTreesHaveBoth}
use Rattle.law_steady.proofs.AlongLemmas.{both_true, quiet, shape_is_told_along}
use Rattle.law_steady.proofs.BytesAlongLemmas.{bytes_are_told_along, less_of_bytes, still_along}
use Rattle.law_steady.proofs.BytesLemmas.{still_after, still_has_bytes}
use Rattle.law_steady.proofs.CallLemmas.{calls_alter_once}
use Rattle.law_steady.proofs.ExactLemmas.{same_shape}
use Rattle.law_steady.proofs.LeavingLemmas.{shape_stays_along}

pub calls_are_told : (M : Type 0) → CallsAreTold M
calls_are_told M number table mounts pid s r seen k m exec lawful made =
    let cs = replied pid r seen k m in
    let few = both_true (is_once alters_shape cs) (alter_one_file cs) (calls_alter_once pid r seen k m exec) in
    record {
      shape = shape_is_told_along M number table mounts pid s cs lawful made few.0;
      bytes = bytes_are_told_along M number table mounts pid s cs lawful made few.1;
    }

pub programs_are_told : (M : Type 0) → ProgramsAreTold M
programs_are_told M number table mounts pid s image brk from host dir name lawful made =
    record { shape = shape_is_told_along M number table mounts pid s _ lawful made refl; bytes = bytes_are_told_along M number table mounts pid s _ lawful made refl }

-- ---- what leaves both

pub same_trees_have_both : SameTreesHaveBoth
same_trees_have_both t = (same_shape t, λ i x y here there. ap (λ (z : Inode). bytes_of z.node.body) (same_Some y x (sym there ∙ here)))

pub ends_leave_both : (M : Type 0) → EndsLeaveBoth M
ends_leave_both M mounts pid status s kept =
    let after : State M Image = applied images mounts pid (End status) s in
    (shape_stays images mounts pid (End status) s kept refl, still_has_bytes s.tree after.tree kept.sound (still_after images mounts pid (End status) s refl))

pub quiet_changes_leave_both : (M : Type 0) → QuietChangesLeaveBoth M
quiet_changes_leave_both M mounts pid s cs kept shape bytes =
    let after : State M Image = all_applied images mounts pid cs s in (
      (shape_stays_along M mounts pid s cs kept shape).shape,
      still_has_bytes s.tree after.tree kept.sound (still_along (λ m. 0) [] mounts pid cs s (quiet alters_bytes_of alters_bytes less_of_bytes mounts pid cs s bytes)),
    )
