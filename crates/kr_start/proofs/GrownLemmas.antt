-- Trees in which the user made names can last.
use Rattle.std.proofs.Common.{◌≡◌, suc, ◌+◌, ◌*◌, ◌≤◌, ◌<◌, ◌^◌, Bool, true, false, ap, arith}
use Rattle.std.specs.Option.{option_map_or}
use Rattle.kr_text.specs.kr_inode.declared.user.User.{User}
use Rattle.kr_text.specs.kr_tree.Changes.{next_serial, count_limit}
use Rattle.kr_text.specs.kr_tree.Tree.{Tree, Inode}
use Rattle.law_walks.specs.kr_mounts.Growth.{IsGrown, Same, Made}
use Rattle.law_walks.specs.kr_mounts.MountTable.{settling}
use Rattle.law_walks.specs.kr_mounts.Points.{new_body, new_mode}
use Rattle.law_walks.proofs.kr_mounts.BeforeLemmas.{grown_trees_have_all_before}
use Rattle.law_walks.proofs.kr_mounts.GrowthLemmas.{settling_makes_names_alone}
use Rattle.law_allowed.specs.Lasting.{HasText}
use Rattle.law_allowed.proofs.TreeLemmas.{added-lasts}
use Rattle.kr_start.specs.ListedLaws.{GrownTreesLast, SettledTreesLast}
use Rattle.kr_start.proofs.TreeLemmas.{IsFit, lasts-of, can-last}

-- no link is made
made-text : (is_dir : Bool) → HasText (new_body is_dir)
made-text true = tt
made-text false = tt

grown-fits : (user : User) (t u : Tree) → (user.uid < 2 ^ 32) × (user.gid < 2 ^ 32) → IsFit t → IsGrown user t u → IsFit u
grown-fits user t u small fit Same = fit
grown-fits user t v small fit (Made {u} dir name is_dir grown takes free may) =
    let before : IsFit u = grown-fits user t u small fit grown in
    (suc before.0, added-lasts before.0 u before.1 dir name (new_mode is_dir) user.uid user.gid (new_body is_dir) small (made-text is_dir))

pub grown-last : GrownTreesLast
grown-last user t u sound counted left grown can =
    let before = grown_trees_have_all_before user t u sound counted grown in
    let drawn : u.next + t.names ≡ t.next + u.names = before.numbers in
    let few : t.next ≤ 2 ^ 30 + t.names = left.numbers in
    let old : t.names ≤ count_limit = sound.names_limited in
    let names : u.names ≤ count_limit = before.sound.names_limited in
    can-last u user (grown-fits user t u can.user (0, lasts-of t user can) grown) can.user (omega arith) (λ i x at.
    let own : next_serial u i ≡ x.next_serial = ap (λ o. option_map_or (λ (y : Inode). y.next_serial) o 0) at in
    let more : next_serial u i + t.names ≤ next_serial t i + 3 + u.names = before.serials i in
    let first : next_serial t i ≤ 2 ^ 62 + 4 * t.names = left.serials i in
    omega arith)

pub settled-last : SettledTreesLast
settled-last t user root binds sound counted left can = grown-last user t (settling t user root binds).tree sound counted left (settling_makes_names_alone t user root binds) can
