-- A listing of three lines, read whole.
use Rattle.std.proofs.Common.{◌≡◌, [], ◌∷◌, ◌++◌, Ok, Some, None, refl, ap, ◌∙◌}
use Rattle.std.specs.Prelude.{codes, true, false}
use Rattle.std.specs.FinMap as map
use Rattle.std.specs.Cmp.{nat_cmp_total}
use Rattle.kr_tree.specs.kr_inode.declared.user.User.{User}
use Rattle.kr_tree.specs.Tree.{Tree, Directory, root, body_is, takes_names, entry}
use Rattle.kr_tree.specs.Changes.{new_tree, added, fresh, has_no_room}
use Rattle.kr_text.specs.declared.line.Owner.{Owner}
use Rattle.kr_text.specs.declared.line.Line.TheVariants.{Dir as DirLine}
use Rattle.kr_text.specs.declared.so_far.SoFar.{SoFar}
use Rattle.kr_text.specs.Fields.{unescaped}
use Rattle.kr_text.specs.Reading.{line_read, listing_of, read_from, then_on}

abbrev owner : Owner
owner = record { mode = 493; uid = 7; gid = 8 }

abbrev someone : User
someone = record { uid = 1; gid = 2 }

abbrev with_both : Tree → SoFar
with_both t = record { tree = Some t; user = Some someone; has_proc = false; has_elf = false }

a_name_below_the_root : (t : Tree) → body_is takes_names t root ≡ true → entry t root (codes "a") ≡ None → has_no_room 0 t ≡ false → line_read [] (DirLine owner (codes "a" ∷ [])) (with_both t) ≡ Ok (with_both (added root (codes "a") 493 7 8 (Directory [] None) t))
a_name_below_the_root t listed free room = rw listed (rw free (rw room refl))

abbrev small : Tree
small = new_tree 493 7 8

root_there : map.get small.inodes root ≡ Some (fresh 493 7 8 (Directory [] (Some (record { inode = root; serial = 0 }))))
root_there = map.get-insert nat_cmp_total map.empty root (fresh 493 7 8 (Directory [] (Some (record { inode = root; serial = 0 })))) root

root_alone : map.len small.inodes ≡ 1
root_alone =
    map.len-insert nat_cmp_total map.empty root (fresh 493 7 8 (Directory [] (Some (record { inode = root; serial = 0 }))))
    ∙ simp (map.get-empty, map.len-empty) refl

a_user_a_root_and_a_directory : listing_of [] (codes "user 1 2" ++ 10 ∷ codes "d 755 7 8 /" ++ 10 ∷ codes "d 755 7 8 /a" ++ 10 ∷ []) ≡ Ok (added root (codes "a") 493 7 8 (Directory [] None) small, someone)
unfolding read_from unescaped
a_user_a_root_and_a_directory =
    ap (λ r. then_on 3 r (read_from [] 4 ([] ∷ []))) (a_name_below_the_root small (rw root_there refl) (rw root_there refl) (rw root_alone refl))
