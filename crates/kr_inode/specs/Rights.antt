-- What the one user may do with a node, by the nine bits of its mode, as path_resolution(7) and
-- inode(7) say.
use Rattle.std.specs.Prelude.{ℕ, ◌/◌, ◌%◌, Bool, ◌&&◌, not, nat_eq, if◌then◌else◌}
use Rattle.kr_inode.specs.declared.user.User.{User}
use Rattle.kr_inode.specs.declared.user.Right.{Right}
use Rattle.kr_inode.specs.declared.user.Right.TheVariants.{Read, Write, Search}
use Rattle.kr_inode.specs.Inode.{Node}

-- the three bits that count for the user: the owner's, the group's or those of others, of which the
-- first that fits counts alone, also where it gives less than a later one
abbrev pub class_bits : User → Node → ℕ
class_bits user n =
    if nat_eq user.uid n.uid then (n.mode / 64) % 8
    else (if nat_eq user.gid n.gid then (n.mode / 8) % 8 else n.mode % 8)

-- the value of a right's bit in its class. To execute a file is the right to search a directory
abbrev pub right_bit : Right → ℕ
right_bit Read = 4
right_bit Write = 2
right_bit Search = 1

abbrev pub allows : User → Node → Right → Bool
allows user n right = nat_eq ((class_bits user n / right_bit right) % 2) 1

-- the sticky bit, 01000, keeps a user who owns neither the directory nor the entry from removing or
-- renaming the entry
abbrev pub is_kept_by_sticky : User → Node → Node → Bool
is_kept_by_sticky user dir entry =
    nat_eq ((dir.mode / 512) % 2) 1 && not (nat_eq user.uid dir.uid) && not (nat_eq user.uid entry.uid)
