-- What each change of a tree leaves: all that isn't said here stays as it was.
use Rattle.std.specs.Prelude.{ℕ, ◌+◌, ◌-◌, Bool, false, ◌||◌, List, [], length, Option, Some, None, nat_eq, nat_le, nat_lt, if◌then◌else◌}
use Rattle.std.specs.FinMap as map
use Rattle.std.specs.Option.{option_map_or}
use Rattle.kr_inode.specs.pr_base.Maps.{changed}
use Rattle.kr_inode.specs.declared.standing.Standing.{Standing}
use Rattle.kr_tree.specs.Tree.{Tree, Inodes, Inode, Body, Directory, root, inode, entry, is_directory, bytes_of, body_is}
-- changes of a node by itself
pub use Rattle.kr_inode.specs.Changes.{with_entries, with_standing, with_bytes, without_name, sized, overwritten, size_written, with_body, with_mode, with_owner, counted, with_entry, without_entry, with_names, with_holds, unnamed, fresh, is_unused, file_limit, is_too_big}

-- ---- the inodes

-- the inodes with f done to the one of a number, if it is there
abbrev pub with_inode : ℕ → (Inode → Inode) → Inodes → Inodes
with_inode i f m = changed m i f

-- the serial that the next entry of a directory takes
abbrev pub next_serial : Tree → ℕ → ℕ
next_serial t dir = option_map_or (λ x. x.next_serial) (inode t dir) 0

-- the standing of the next entry of a directory
abbrev pub next_standing : Tree → ℕ → Option Standing
next_standing t dir = Some (record { inode = dir; serial = next_serial t dir })

abbrev pub with_inodes : Inodes → Tree → Tree
with_inodes m t = record { inodes = m; next = t.next; names = t.names; bytes = t.bytes }

-- how many bytes an inode has
abbrev pub size : Tree → ℕ → ℕ
size t i = option_map_or (λ x. length (bytes_of x.node.body)) (inode t i) 0

-- ---- the calls

-- a tree with a root alone, which is named and not counted among the names, and stands in itself
abbrev pub new_tree : ℕ → ℕ → ℕ → Tree
new_tree mode uid gid = record {
  inodes = map.insert map.empty root (fresh mode uid gid (Directory [] (Some (record { inode = root; serial = 0 }))));
  next = 2;
  names = 0;
  bytes = 0;
}

-- a new inode under a name in a directory
abbrev pub added : ℕ → List ℕ → ℕ → ℕ → ℕ → Body → Tree → Tree
added dir name mode uid gid body t = record {
  inodes = map.insert (with_inode dir (with_entry name t.next (is_directory body)) t.inodes) t.next (fresh mode uid gid (with_standing (next_standing t dir) body));
  next = t.next + 1;
  names = t.names + 1;
  bytes = t.bytes + length (bytes_of body);
}

-- another name for a file or a link
abbrev pub linked : ℕ → List ℕ → ℕ → Tree → Tree
linked dir name file t = record {
  inodes = with_inode file (with_names (λ n. n + 1)) (with_inode dir (with_entry name file false) t.inodes);
  next = t.next;
  names = t.names + 1;
  bytes = t.bytes;
}

-- whether an inode is there and nothing names or holds it
abbrev pub is_unused_at : ℕ → Inodes → Bool
is_unused_at i m = option_map_or is_unused (map.get m i) false

-- the inodes without one that nothing names or holds
abbrev pub without_unused : ℕ → Inodes → Inodes
without_unused i m = if is_unused_at i m then map.remove m i else m

-- how many bytes go with it
abbrev pub freed : ℕ → Inodes → ℕ
freed i m = if is_unused_at i m then option_map_or (λ x. length (bytes_of x.node.body)) (map.get m i) 0 else 0

-- an inode that nothing names or holds is dropped
abbrev pub dropped_if_unused : ℕ → Tree → Tree
dropped_if_unused i t = record { inodes = without_unused i t.inodes; next = t.next; names = t.names; bytes = t.bytes - freed i t.inodes }

-- one name taken away from an inode
abbrev pub unlinked : ℕ → List ℕ → ℕ → Tree → Tree
unlinked dir name i t =
    dropped_if_unused i (record {
      inodes = with_inode i unnamed (with_inode dir (without_entry name (body_is is_directory t i)) t.inodes);
      next = t.next;
      names = t.names - 1;
      bytes = t.bytes;
    })

abbrev pub removed : ℕ → List ℕ → Tree → Tree
removed dir name t = option_map_or (λ i. unlinked dir name i t) (entry t dir name) t

-- an entry moved to a free name
abbrev pub moved : ℕ → List ℕ → ℕ → List ℕ → ℕ → Tree → Tree
moved dir name to new i t =
    with_inodes
    (with_inode i (with_body (with_standing (next_standing t to)))
    (with_inode to (with_entry new i (body_is is_directory t i))
    (with_inode dir (without_entry name (body_is is_directory t i)) t.inodes)))
    t

-- an entry moved to a name, whose old entry is taken away first. Where both are names of one inode,
-- nothing changes
abbrev pub renamed_onto : ℕ → List ℕ → ℕ → List ℕ → ℕ → Option ℕ → Tree → Tree
renamed_onto dir name to new i None t = moved dir name to new i t
renamed_onto dir name to new i (Some old) t =
    if nat_eq i old then t else moved dir name to new i (unlinked to new old t)

abbrev pub renamed : ℕ → List ℕ → ℕ → List ℕ → Tree → Tree
renamed dir name to new t = option_map_or (λ i. renamed_onto dir name to new i (entry t to new) t) (entry t dir name) t

abbrev pub held : ℕ → Tree → Tree
held i t = with_inodes (with_inode i (with_holds (λ n. n + 1)) t.inodes) t

abbrev pub released : ℕ → Tree → Tree
released i t = dropped_if_unused i (with_inodes (with_inode i (with_holds (λ n. n - 1)) t.inodes) t)

abbrev pub mode_set : ℕ → ℕ → Tree → Tree
mode_set i mode t = with_inodes (with_inode i (with_mode mode) t.inodes) t

abbrev pub owner_set : ℕ → ℕ → ℕ → Tree → Tree
owner_set i uid gid t = with_inodes (with_inode i (with_owner uid gid) t.inodes) t

-- a file whose bytes become f of them
abbrev pub bytes_set : ℕ → (List ℕ → List ℕ) → Tree → Tree
bytes_set i f t = record {
  inodes = with_inode i (with_body (with_bytes f)) t.inodes;
  next = t.next;
  names = t.names;
  bytes = t.bytes - size t i + length (f (option_map_or (λ x. bytes_of x.node.body) (inode t i) []));
}

-- ---- limits

-- the most bytes of files and links' texts in all
abbrev pub byte_limit : ℕ
byte_limit = 268435456

-- the most inodes; the most names, the root's apart
abbrev pub count_limit : ℕ
count_limit = 1048576

-- whether the numbers of a tree pass a limit
abbrev pub passes_limit : Tree → Bool
passes_limit t = nat_lt count_limit (map.len t.inodes) || nat_lt count_limit t.names || nat_lt byte_limit t.bytes

-- whether there is no room for one inode more, with a name and `size` bytes
abbrev pub has_no_room : ℕ → Tree → Bool
has_no_room size t = nat_le count_limit (map.len t.inodes) || nat_le count_limit t.names || nat_lt byte_limit (t.bytes + size)

-- whether there is no room for one name more
abbrev pub has_no_name_left : Tree → Bool
has_no_name_left t = nat_le count_limit t.names

-- whether a file may not have `new` bytes
abbrev pub is_past_file : ℕ → Bool
is_past_file new = nat_lt file_limit new

-- whether there is no room for a file with `new` bytes in place of those that it has
abbrev pub has_no_room_for : ℕ → ℕ → Tree → Bool
has_no_room_for file new t = nat_lt byte_limit (t.bytes - size t file + new)
