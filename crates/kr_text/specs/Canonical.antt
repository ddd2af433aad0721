-- The one text that is written of a tree and its user: the user's line, and one line for each name,
-- in the order of their components by bytes, a directory before what is in it.
use Rattle.std.specs.Prelude.{ℕ, zero, suc, false, List, [], ◌∷◌, ◌++◌, map as map_list, codes, Option, Some, None, nat_eq, if◌then◌else◌}
use Rattle.std.specs.declared.cmp.Ordering.{Ordering}
use Rattle.std.specs.BTreeMap.{insert_entry}
use Rattle.std.specs.FinMap as map
use Rattle.std.specs.List.{find, flat_map}
use Rattle.std.specs.Option.{option_map, option_map_or}
use Rattle.std.specs.Ordering.{nat_cmp}
use Rattle.std.specs.Cmp.Lexicographic.{slice_cmp}
use Rattle.std.specs.Fmt.{decimal, digits}
use Rattle.hex.specs.Hex.{encode_lower}
use Rattle.kr_tree.specs.kr_inode.declared.user.User.{User}
use Rattle.kr_tree.specs.Tree.{Tree, Node, Entry, Body, Directory, RegularFile, SymbolicLink, ProcessDirectory, root, node, entries}
use Rattle.kr_tree.specs.pr_base.Paths.{text_of}
use Rattle.kr_text.specs.declared.line.Owner.{Owner}
use Rattle.kr_text.specs.declared.names.Named.{Named}
use Rattle.kr_text.specs.Fields.{is_plain, percent}

-- ---- fields

abbrev pub escape : ℕ → List ℕ
escape b = if is_plain b then b ∷ [] else percent ∷ encode_lower (b ∷ [])

abbrev pub escaped : List ℕ → List ℕ
escaped bytes = flat_map escape bytes

-- the path of a text of names, escaped
abbrev pub path_field : List (List ℕ) → List ℕ
path_field text = escaped (text_of text)

-- a mode in octal, with no zeros in front
abbrev pub octal : ℕ → List ℕ
octal mode = digits 8 false mode

-- a file's bytes
abbrev pub bytes_field : List ℕ → List ℕ
bytes_field [] = codes "-"
bytes_field (b ∷ bytes) = encode_lower (b ∷ bytes)

-- ---- lines

-- fields with a space between them, and the newline
abbrev pub line : List ℕ → List (List ℕ) → List ℕ
line kind [] = kind ++ 10 ∷ []
line kind (field ∷ fields) = kind ++ 32 ∷ line field fields

abbrev pub user_line : User → List ℕ
user_line user = line (codes "user") (decimal user.uid ∷ decimal user.gid ∷ [])

-- mode, owner and group of a node
abbrev pub owner_of : Node → Owner
owner_of n = record { mode = n.mode; uid = n.uid; gid = n.gid }

abbrev pub dir_line : List (List ℕ) → Owner → List ℕ
dir_line text owner = line (codes "d") (octal owner.mode ∷ decimal owner.uid ∷ decimal owner.gid ∷ path_field text ∷ [])

abbrev pub first_line : List (List ℕ) → Owner → List ℕ → List ℕ
first_line text owner bytes = line (codes "f") (octal owner.mode ∷ decimal owner.uid ∷ decimal owner.gid ∷ path_field text ∷ bytes_field bytes ∷ [])

abbrev pub name_line : List (List ℕ) → List (List ℕ) → List ℕ
name_line text first = line (codes "h") (path_field text ∷ path_field first ∷ [])

abbrev pub link_line : List (List ℕ) → Owner → List ℕ → List ℕ
link_line text owner target = line (codes "l") (decimal owner.uid ∷ decimal owner.gid ∷ path_field text ∷ escaped target ∷ [])

abbrev pub proc_line : List (List ℕ) → List ℕ
proc_line text = line (codes "p") (path_field text ∷ [])

-- a file's first name has its bytes, each other one that first name
abbrev pub file_line : List (List ℕ) → Owner → List ℕ → Option (List (List ℕ)) → List ℕ
file_line text owner bytes None = first_line text owner bytes
file_line text owner bytes (Some first) = name_line text first

-- the line of a name, where an earlier name of its inode may have been written
abbrev pub body_line : List (List ℕ) → Owner → Option (List (List ℕ)) → Body → List ℕ
body_line text owner first (Directory entries standing) = dir_line text owner
body_line text owner first (RegularFile bytes) = file_line text owner bytes first
body_line text owner first (SymbolicLink target) = link_line text owner target
body_line text owner first (ProcessDirectory standing) = proc_line text

abbrev pub line_at : Tree → Named → Option (List (List ℕ)) → List ℕ
line_at t n first = option_map_or (λ x. body_line n.path (owner_of x) first x.body) (node t n.ino) []

-- ---- all names

abbrev pub by_bytes : List ℕ → List ℕ → Ordering
by_bytes a b = slice_cmp nat_cmp a b

-- names with their inodes, to which those of entries are added, each in its place by its bytes
abbrev pub put_in_order : List (List ℕ × ℕ) → List Entry → List (List ℕ × ℕ)
put_in_order names [] = names
put_in_order names (e ∷ es) = put_in_order (insert_entry by_bytes names e.name e.inode) es

-- a name in a directory with its inode, by the directory's path
abbrev pub below : List (List ℕ) → List ℕ × ℕ → Named
below path p = record { path = p.0 ∷ path; ino = p.1 }

-- the names in what a name stands for, in order
abbrev pub children : Tree → Named → List Named
children t n = map_list (below n.path) (put_in_order [] (entries t n.ino))

-- a name and those below it, down to a depth; a directory before what is in it
unfoldable pub names_under : ℕ → Tree → Named → List Named
names_under zero t n = n ∷ []
names_under (suc depth) t n = n ∷ flat_map (names_under depth t) (children t n)

abbrev pub root_name : Named
root_name = record { path = []; ino = root }

-- no name has more components than there are inodes
abbrev pub all_names : Tree → List Named
all_names t = names_under (map.len t.inodes) t root_name

-- the first of some names that an inode has
abbrev pub first_name : ℕ → List Named → Option (List (List ℕ))
first_name i names = option_map (λ n. n.path) (find (λ n. nat_eq n.ino i) names)

-- the lines of some names, where others were written before
unfoldable pub lines_after : Tree → List Named → List Named → List ℕ
lines_after t earlier [] = []
lines_after t earlier (n ∷ names) = line_at t n (first_name n.ino earlier) ++ lines_after t (earlier ++ n ∷ []) names

-- the canonical listing
abbrev pub canonical : Tree → User → List ℕ
canonical t user = user_line user ++ lines_after t [] (all_names t)
