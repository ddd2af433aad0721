-- What a call knows of an inode, and what stat(2) tells by the kind of a node.
use Rattle.std.specs.Prelude.{ℕ, ◌+◌, Bool, true, false}
use Rattle.kr_seen.specs.kr_inode.declared.node.Kind.{Kind}
use Rattle.kr_seen.specs.kr_inode.declared.node.Kind.TheVariants.{Dir, File, Link, Proc}
use Rattle.kr_seen.specs.kr_tree.Tree.{Inode}
use Rattle.kr_seen.specs.kr_model.AttributeRows.{directory_size, s_directory, s_link, s_regular}
use Rattle.kr_seen.specs.kr_model.Known.{Fact}

abbrev pub fact : Inode → Fact
fact x = record { node = x.node; names = x.names; directories = x.directories }

abbrev pub bits_by : Kind → ℕ
bits_by Dir = s_directory
bits_by File = s_regular
bits_by Link = s_link
bits_by Proc = s_directory

-- a file or a link has `bytes` bytes
abbrev pub size_by : Kind → ℕ → ℕ
size_by Dir bytes = directory_size
size_by File bytes = bytes
size_by Link bytes = bytes
size_by Proc bytes = directory_size

-- a directory stands or was removed
abbrev pub links_by : Kind → (stands : Bool) → (names directories living : ℕ) → ℕ
links_by Dir true names directories living = 2 + directories
links_by Dir false names directories living = 0
links_by File stands names directories living = names
links_by Link stands names directories living = names
links_by Proc stands names directories living = 2 + living
