-- What each change of a node leaves: all that isn't said here stays as it was.
use Rattle.std.specs.Prelude.{ℕ, ◌+◌, ◌-◌, Bool, true, false, ◌&&◌, not, List, [], ◌∷◌, ◌++◌, length, take, drop, replicate, max, Option, None, bytes_eq, nat_eq, nat_lt, if◌then◌else◌}
use Rattle.std.specs.List.{filter}
use Rattle.kr_inode.specs.declared.standing.Standing.{Standing}
use Rattle.kr_inode.specs.Inode.{Inode, Body, Directory, RegularFile, SymbolicLink, ProcessDirectory, Entry}

-- ---- one body

abbrev pub with_entries : (List Entry → List Entry) → Body → Body
with_entries f (Directory entries standing) = Directory (f entries) standing
with_entries f (RegularFile bytes) = RegularFile bytes
with_entries f (SymbolicLink text) = SymbolicLink text
with_entries f (ProcessDirectory standing) = ProcessDirectory standing

abbrev pub with_standing : Option Standing → Body → Body
with_standing standing (Directory entries _) = Directory entries standing
with_standing standing (RegularFile bytes) = RegularFile bytes
with_standing standing (SymbolicLink text) = SymbolicLink text
with_standing standing (ProcessDirectory _) = ProcessDirectory standing

abbrev pub with_bytes : (List ℕ → List ℕ) → Body → Body
with_bytes f (Directory entries standing) = Directory entries standing
with_bytes f (RegularFile bytes) = RegularFile (f bytes)
with_bytes f (SymbolicLink text) = SymbolicLink text
with_bytes f (ProcessDirectory standing) = ProcessDirectory standing

-- a list of entries without that of a name
abbrev pub without_name : List ℕ → List Entry → List Entry
without_name name entries = filter (λ e. not (bytes_eq name e.name)) entries

-- bytes cut at a size, or filled with zeros up to it
abbrev pub sized : ℕ → List ℕ → List ℕ
sized size bytes = take size bytes ++ replicate (size - length bytes) 0

-- bytes with others written from a place on; a gap before them is filled with zeros, and nothing
-- written changes nothing
abbrev pub overwritten : ℕ → List ℕ → List ℕ → List ℕ
overwritten at [] bytes = bytes
overwritten at (b ∷ bs) bytes = sized at bytes ++ b ∷ bs ++ drop (at + length (b ∷ bs)) bytes

-- how many bytes a file has after some were written at a place
abbrev pub size_written : ℕ → ℕ → ℕ → ℕ
size_written at count size = if nat_eq count 0 then size else max size (at + count)

-- ---- one inode

abbrev pub with_body : (Body → Body) → Inode → Inode
with_body f x = record {
  node = record { mode = x.node.mode; uid = x.node.uid; gid = x.node.gid; body = f x.node.body };
  names = x.names;
  holds = x.holds;
  next_serial = x.next_serial;
  directories = x.directories;
}

abbrev pub with_mode : ℕ → Inode → Inode
with_mode mode x = record {
  node = record { mode = mode; uid = x.node.uid; gid = x.node.gid; body = x.node.body };
  names = x.names;
  holds = x.holds;
  next_serial = x.next_serial;
  directories = x.directories;
}

abbrev pub with_owner : ℕ → ℕ → Inode → Inode
with_owner uid gid x = record {
  node = record { mode = x.node.mode; uid = uid; gid = gid; body = x.node.body };
  names = x.names;
  holds = x.holds;
  next_serial = x.next_serial;
  directories = x.directories;
}

-- one more or one less of a directory's directories, where an entry is one
abbrev pub counted : Bool → ℕ
counted true = 1
counted false = 0

-- a directory with one more entry, which takes the next serial
abbrev pub with_entry : List ℕ → ℕ → Bool → Inode → Inode
with_entry name i is_dir x = record {
  node = record {
    mode = x.node.mode;
    uid = x.node.uid;
    gid = x.node.gid;
    body = with_entries (λ entries. entries ++ (record { name = name; serial = x.next_serial; inode = i }) ∷ []) x.node.body;
  };
  names = x.names;
  holds = x.holds;
  next_serial = x.next_serial + 1;
  directories = x.directories + counted is_dir;
}

-- a directory without the entry of a name
abbrev pub without_entry : List ℕ → Bool → Inode → Inode
without_entry name is_dir x = record {
  node = record {
    mode = x.node.mode;
    uid = x.node.uid;
    gid = x.node.gid;
    body = with_entries (without_name name) x.node.body;
  };
  names = x.names;
  holds = x.holds;
  next_serial = x.next_serial;
  directories = x.directories - counted is_dir;
}

abbrev pub with_names : (ℕ → ℕ) → Inode → Inode
with_names f x = record {
  node = x.node;
  names = f x.names;
  holds = x.holds;
  next_serial = x.next_serial;
  directories = x.directories;
}

abbrev pub with_holds : (ℕ → ℕ) → Inode → Inode
with_holds f x = record {
  node = x.node;
  names = x.names;
  holds = f x.holds;
  next_serial = x.next_serial;
  directories = x.directories;
}

-- a node of which one name was taken away; a directory then stands nowhere
abbrev pub unnamed : Inode → Inode
unnamed x = with_names (λ n. n - 1) (with_body (with_standing None) x)

-- an inode as it is made, with one name. Serials begin at 3: 1 and 2 are those of `.` and `..`
abbrev pub fresh : ℕ → ℕ → ℕ → Body → Inode
fresh mode uid gid body = record {
  node = record { mode = mode; uid = uid; gid = gid; body = body };
  names = 1;
  holds = 0;
  next_serial = 3;
  directories = 0;
}

-- whether nothing names or holds an inode
abbrev pub is_unused : Inode → Bool
is_unused x = nat_eq x.names 0 && nat_eq x.holds 0

-- ---- a limit

-- the most bytes of one file
abbrev pub file_limit : ℕ
file_limit = 16777216

-- whether a file has too many bytes; a link's text isn't one
abbrev pub is_too_big : Body → Bool
is_too_big (Directory entries standing) = false
is_too_big (RegularFile bytes) = nat_lt file_limit (length bytes)
is_too_big (SymbolicLink text) = false
is_too_big (ProcessDirectory standing) = false
