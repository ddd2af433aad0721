-- How the identity is shown where the kernel shows the host user: in the structure `stat`, with what was said of its file, and in the
-- auxiliary vector of a new program (getauxval(3)).
use Rattle.std.specs.Prelude.{ℕ, ◌==◌, ◌/◌, ◌&&◌, ◌||◌, Bool, List, [], ◌∷◌, Option, Some, None, take, drop, if◌then◌else◌}
use Rattle.std.specs.Int.{to_le_bytes, w32}
use Rattle.std.proofs.Math.Seq.{sets}
use Rattle.kr_inode.specs.pr_base.Fields.{little_endian}
use Rattle.kr_inode.specs.declared.user.User.{User}
use Rattle.pt_ident.specs.declared.change.Shown.{Shown}
use Rattle.pt_ident.specs.Owners.{Remembered, modes, shown_of}
use Rattle.pt_ident.specs.Identity.{Identity}

-- ---- the host user

-- the number as which an owner is shown: the host user's own as another, any other as it is
abbrev pub shown : (own other id : ℕ) → ℕ
shown own other id = if id == own then other else id

-- bytes in which a number of 32 bits stands at a place
abbrev pub shown_at : (at own other : ℕ) → List ℕ → List ℕ
shown_at at own other bytes = if little_endian (take 4 (drop at bytes)) == own then sets bytes at (to_le_bytes w32 other) else bytes

-- st_uid stands at 24 and st_gid at 28
abbrev pub shown_host : User → (uid gid : ℕ) → List ℕ → List ℕ
shown_host user uid gid bytes = shown_at 28 user.gid gid (shown_at 24 user.uid uid bytes)

-- ---- what was said of a file

-- a field of so many bytes at a place
abbrev pub field : (at count : ℕ) → List ℕ → ℕ
field at count bytes = little_endian (take count (drop at bytes))

-- a directory, a file or a link of the tree, whose device is 1. Pipes, the console and the process directory are others
abbrev pub is_of_tree : (device mode : ℕ) → Bool
is_of_tree device mode = device == 1 && (mode / modes == 4 || mode / modes == 8 || mode / modes == 10)

-- st_mode stands at 16
abbrev pub owner_in : List ℕ → Shown
owner_in bytes = record { uid = field 24 4 bytes; gid = field 28 4 bytes; mode = field 16 4 bytes }

abbrev pub with_owner_in : Shown → List ℕ → List ℕ
with_owner_in s bytes = sets (sets (sets bytes 16 (to_le_bytes w32 s.mode)) 24 (to_le_bytes w32 s.uid)) 28 (to_le_bytes w32 s.gid)

-- st_dev stands at 0 and st_ino at 8
abbrev pub shown_over : Remembered → List ℕ → List ℕ
shown_over owners bytes =
    if is_of_tree (field 0 8 bytes) (field 16 4 bytes) then with_owner_in (shown_of owners (field 8 8 bytes) (owner_in bytes)) bytes else bytes

abbrev pub shown_with : Option Remembered → List ℕ → List ℕ
shown_with None bytes = bytes
shown_with (Some owners) bytes = shown_over owners bytes

-- what was said stands over the numbers as which the host user is shown
abbrev pub shown_stat : User → (uid gid : ℕ) → Option Remembered → List ℕ → List ℕ
shown_stat user uid gid owners bytes = shown_with owners (shown_host user uid gid bytes)

-- ---- the auxiliary vector

-- AT_UID, AT_EUID, AT_GID and AT_EGID
abbrev pub auxiliary_values : Identity → List ℕ
auxiliary_values i = i.user.real ∷ i.user.effective ∷ i.group.real ∷ i.group.effective ∷ []
