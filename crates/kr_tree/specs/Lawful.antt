-- What a tree keeps, and which moves of an entry keep it.
use Rattle.std.specs.Prelude.{ℕ, zero, suc, ◌≡◌, ◌≢◌, ◌+◌, ◌≤◌, ◌<◌, true, false, List, [], ◌∷◌, length, Some, None, nat_eq}
use Rattle.std.specs.FinMap as map
use Rattle.std.specs.List.{AllByRecursion}
use Rattle.std.specs.Option.{option_map_or}
use Rattle.kr_inode.specs.declared.standing.Standing.{Standing}
use Rattle.kr_tree.specs.Tree.{Tree, Inodes, Inode, Entry, Body, Directory, RegularFile, SymbolicLink, ProcessDirectory, root, inode, body, body_is, entry, entries, entries_of, above, standing, is_directory, is_listed, is_filled, takes_names, bytes_of}
use Rattle.kr_tree.specs.Names.{is_name}
use Rattle.kr_inode.specs.Entries.{Entries, IsListed}
pub use Rattle.kr_inode.specs.Entries.{IsIn}
use Rattle.kr_tree.specs.Changes.{file_limit, byte_limit, count_limit, counted, is_unused}

-- ---- counts

-- how many entries of a list stand for an inode
abbrev pub count_in : ℕ → List Entry → ℕ
count_in i [] = 0
count_in i (e ∷ es) = counted (nat_eq i e.inode) + count_in i es

-- the sum of f over the inodes whose numbers are below one
unfoldable pub sum_below : (Inode → ℕ) → Inodes → ℕ → ℕ
sum_below f m zero = 0
sum_below f m (suc n) = option_map_or f (map.get m n) 0 + sum_below f m n

-- the sum of f over all inodes, whose numbers are all below the next one
abbrev pub total : (Inode → ℕ) → Tree → ℕ
total f t = sum_below f t.inodes t.next

-- how many names an inode has: one for each entry, and the root's one
abbrev pub names_of : Tree → ℕ → ℕ
names_of t i = counted (nat_eq i root) + total (λ x. count_in i (entries_of x.node.body)) t

-- how many entries of a list are directories
abbrev pub directories_in : Tree → List Entry → ℕ
directories_in t [] = 0
directories_in t (e ∷ es) = counted (body_is is_directory t e.inode) + directories_in t es

-- the counts that are kept are those of the entries and bytes. What isn't there has no names
pub record IsCounted (t : Tree) : Type 0 where
  pub names : (i : ℕ) → option_map_or (λ x. x.names) (inode t i) 0 ≡ names_of t i
  pub directories : (i : ℕ) → option_map_or (λ x. x.directories) (inode t i) 0 ≡ directories_in t (entries t i)
  pub all_names : t.names ≡ total (λ x. length (entries_of x.node.body)) t
  pub all_bytes : t.bytes ≡ total (λ x. length (bytes_of x.node.body)) t

-- ---- the tree

-- the entries of a directory, and the serial that the next one takes
abbrev pub entries_beside : Inode → Entries
entries_beside x = record { list = entries_of x.node.body; next = x.next_serial }

-- going up from a directory one comes to the root, or to one that was removed
pub data RisesToEnd (t : Tree) : ℕ → Type 0 where
  AtRoot : RisesToEnd t root
  AtRemoved : {dir : ℕ} → above t dir ≡ None → RisesToEnd t dir
  Above : {dir up : ℕ} → above t dir ≡ Some up → RisesToEnd t up → RisesToEnd t dir

-- a directory is at or below another
pub data IsBelow (t : Tree) (top : ℕ) : ℕ → Type 0 where
  Here : IsBelow t top top
  Below : {dir up : ℕ} → dir ≢ root → above t dir ≡ Some up → IsBelow t top up → IsBelow t top dir

pub record IsSound (t : Tree) : Type 0 where
  -- the root is a directory that stands in itself
  pub rooted : standing t root ≡ Some (record { inode = root; serial = 0 })
  pub root_listed : body_is is_listed t root ≡ true
  -- numbers are drawn in order
  pub numbered : (i : ℕ) (x : Inode) → inode t i ≡ Some x → (0 < i) × (i < t.next)
  pub listed : (i : ℕ) (x : Inode) → inode t i ≡ Some x → IsListed (entries_beside x)
  -- what stands nowhere has no entries, as a directory that was removed
  pub emptied : (i : ℕ) → standing t i ≡ None → entries t i ≡ []
  -- a directory, and the process directory, has one entry, and stands where that is
  pub alone : (dir : ℕ) (e : Entry) → IsIn e (entries t dir) → body_is is_directory t e.inode ≡ true → standing t e.inode ≡ Some (record { inode = dir; serial = e.serial })
  pub stands : (dir : ℕ) (s : Standing) → dir ≢ root → standing t dir ≡ Some s → (name : List ℕ) × IsIn (record { name = name; serial = s.serial; inode = dir }) (entries t s.inode)
  -- no directory is below itself
  pub rises : (dir : ℕ) → body_is is_directory t dir ≡ true → RisesToEnd t dir
  pub inodes_limited : map.len t.inodes ≤ count_limit
  pub names_limited : t.names ≤ count_limit
  pub bytes_limited : t.bytes ≤ byte_limit
  pub files_limited : (i : ℕ) (bytes : List ℕ) → body t i ≡ Some (RegularFile bytes) → length bytes ≤ file_limit

-- what is in the tree is named or held
abbrev pub HasNoUnused : Tree → Type 0
HasNoUnused t = (i : ℕ) (x : Inode) → inode t i ≡ Some x → is_unused x ≡ false

-- every entry's inode is there
abbrev pub HasItsInodes : Tree → Type 0
HasItsInodes t = (dir : ℕ) (e : Entry) → IsIn e (entries t dir) → (x : Inode) × (inode t e.inode ≡ Some x)

-- numbers that are bytes
abbrev pub AreBytes : List ℕ → Type 0
AreBytes bytes = AllByRecursion (λ b. b < 256) bytes

-- the names of entries, the bytes of a file and the text of a link are bytes
abbrev pub IsOfBytes : Body → Type 0
IsOfBytes (Directory entries standing) = AllByRecursion (λ e. AreBytes e.name) entries
IsOfBytes (RegularFile bytes) = AreBytes bytes
IsOfBytes (SymbolicLink text) = AreBytes text
IsOfBytes (ProcessDirectory standing) = Unit {0}

-- all names, files and texts are of bytes
abbrev pub HasBytes : Tree → Type 0
HasBytes t = (i : ℕ) (x : Inode) → inode t i ≡ Some x → IsOfBytes x.node.body

-- all that every tree keeps
pub record IsKept (t : Tree) : Type 0 where
  pub sound : IsSound t
  pub counted : IsCounted t
  pub used : HasNoUnused t
  pub bytes : HasBytes t

-- ---- moves

-- what rename(2) may move where: an entry that is there, into a directory that wasn't removed and
-- isn't at or below it, onto a free name or in place of an entry of its kind without entries
pub record IsLawfulMove (t : Tree) (dir : ℕ) (name : List ℕ) (to : ℕ) (new : List ℕ) : Type 0 where
  pub moved : ℕ
  pub there : entry t dir name ≡ Some moved
  pub takes : body_is takes_names t to ≡ true
  pub well_formed : is_name new ≡ true
  pub apart : body_is is_directory t moved ≡ true → ¬ IsBelow t moved to
  pub like : (old : ℕ) → entry t to new ≡ Some old → old ≢ moved → (body_is is_directory t old ≡ body_is is_directory t moved) × (body_is is_filled t old ≡ false)
