-- Bodies after a change.
use Rattle.std.proofs.Common.{◌≡◌, ℕ, true, false, List, [], ◌∷◌, refl, ap, Option, Some, None}
use Rattle.kr_inode.specs.declared.standing.Standing.{Standing}
use Rattle.kr_inode.specs.declared.node.Node.{Node as NewNode}
use Rattle.kr_inode.specs.declared.node.Node.TheVariants.{Dir as NewDir, File as NewFile, Link as NewLink, Proc as NewProc}
use Rattle.kr_inode.specs.Inode.{Body, Directory, RegularFile, SymbolicLink, ProcessDirectory, Entry, entries_of, standing_of, is_directory, is_listed, takes_names, may_be_linked, is_filled, is_file, bytes_of}
use Rattle.kr_inode.specs.Changes.{with_entries, with_standing, with_bytes}
use Rattle.kr_inode.specs.Entries.{IsIn}
use Rattle.kr_inode.specs.Stored.{body_of_new}

-- ---- other entries

pub entries-with_entries : (f : List Entry → List Entry) (b : Body) → is_listed b ≡ true → entries_of (with_entries f b) ≡ f (entries_of b)
entries-with_entries f (Directory es s) h = refl
entries-with_entries f (RegularFile bs) h = absurd cc
entries-with_entries f (SymbolicLink bs) h = absurd cc
entries-with_entries f (ProcessDirectory s) h = absurd cc

pub standing-with_entries : (f : List Entry → List Entry) (b : Body) → standing_of (with_entries f b) ≡ standing_of b
standing-with_entries f (Directory es s) = refl
standing-with_entries f (RegularFile bs) = refl
standing-with_entries f (SymbolicLink bs) = refl
standing-with_entries f (ProcessDirectory s) = refl

pub is_directory-with_entries : (f : List Entry → List Entry) (b : Body) → is_directory (with_entries f b) ≡ is_directory b
is_directory-with_entries f (Directory es s) = refl
is_directory-with_entries f (RegularFile bs) = refl
is_directory-with_entries f (SymbolicLink bs) = refl
is_directory-with_entries f (ProcessDirectory s) = refl

pub is_listed-with_entries : (f : List Entry → List Entry) (b : Body) → is_listed (with_entries f b) ≡ is_listed b
is_listed-with_entries f (Directory es s) = refl
is_listed-with_entries f (RegularFile bs) = refl
is_listed-with_entries f (SymbolicLink bs) = refl
is_listed-with_entries f (ProcessDirectory s) = refl

pub takes-with_entries : (f : List Entry → List Entry) (b : Body) → takes_names (with_entries f b) ≡ takes_names b
takes-with_entries f (Directory es (Some s)) = refl
takes-with_entries f (Directory es None) = refl
takes-with_entries f (RegularFile bs) = refl
takes-with_entries f (SymbolicLink bs) = refl
takes-with_entries f (ProcessDirectory s) = refl

-- one change of the entries after another
pub with_entries-swap : (f g : List Entry → List Entry) (b : Body) → ((es : List Entry) → f (g es) ≡ g (f es)) → with_entries f (with_entries g b) ≡ with_entries g (with_entries f b)
with_entries-swap f g (Directory es s) h = ap (λ es. Directory es s) (h es)
with_entries-swap f g (RegularFile bs) h = refl
with_entries-swap f g (SymbolicLink bs) h = refl
with_entries-swap f g (ProcessDirectory s) h = refl

pub bytes-with_entries : (f : List Entry → List Entry) (b : Body) → bytes_of (with_entries f b) ≡ bytes_of b
bytes-with_entries f (Directory es s) = refl
bytes-with_entries f (RegularFile bs) = refl
bytes-with_entries f (SymbolicLink bs) = refl
bytes-with_entries f (ProcessDirectory s) = refl

pub file-with_entries : (f : List Entry → List Entry) (b : Body) (bytes : List ℕ) → with_entries f b ≡ RegularFile bytes → b ≡ RegularFile bytes
file-with_entries f (Directory es s) bytes h = absurd cc
file-with_entries f (RegularFile bs) bytes h = h
file-with_entries f (SymbolicLink bs) bytes h = absurd cc
file-with_entries f (ProcessDirectory s) bytes h = absurd cc

-- ---- another standing

pub entries-with_standing : (s : Option Standing) (b : Body) → entries_of (with_standing s b) ≡ entries_of b
entries-with_standing s (Directory es _) = refl
entries-with_standing s (RegularFile bs) = refl
entries-with_standing s (SymbolicLink bs) = refl
entries-with_standing s (ProcessDirectory _) = refl

pub standing-with_standing : (s : Option Standing) (b : Body) → is_directory b ≡ true → standing_of (with_standing s b) ≡ s
standing-with_standing s (Directory es _) h = refl
standing-with_standing s (RegularFile bs) h = absurd cc
standing-with_standing s (SymbolicLink bs) h = absurd cc
standing-with_standing s (ProcessDirectory _) h = refl

pub is_directory-with_standing : (s : Option Standing) (b : Body) → is_directory (with_standing s b) ≡ is_directory b
is_directory-with_standing s (Directory es _) = refl
is_directory-with_standing s (RegularFile bs) = refl
is_directory-with_standing s (SymbolicLink bs) = refl
is_directory-with_standing s (ProcessDirectory _) = refl

pub is_listed-with_standing : (s : Option Standing) (b : Body) → is_listed (with_standing s b) ≡ is_listed b
is_listed-with_standing s (Directory es _) = refl
is_listed-with_standing s (RegularFile bs) = refl
is_listed-with_standing s (SymbolicLink bs) = refl
is_listed-with_standing s (ProcessDirectory _) = refl

pub bytes-with_standing : (s : Option Standing) (b : Body) → bytes_of (with_standing s b) ≡ bytes_of b
bytes-with_standing s (Directory es _) = refl
bytes-with_standing s (RegularFile bs) = refl
bytes-with_standing s (SymbolicLink bs) = refl
bytes-with_standing s (ProcessDirectory _) = refl

pub file-with_standing : (s : Option Standing) (b : Body) (bytes : List ℕ) → with_standing s b ≡ RegularFile bytes → b ≡ RegularFile bytes
file-with_standing s (Directory es _) bytes h = absurd cc
file-with_standing s (RegularFile bs) bytes h = h
file-with_standing s (SymbolicLink bs) bytes h = absurd cc
file-with_standing s (ProcessDirectory _) bytes h = absurd cc

-- ---- other bytes

pub entries-with_bytes : (f : List ℕ → List ℕ) (b : Body) → entries_of (with_bytes f b) ≡ entries_of b
entries-with_bytes f (Directory es s) = refl
entries-with_bytes f (RegularFile bs) = refl
entries-with_bytes f (SymbolicLink bs) = refl
entries-with_bytes f (ProcessDirectory s) = refl

pub standing-with_bytes : (f : List ℕ → List ℕ) (b : Body) → standing_of (with_bytes f b) ≡ standing_of b
standing-with_bytes f (Directory es s) = refl
standing-with_bytes f (RegularFile bs) = refl
standing-with_bytes f (SymbolicLink bs) = refl
standing-with_bytes f (ProcessDirectory s) = refl

pub is_directory-with_bytes : (f : List ℕ → List ℕ) (b : Body) → is_directory (with_bytes f b) ≡ is_directory b
is_directory-with_bytes f (Directory es s) = refl
is_directory-with_bytes f (RegularFile bs) = refl
is_directory-with_bytes f (SymbolicLink bs) = refl
is_directory-with_bytes f (ProcessDirectory s) = refl

pub is_listed-with_bytes : (f : List ℕ → List ℕ) (b : Body) → is_listed (with_bytes f b) ≡ is_listed b
is_listed-with_bytes f (Directory es s) = refl
is_listed-with_bytes f (RegularFile bs) = refl
is_listed-with_bytes f (SymbolicLink bs) = refl
is_listed-with_bytes f (ProcessDirectory s) = refl

pub file-with_bytes : (f : List ℕ → List ℕ) (b : Body) → is_file b ≡ true → with_bytes f b ≡ RegularFile (f (bytes_of b))
file-with_bytes f (Directory es s) h = absurd cc
file-with_bytes f (RegularFile bs) h = refl
file-with_bytes f (SymbolicLink bs) h = absurd cc
file-with_bytes f (ProcessDirectory s) h = absurd cc

-- ---- what follows

pub stands-nowhere : (b : Body) → is_directory b ≡ false → standing_of b ≡ None
stands-nowhere (Directory es s) h = absurd cc
stands-nowhere (RegularFile bs) h = refl
stands-nowhere (SymbolicLink bs) h = refl
stands-nowhere (ProcessDirectory s) h = absurd cc

-- what stands somewhere is a directory
pub is_directory-stands : (b : Body) (s : Standing) → standing_of b ≡ Some s → is_directory b ≡ true
is_directory-stands (Directory es _) s h = refl
is_directory-stands (RegularFile bs) s h = absurd cc
is_directory-stands (SymbolicLink bs) s h = absurd cc
is_directory-stands (ProcessDirectory _) s h = refl

pub takes-is_listed : (b : Body) → takes_names b ≡ true → is_listed b ≡ true
takes-is_listed (Directory es s) h = refl
takes-is_listed (RegularFile bs) h = absurd cc
takes-is_listed (SymbolicLink bs) h = absurd cc
takes-is_listed (ProcessDirectory s) h = absurd cc

pub takes-stands : (b : Body) → takes_names b ≡ true → (s : Standing) × (standing_of b ≡ Some s)
takes-stands (Directory es (Some s)) h = (s, refl)
takes-stands (Directory es None) h = absurd cc
takes-stands (RegularFile bs) h = absurd cc
takes-stands (SymbolicLink bs) h = absurd cc
takes-stands (ProcessDirectory s) h = absurd cc

pub listed-is_directory : (b : Body) → is_listed b ≡ true → is_directory b ≡ true
listed-is_directory (Directory es s) h = refl
listed-is_directory (RegularFile bs) h = absurd cc
listed-is_directory (SymbolicLink bs) h = absurd cc
listed-is_directory (ProcessDirectory s) h = absurd cc

pub linked-is_directory : (b : Body) → may_be_linked b ≡ true → is_directory b ≡ false
linked-is_directory (Directory es s) h = absurd cc
linked-is_directory (RegularFile bs) h = refl
linked-is_directory (SymbolicLink bs) h = refl
linked-is_directory (ProcessDirectory s) h = absurd cc

pub standing-without : (b : Body) → standing_of (with_standing None b) ≡ None
standing-without (Directory es s) = refl
standing-without (RegularFile bs) = refl
standing-without (SymbolicLink bs) = refl
standing-without (ProcessDirectory s) = refl

pub filled-entries : (b : Body) → is_filled b ≡ false → entries_of b ≡ []
filled-entries (Directory [] s) h = refl
filled-entries (Directory (e ∷ es) s) h = absurd cc
filled-entries (RegularFile bs) h = refl
filled-entries (SymbolicLink bs) h = refl
filled-entries (ProcessDirectory s) h = refl

-- what has an entry keeps entries
pub entries-is_listed : (b : Body) (e : Entry) → IsIn e (entries_of b) → is_listed b ≡ true
entries-is_listed (Directory es s) e h = refl
entries-is_listed (RegularFile bs) e h = absurd h
entries-is_listed (SymbolicLink bs) e h = absurd h
entries-is_listed (ProcessDirectory s) e h = absurd h

-- a new node has no entries
pub entries-new : (n : NewNode) → entries_of (body_of_new n) ≡ []
entries-new NewDir = refl
entries-new (NewFile bytes) = refl
entries-new (NewLink text) = refl
entries-new NewProc = refl
