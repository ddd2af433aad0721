-- A listing read line after line, and its first bad line.
use Rattle.std.specs.Prelude.{ℕ, ◌+◌, min, Bool, true, false, ◌||◌, List, [], ◌∷◌, length, codes, Option, Some, None, is_some, Result, Ok, Err, ok_or, nat_eq, if◌then◌else◌}
use Rattle.std.specs.List.{list_any, starts_with, slice_split}
use Rattle.std.specs.Option.{option_and_then}
use Rattle.kr_tree.specs.kr_inode.declared.user.User.{User}
use Rattle.kr_tree.specs.Tree.{Tree, Body, Directory, RegularFile, SymbolicLink, ProcessDirectory, entry, body_is, takes_names, is_file, bytes_of}
use Rattle.kr_tree.specs.Names.{named}
use Rattle.kr_tree.specs.Changes.{new_tree, added, linked, is_too_big, has_no_room, has_no_name_left}
use Rattle.kr_text.specs.declared.fault.TreeWhy.{TreeWhy}
use Rattle.kr_text.specs.declared.fault.TreeWhy.TheVariants.{Form, NoParent, Twice, NoTarget, NoUser, NoRoot, TwoElf, TooBig}
use Rattle.kr_text.specs.declared.fault.ListFault.{ListFault}
use Rattle.kr_text.specs.declared.fault.ListFault.TheVariants.{Bad}
use Rattle.kr_text.specs.declared.line.Owner.{Owner}
use Rattle.kr_text.specs.declared.line.Line.{Line}
use Rattle.kr_text.specs.declared.line.Line.TheVariants.{User as UserLine, Dir as DirLine, File as FileLine, Elf as ElfLine, Link as LinkLine, Name as NameLine, Proc as ProcLine}
use Rattle.kr_text.specs.declared.so_far.SoFar.{SoFar}
use Rattle.kr_text.specs.Fields.{◌>>=◌}
use Rattle.kr_text.specs.Lines.{line_of}

-- ---- what was read so far

abbrev pub nothing_read : SoFar
nothing_read = record { tree = None; user = None; has_proc = false; has_elf = false }

abbrev pub with_tree : Tree → SoFar → SoFar
with_tree t s = record { tree = Some t; user = s.user; has_proc = s.has_proc; has_elf = s.has_elf }

-- ---- where a name goes

-- a directory of a tree and a name that is free there
abbrev pub Place : Type 0
Place = ℕ × List ℕ

-- a directory to which names can be added
abbrev pub directory_of : Tree → Option ℕ → Option ℕ
directory_of t at = option_and_then (λ dir. if body_is takes_names t dir then Some dir else None) at

abbrev pub free_in : Tree → List ℕ → Option ℕ → Result Place TreeWhy
free_in t name None = Err NoParent
free_in t name (Some dir) = if is_some (entry t dir name) then Err Twice else Ok (dir, name)

-- once the root is there, its path is taken
abbrev pub place_below : Tree → List (List ℕ) → Result Place TreeWhy
place_below t [] = Err Twice
place_below t (name ∷ text) = free_in t name (directory_of t (named t text))

-- before the root's line nothing has a directory above it
abbrev pub tree_of : SoFar → Result Tree TreeWhy
tree_of s = ok_or s.tree NoParent

-- ---- what a line adds

-- a new node at its place, within the limits
abbrev pub put : Owner → Body → Tree → Place → Result Tree TreeWhy
put owner body t p =
    if is_too_big body || has_no_room (length (bytes_of body)) t then Err TooBig
    else Ok (added p.0 p.1 owner.mode owner.uid owner.gid body t)

abbrev pub node_put : Owner → List (List ℕ) → Body → Tree → Result Tree TreeWhy
node_put owner text body t = place_below t text >>= put owner body t

abbrev pub node_read : Owner → List (List ℕ) → Body → SoFar → Result SoFar TreeWhy
node_read owner text body s = tree_of s >>= (λ t. node_put owner text body t >>= (λ u. Ok (with_tree u s)))

-- the root, which needs no directory above
abbrev pub root_read : Owner → SoFar → Result SoFar TreeWhy
root_read owner s = if is_some s.tree then Err Twice else Ok (with_tree (new_tree owner.mode owner.uid owner.gid) s)

abbrev pub dir_read : Owner → List (List ℕ) → SoFar → Result SoFar TreeWhy
dir_read owner [] s = root_read owner s
dir_read owner (name ∷ text) s = node_read owner (name ∷ text) (Directory [] None) s

abbrev pub user_read : User → SoFar → Result SoFar TreeWhy
user_read user s =
    if is_some s.user then Err Twice
    else Ok (record { tree = s.tree; user = Some user; has_proc = s.has_proc; has_elf = s.has_elf })

abbrev pub elf_put : Owner → List (List ℕ) → List ℕ → Bool → Tree → Result Tree TreeWhy
elf_put owner text elf has_elf t = place_below t text >>= (λ p. if has_elf then Err TwoElf else put owner (RegularFile elf) t p)

abbrev pub with_elf : Tree → SoFar → SoFar
with_elf t s = record { tree = Some t; user = s.user; has_proc = s.has_proc; has_elf = true }

abbrev pub elf_read : Owner → List (List ℕ) → List ℕ → SoFar → Result SoFar TreeWhy
elf_read owner text elf s = tree_of s >>= (λ t. elf_put owner text elf s.has_elf t >>= (λ u. Ok (with_elf u s)))

-- mode 0555, owner and group 0
abbrev pub proc_owner : Owner
proc_owner = record { mode = 365; uid = 0; gid = 0 }

abbrev pub proc_put : List (List ℕ) → Bool → Tree → Result Tree TreeWhy
proc_put text has_proc t = place_below t text >>= (λ p. if has_proc then Err Twice else put proc_owner (ProcessDirectory None) t p)

abbrev pub with_proc : Tree → SoFar → SoFar
with_proc t s = record { tree = Some t; user = s.user; has_proc = true; has_elf = s.has_elf }

abbrev pub proc_read : List (List ℕ) → SoFar → Result SoFar TreeWhy
proc_read text s = tree_of s >>= (λ t. proc_put text s.has_proc t >>= (λ u. Ok (with_proc u s)))

-- the file that a text names
abbrev pub or_no_target : Option ℕ → Result ℕ TreeWhy
or_no_target None = Err NoTarget
or_no_target (Some file) = Ok file

abbrev pub file_at : Tree → List (List ℕ) → Result ℕ TreeWhy
file_at t text = or_no_target (option_and_then (λ i. if body_is is_file t i then Some i else None) (named t text))

abbrev pub link_put : Tree → Place → ℕ → Result Tree TreeWhy
link_put t p file = if has_no_name_left t then Err TooBig else Ok (linked p.0 p.1 file t)

abbrev pub name_put : List (List ℕ) → List (List ℕ) → Tree → Result Tree TreeWhy
name_put text existing t = place_below t text >>= (λ p. file_at t existing >>= link_put t p)

abbrev pub name_read : List (List ℕ) → List (List ℕ) → SoFar → Result SoFar TreeWhy
name_read text existing s = tree_of s >>= (λ t. name_put text existing t >>= (λ u. Ok (with_tree u s)))

-- what was read once a line was added to it. The ELF source's bytes stand first
abbrev pub line_read : List ℕ → Line → SoFar → Result SoFar TreeWhy
line_read elf (UserLine user) s = user_read user s
line_read elf (DirLine owner text) s = dir_read owner text s
line_read elf (FileLine owner text bytes) s = node_read owner text (RegularFile bytes) s
line_read elf (ElfLine owner text) s = elf_read owner text elf s
line_read elf (LinkLine owner text target) s = node_read owner text (SymbolicLink target) s
line_read elf (NameLine text existing) s = name_read text existing s
line_read elf (ProcLine text) s = proc_read text s

-- what was read once a line, given as its bytes, was added to it
abbrev pub line_added : List ℕ → List ℕ → SoFar → Result SoFar TreeWhy
line_added elf line s = line_of line >>= (λ l. line_read elf l s)

-- ---- the listing

abbrev pub is_newline : ℕ → Bool
is_newline b = nat_eq b 10

-- the lines, each without its newline, and what stands behind the last newline
abbrev pub pieces_of : List ℕ → List (List ℕ)
pieces_of bytes = slice_split is_newline bytes

abbrev pub bad : {A : Type 0} → ℕ → TreeWhy → Result A ListFault
bad n why = Err (Bad n why)

-- the number of the next line. Lines are counted up to the largest number of 32 bits
abbrev pub counted : ℕ → ℕ
counted n = min (n + 1) 4294967295

-- at the end, n being the number of lines and one more
abbrev pub finished : ℕ → Option Tree → Option User → Result (Tree × User) ListFault
finished n None user = bad n NoRoot
finished n (Some t) None = bad n NoUser
finished n (Some t) (Some user) = Ok (t, user)

abbrev pub then_on : ℕ → Result SoFar TreeWhy → (SoFar → Result (Tree × User) ListFault) → Result (Tree × User) ListFault
then_on n (Ok s) next = next s
then_on n (Err why) next = bad n why

-- a listing read from its line n on
unfoldable pub read_from : List ℕ → ℕ → List (List ℕ) → SoFar → Result (Tree × User) ListFault
read_from elf n [] s = finished n s.tree s.user
read_from elf n ([] ∷ []) s = finished n s.tree s.user
read_from elf n ((b ∷ line) ∷ []) s = bad n Form
read_from elf n (line ∷ next ∷ more) s = then_on n (line_added elf line s) (read_from elf (counted n) (next ∷ more))

-- the tree and the user of a listing, or its first bad line
abbrev pub listing_of : List ℕ → List ℕ → Result (Tree × User) ListFault
listing_of elf bytes = read_from elf 1 (pieces_of bytes) nothing_read

-- whether a line begins as that of a file with the ELF source's bytes
abbrev pub wants_elf : List ℕ → Bool
wants_elf bytes = list_any (λ line. starts_with nat_eq line (codes "x ")) (pieces_of bytes)
