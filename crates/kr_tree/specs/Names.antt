-- Names of what stands in the tree. A host text is a list of names, the deepest first: that of
-- `/a/b` has b and then a, and that of the root has none.
use Rattle.std.specs.Prelude.{◌≡◌, ℕ, zero, suc, true, List, [], ◌∷◌, Option, Some, None, nat_eq, codes, if◌then◌else◌}
use Rattle.std.specs.Option.{option_map, option_and_then}
use Rattle.std.specs.Fmt.{decimal}
use Rattle.kr_inode.specs.declared.user.User.{User}
use Rattle.kr_inode.specs.declared.user.Right.TheVariants.{Search}
use Rattle.kr_inode.specs.declared.standing.Standing.{Standing}
use Rattle.kr_tree.specs.declared.place.ProcAt.{ProcAt}
use Rattle.kr_tree.specs.declared.place.ProcAt.TheVariants.{SelfLink, Dir, Cwd, Root, Exe, FdDir, Fd}
use Rattle.kr_inode.specs.pr_base.Paths.{AreNames}
use Rattle.kr_tree.specs.Tree.{Tree, root, entry, entry_at, entries, standing, body_is, is_directory}
use Rattle.kr_tree.specs.Rights.{may}
-- the name of an entry
pub use Rattle.kr_inode.specs.Names.{is_name}

-- ---- what a text leads to

-- the inode that a host text names, whatever the rights on the way; no link is followed
abbrev pub named : Tree → List (List ℕ) → Option ℕ
named t [] = Some root
named t (name ∷ text) = option_and_then (λ dir. entry t dir name) (named t text)

-- the entry of a name in a directory that the user may search
abbrev pub entry_searched : Tree → User → List ℕ → ℕ → Option ℕ
entry_searched t user name dir = if may t user dir Search then entry t dir name else None

-- the inode that a user reaches by a host text, with search on each directory on the way
abbrev pub reached : Tree → User → List (List ℕ) → Option ℕ
reached t user [] = Some root
reached t user (name ∷ text) = option_and_then (entry_searched t user name) (reached t user text)

-- ---- what a directory is called

-- the name under which a directory stands, and the directory in which
abbrev pub step_up : Tree → ℕ → Option (List ℕ × ℕ)
step_up t dir = option_and_then (λ s. option_map (λ e. (e.name, s.inode)) (entry_at s.serial (entries t s.inode))) (standing t dir)

-- the host name of a directory that stands fewer than n steps below the root
unfoldable pub host_name_within : ℕ → Tree → ℕ → Option (List (List ℕ))
host_name_within zero t dir = None
host_name_within (suc n) t dir =
    if nat_eq dir root then Some []
    else option_and_then (λ up. option_map (λ text. up.0 ∷ text) (host_name_within n t up.1)) (step_up t dir)

-- the host name of a directory or the process directory, found by going up from it; none where it
-- is neither, was removed or stands below one that was. No directory is met twice on the way up, so
-- it has fewer steps than numbers were drawn
abbrev pub host_name : Tree → ℕ → Option (List (List ℕ))
host_name t dir = host_name_within t.next t dir

-- a directory that a text names has this host name and no other
abbrev pub NamedHaveHostNames : Tree → Type 0
NamedHaveHostNames t = (text : List (List ℕ)) (dir : ℕ) → named t text ≡ Some dir → body_is is_directory t dir ≡ true → host_name t dir ≡ Some text

-- a directory that wasn't removed has a host name
abbrev pub StandingHaveHostNames : Tree → Type 0
StandingHaveHostNames t = (dir : ℕ) (s : Standing) → standing t dir ≡ Some s → (text : List (List ℕ)) × (host_name t dir ≡ Some text)

-- a host name consists of names, and names the directory that has it
abbrev pub HostNamesLead : Tree → Type 0
HostNamesLead t = (dir : ℕ) (text : List (List ℕ)) → host_name t dir ≡ Some text → (named t text ≡ Some dir) × (body_is is_directory t dir ≡ true) × AreNames text

-- ---- below the process directory

-- the names of what stands in the process directory, from its own name on, as proc(5) has them
abbrev pub process_names : ProcAt → List (List ℕ)
process_names SelfLink = codes "self" ∷ []
process_names (Dir pid) = decimal pid ∷ []
process_names (Cwd pid) = codes "cwd" ∷ decimal pid ∷ []
process_names (Root pid) = codes "root" ∷ decimal pid ∷ []
process_names (Exe pid) = codes "exe" ∷ decimal pid ∷ []
process_names (FdDir pid) = codes "fd" ∷ decimal pid ∷ []
process_names (Fd pid fd) = decimal fd ∷ codes "fd" ∷ decimal pid ∷ []
