-- When two trees show the same, whatever the numbers of their inodes and serials, and which trees a
-- listing can stand for.
use Rattle.std.specs.Prelude.{◌≡◌, ◌≢◌, ℕ, ◌+◌, ◌≤◌, ◌<◌, List, [], ◌∷◌, ◌++◌, length, Bool, true, false, Option, Some, None, Ok, ◌↔◌}
use Rattle.std.specs.List.{AllByRecursion}
use Rattle.std.specs.Option.{option_map, option_map_or, option_and_then}
use Rattle.kr_tree.specs.kr_inode.declared.user.User.{User}
use Rattle.kr_tree.specs.Tree.{Tree, Node, Body, Directory, RegularFile, SymbolicLink, ProcessDirectory, node, body_is, is_file, bytes_of}
use Rattle.kr_tree.specs.Names.{named}
use Rattle.kr_tree.specs.Lawful.{IsKept}
use Rattle.kr_tree.specs.Changes.{count_limit, byte_limit}
use Rattle.kr_tree.specs.pr_base.Paths.{text_of}
use Rattle.kr_text.specs.declared.names.Named.{Named}
use Rattle.kr_text.specs.Fields.{largest_id, largest_mode, path_limit, unescaped}
use Rattle.kr_text.specs.Lines.{link_mode}
use Rattle.kr_text.specs.Canonical.{first_name, all_names, escaped, canonical}
use Rattle.kr_text.specs.Reading.{listing_of}

-- ---- what a text shows

abbrev pub bare_body : Body → Body
bare_body (Directory entries standing) = Directory [] None
bare_body (RegularFile bytes) = RegularFile bytes
bare_body (SymbolicLink text) = SymbolicLink text
bare_body (ProcessDirectory standing) = ProcessDirectory None

-- kind, mode, owner and bytes of a node, without its entries and its place
abbrev pub bare : Node → Node
bare n = record { mode = n.mode; uid = n.uid; gid = n.gid; body = bare_body n.body }

-- what a text names
abbrev pub shown : Tree → List (List ℕ) → Option Node
shown t text = option_and_then (λ i. option_map bare (node t i)) (named t text)

-- two texts name one file
abbrev pub NameOneFile : Tree → List (List ℕ) → List (List ℕ) → Type 0
NameOneFile t a b = (i : ℕ) × (named t a ≡ Some i) × (named t b ≡ Some i) × (body_is is_file t i ≡ true)

-- each text names the like in both trees, and two texts name one file in the one exactly where they do
-- in the other
pub record IsSame (t u : Tree) : Type 0 where
  pub nodes : (text : List (List ℕ)) → shown t text ≡ shown u text
  pub files : (a b : List (List ℕ)) → NameOneFile t a b ↔ NameOneFile u a b

-- ---- which trees a listing can stand for

-- no byte is zero
abbrev pub HasNoZero : List ℕ → Type 0
HasNoZero bytes = AllByRecursion (λ b. 0 < b) bytes

-- the bytes of a path or of a link's text
abbrev pub AreTextBytes : List ℕ → Type 0
AreTextBytes bytes = AllByRecursion (λ b. (0 < b) × (b < 256)) bytes

-- what each node of a kind must have
abbrev pub CanBeWritten : Node → Body → Type 0
CanBeWritten n (Directory entries standing) = Unit {0}
CanBeWritten n (RegularFile bytes) = Unit {0}
CanBeWritten n (SymbolicLink text) = (n.mode ≡ link_mode) × (1 ≤ length text) × (length text ≤ path_limit) × HasNoZero text
CanBeWritten n (ProcessDirectory standing) = (n.mode ≡ 365) × (n.uid ≡ 0) × (n.gid ≡ 0)

abbrev pub is_process_directory : Body → Bool
is_process_directory (Directory entries standing) = false
is_process_directory (RegularFile bytes) = false
is_process_directory (SymbolicLink text) = false
is_process_directory (ProcessDirectory standing) = true

-- how many inodes and bytes a name adds when it is read: a file's later names add none, and each name
-- of a link adds all
abbrev pub file_weight : ℕ → Option (List (List ℕ)) → ℕ
file_weight weight None = weight
file_weight weight (Some first) = 0

abbrev pub body_weight : ℕ → Option (List (List ℕ)) → Body → ℕ
body_weight weight first (Directory entries standing) = weight
body_weight weight first (RegularFile bytes) = file_weight weight first
body_weight weight first (SymbolicLink text) = weight
body_weight weight first (ProcessDirectory standing) = weight

abbrev pub weight_at : (Body → ℕ) → Tree → Named → Option (List (List ℕ)) → ℕ
weight_at weight t n first = option_map_or (λ x. body_weight (weight x.body) first x.body) (node t n.ino) 0

-- the weight of some names, where others were read before
unfoldable pub weight_after : (Body → ℕ) → Tree → List Named → List Named → ℕ
weight_after weight t earlier [] = 0
weight_after weight t earlier (n ∷ names) = weight_at weight t n (first_name n.ino earlier) + weight_after weight t (earlier ++ n ∷ []) names

abbrev pub inodes_read : Tree → ℕ
inodes_read t = weight_after (λ b. 1) t [] (all_names t)

abbrev pub bytes_read : Tree → ℕ
bytes_read t = weight_after (λ b. length (bytes_of b)) t [] (all_names t)

pub record CanBeListed (t : Tree) (user : User) : Type 0 where
  pub no_root_user : user.uid ≢ 0
  pub user_number : user.uid ≤ largest_id
  pub group_number : user.gid ≤ largest_id
  pub modes : (text : List (List ℕ)) (n : Node) → shown t text ≡ Some n → n.mode ≤ largest_mode
  pub owners : (text : List (List ℕ)) (n : Node) → shown t text ≡ Some n → (n.uid ≤ largest_id) × (n.gid ≤ largest_id)
  pub bodies : (text : List (List ℕ)) (n : Node) → shown t text ≡ Some n → CanBeWritten n n.body
  pub one_process_directory : (a b : List (List ℕ)) (n m : Node) → shown t a ≡ Some n → shown t b ≡ Some m → is_process_directory n.body ≡ true → is_process_directory m.body ≡ true → a ≡ b
  pub paths : (text : List (List ℕ)) (n : Node) → shown t text ≡ Some n → length (text_of text) ≤ path_limit
  -- the limits, where a link counts once for each of its names; that of names a kept tree meets
  pub inodes : inodes_read t ≤ count_limit
  pub bytes : bytes_read t ≤ byte_limit

-- ---- what is written is read

abbrev pub EscapesAreReadBack : Type 0
EscapesAreReadBack = (bytes : List ℕ) → AreTextBytes bytes → unescaped (escaped bytes) ≡ Some bytes

-- reading the canonical listing of a tree that can be listed gives its user and the same tree
abbrev pub ListingsAreReadBack : Type 0
ListingsAreReadBack = (t : Tree) (user : User) (elf : List ℕ) → IsKept t → CanBeListed t user → (u : Tree) × (listing_of elf (canonical t user) ≡ Ok (u, user)) × IsSame t u
