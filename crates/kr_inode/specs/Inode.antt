-- A node of the tree, as stat(2) speaks of it, and what is kept beside it.
use Rattle.std.specs.Prelude.{◌≡◌, ℕ, Bool, true, false, List, [], ◌∷◌, Option, Some, None, bytes_eq, nat_eq, nat_lt, ◌⊎◌, refl}
use Rattle.std.specs.List.{find}
use Rattle.std.specs.Coded.{Coded, code_by, coded×, coded⊎, coded_ℕ, coded_list, coded_option}
use Rattle.std.proofs.Common.{inl, inr}
use Rattle.kr_inode.specs.declared.standing.Standing.{Standing}

-- a name in a directory
pub record Entry : Type 0 where
  pub name : List ℕ
  pub serial : ℕ
  pub inode : ℕ

pub data Body : Type 0 where
  -- its entries in the order of their serials, and where it stands; a removed one stands nowhere
  Directory : List Entry → Option Standing → Body
  RegularFile : List ℕ → Body
  SymbolicLink : List ℕ → Body
  ProcessDirectory : Option Standing → Body

pub record Node : Type 0 where
  pub mode : ℕ
  pub uid : ℕ
  pub gid : ℕ
  pub body : Body

-- a node, and what is kept beside it: how many names it has, how often it is held, and of a directory
-- the serial that its next entry takes and how many of its entries are directories
pub record Inode : Type 0 where
  pub node : Node
  pub names : ℕ
  pub holds : ℕ
  pub next_serial : ℕ
  pub directories : ℕ

-- ---- how these values are told apart

abbrev pub entry_code : Coded Entry
entry_code =
    code_by (List ℕ × (ℕ × ℕ)) (coded× (coded_list coded_ℕ) (coded× coded_ℕ coded_ℕ))
    (λ e. (e.name, (e.serial, e.inode))) (λ p. record { name = p.0; serial = p.1.0; inode = p.1.1 }) (λ _. refl)

abbrev pub standing_code : Coded Standing
standing_code =
    code_by (ℕ × ℕ) (coded× coded_ℕ coded_ℕ) (λ s. (s.inode, s.serial)) (λ p. record { inode = p.0; serial = p.1 }) (λ _. refl)

abbrev pub BodyParts : Type 0
BodyParts = (List Entry × Option Standing) ⊎ (List ℕ ⊎ (List ℕ ⊎ Option Standing))

abbrev pub body_parts : Body → BodyParts
body_parts (Directory entries standing) = inl (entries, standing)
body_parts (RegularFile bytes) = inr (inl bytes)
body_parts (SymbolicLink text) = inr (inr (inl text))
body_parts (ProcessDirectory standing) = inr (inr (inr standing))

abbrev pub body_of_parts : BodyParts → Body
body_of_parts (inl p) = Directory p.0 p.1
body_of_parts (inr (inl bytes)) = RegularFile bytes
body_of_parts (inr (inr (inl text))) = SymbolicLink text
body_of_parts (inr (inr (inr standing))) = ProcessDirectory standing

abbrev pub body_of_its_parts : (b : Body) → body_of_parts (body_parts b) ≡ b
body_of_its_parts (Directory entries standing) = refl
body_of_its_parts (RegularFile bytes) = refl
body_of_its_parts (SymbolicLink text) = refl
body_of_its_parts (ProcessDirectory standing) = refl

abbrev pub body_code : Coded Body
body_code =
    code_by BodyParts
    (coded⊎ (coded× (coded_list entry_code) (coded_option standing_code)) (coded⊎ (coded_list coded_ℕ) (coded⊎ (coded_list coded_ℕ) (coded_option standing_code))))
    body_parts body_of_parts body_of_its_parts

abbrev pub node_code : Coded Node
node_code =
    code_by (ℕ × (ℕ × (ℕ × Body))) (coded× coded_ℕ (coded× coded_ℕ (coded× coded_ℕ body_code)))
    (λ n. (n.mode, (n.uid, (n.gid, n.body)))) (λ p. record { mode = p.0; uid = p.1.0; gid = p.1.1.0; body = p.1.1.1 }) (λ _. refl)

abbrev pub inode_code : Coded Inode
inode_code =
    code_by (Node × (ℕ × (ℕ × (ℕ × ℕ)))) (coded× node_code (coded× coded_ℕ (coded× coded_ℕ (coded× coded_ℕ coded_ℕ))))
    (λ x. (x.node, (x.names, (x.holds, (x.next_serial, x.directories)))))
    (λ p. record { node = p.0; names = p.1.0; holds = p.1.1.0; next_serial = p.1.1.1.0; directories = p.1.1.1.1 }) (λ _. refl)

-- ---- one node

-- the entries of a directory; no other node has any
abbrev pub entries_of : Body → List Entry
entries_of (Directory entries standing) = entries
entries_of (RegularFile bytes) = []
entries_of (SymbolicLink text) = []
entries_of (ProcessDirectory standing) = []

-- where a directory or the process directory stands, if it wasn't removed
abbrev pub standing_of : Body → Option Standing
standing_of (Directory entries standing) = standing
standing_of (RegularFile bytes) = None
standing_of (SymbolicLink text) = None
standing_of (ProcessDirectory standing) = standing

-- the process directory counts as a directory
abbrev pub is_directory : Body → Bool
is_directory (Directory entries standing) = true
is_directory (RegularFile bytes) = false
is_directory (SymbolicLink text) = false
is_directory (ProcessDirectory standing) = true

-- whether it keeps entries; the process directory shows those of processes
abbrev pub is_listed : Body → Bool
is_listed (Directory entries standing) = true
is_listed (RegularFile bytes) = false
is_listed (SymbolicLink text) = false
is_listed (ProcessDirectory standing) = false

-- whether names can be put into it: a directory proper that wasn't removed
abbrev pub takes_names : Body → Bool
takes_names (Directory entries (Some standing)) = true
takes_names (Directory entries None) = false
takes_names (RegularFile bytes) = false
takes_names (SymbolicLink text) = false
takes_names (ProcessDirectory standing) = false

-- whether it is a directory with entries
abbrev pub is_filled : Body → Bool
is_filled (Directory (e ∷ entries) standing) = true
is_filled (Directory [] standing) = false
is_filled (RegularFile bytes) = false
is_filled (SymbolicLink text) = false
is_filled (ProcessDirectory standing) = false

abbrev pub is_file : Body → Bool
is_file (Directory entries standing) = false
is_file (RegularFile bytes) = true
is_file (SymbolicLink text) = false
is_file (ProcessDirectory standing) = false

-- a file or a link, which may have several names
abbrev pub may_be_linked : Body → Bool
may_be_linked (Directory entries standing) = false
may_be_linked (RegularFile bytes) = true
may_be_linked (SymbolicLink text) = true
may_be_linked (ProcessDirectory standing) = false

-- a file's bytes or a link's text
abbrev pub bytes_of : Body → List ℕ
bytes_of (Directory entries standing) = []
bytes_of (RegularFile bytes) = bytes
bytes_of (SymbolicLink text) = text
bytes_of (ProcessDirectory standing) = []

abbrev pub file_of : Body → Option (List ℕ)
file_of (Directory entries standing) = None
file_of (RegularFile bytes) = Some bytes
file_of (SymbolicLink text) = None
file_of (ProcessDirectory standing) = None

abbrev pub text_of : Body → Option (List ℕ)
text_of (Directory entries standing) = None
text_of (RegularFile bytes) = None
text_of (SymbolicLink text) = Some text
text_of (ProcessDirectory standing) = None

-- the entry of a name
abbrev pub entry_named : List ℕ → List Entry → Option Entry
entry_named name entries = find (λ e. bytes_eq name e.name) entries

-- the entry of a serial
abbrev pub entry_at : ℕ → List Entry → Option Entry
entry_at serial entries = find (λ e. nat_eq serial e.serial) entries

-- the first entry whose serial is above one
abbrev pub entry_after : ℕ → List Entry → Option Entry
entry_after serial entries = find (λ e. nat_lt serial e.serial) entries
