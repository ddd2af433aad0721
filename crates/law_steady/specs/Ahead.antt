-- Whether a call alters the shape of the tree, and the bytes of files, told before it is carried out: it does where it answers a number, and a call that
-- answers an error, waits or ends its caller alters neither. Of a write the bytes aren't told ahead, but by its own changes.
use Rattle.std.specs.Prelude.{◌≡◌, ℕ, ◌%◌, ◌==◌, ◌&&◌, Bool, true, false, List, [], ◌∷◌, ℤ, pos, negsuc, if◌then◌else◌}
use Rattle.std.specs.List.{list_any}
use Rattle.std.specs.Option.{option_and_then, option_map_or}
use Rattle.law_lawful.specs.rv_mem.Actions.{carried_out}
use Rattle.law_lawful.specs.rv_mem.Memory.{Memory}
use Rattle.law_lawful.specs.kr_calls.declared.request.Request.{Request}
use Rattle.law_lawful.specs.kr_calls.declared.request.Request.TheVariants as call
use Rattle.law_lawful.specs.kr_files.declared.opened.Opened.{Opened}
use Rattle.law_lawful.specs.kr_tree.Tree.{Node, Tree}
use Rattle.law_lawful.specs.kr_tree.declared.place.Host.{Host}
use Rattle.law_lawful.specs.kr_tree.declared.place.Host.TheVariants as host
use Rattle.law_lawful.specs.kr_model.Applied.{Mounts}
use Rattle.law_lawful.specs.kr_model.Asking.{descriptor_number, is_working_directory}
use Rattle.law_lawful.specs.kr_model.AttributeRows.{or_old, unchanged}
use Rattle.law_lawful.specs.kr_model.Change.{MoveName, SetMode, SetOwner, SetSize}
use Rattle.law_lawful.specs.kr_model.FileRows.{inode_of_open, truncates}
use Rattle.law_lawful.specs.kr_model.Known.{Known, known_node}
use Rattle.law_lawful.specs.kr_model.NameRows.{is_one}
use Rattle.law_lawful.specs.kr_model.Operation.{IsNoExec, operation}
use Rattle.law_lawful.specs.kr_model.Seen.{Entered, LooksUp, Moves, Opening, Opens, OpensFound, OpensNew, Seen, Taken, Takes}
use Rattle.law_lawful.specs.kr_model.State.{Image, State}
use Rattle.law_lawful.specs.kr_model.declared.outcome.Outcome.{Outcome}
use Rattle.law_lawful.specs.kr_model.declared.outcome.Outcome.TheVariants.{Answer, Wait, Ended, NoMemory}
use Rattle.law_steady.specs.Along.{passes_along}
use Rattle.law_steady.specs.Bytes.{alters_bytes_of}
use Rattle.law_steady.specs.Calls.{replied}
use Rattle.law_steady.specs.Exact.{alters_shape_of}

-- whether a number was answered, and no error
abbrev pub is_answered : Outcome → Bool
is_answered (Answer (pos n)) = true
is_answered (Answer (negsuc n)) = false
is_answered Wait = false
is_answered Ended = false
is_answered NoMemory = false

-- a call that isn't write(2) or writev(2)
abbrev pub IsNoWrite : Request → Type 0
IsNoWrite (call.Write fd buf n) = ⊥
IsNoWrite (call.Writev fd list count) = ⊥
IsNoWrite _ = Unit {0}

-- one that is
abbrev pub IsWrite : Request → Type 0
IsWrite (call.Write fd buf n) = Unit {0}
IsWrite (call.Writev fd list count) = Unit {0}
IsWrite _ = ⊥

-- of what is open under a descriptor
abbrev pub of_open : Known → ℤ → (Opened (Unit {0}) → Bool) → Bool
of_open k fd test = option_map_or test (option_and_then k.opened (descriptor_number fd)) false

-- of what has a place; a pipe and the console have none
abbrev pub of_place : (Host → Bool) → Opened (Unit {0}) → Bool
of_place test o = option_map_or (λ p. test p.host) o.place false

-- of what a path is told to lead to
abbrev pub seen_opening : (Opening → Bool) → Seen → Bool
seen_opening test (Opens o) = test o
seen_opening test _ = false

abbrev pub seen_looked : (Host → Bool) → Seen → Bool
seen_looked test (LooksUp l) = test l.host
seen_looked test _ = false

-- an empty path stands for what is here
abbrev pub unless_empty : List ℕ → Bool → Bool → Bool
unless_empty [] here there = here
unless_empty (b ∷ path) here there = there

-- a new file is made
abbrev pub makes_file : Opening → Bool
makes_file (OpensNew dir name) = true
makes_file _ = false

module _ (t : Tree) where
  -- ---- modes and owners

  abbrev pub mode_alters : ℕ → Host → Bool
  mode_alters mode (host.Node i) = alters_shape_of t (SetMode i (mode % 4096))
  mode_alters mode (host.Proc i at) = false

  -- where both numbers are left, none is set
  abbrev pub node_owner_alters : (uid gid : ℕ) → ℕ → Node → Bool
  node_owner_alters uid gid i n = if uid == unchanged && gid == unchanged then false else alters_shape_of t (SetOwner i (or_old uid n.uid) (or_old gid n.gid))

  abbrev pub owner_alters : Known → (uid gid : ℕ) → Host → Bool
  owner_alters k uid gid (host.Node i) = option_map_or (node_owner_alters uid gid i) (known_node k i) false
  owner_alters k uid gid (host.Proc i at) = false

  -- ---- names that move

  abbrev pub move_alters : Host → List ℕ → Host → List ℕ → Bool
  move_alters (host.Node d) name (host.Node to) new = alters_shape_of t (MoveName d name to new)
  move_alters _ name _ new = false

  -- two names of one object are left as they are
  abbrev pub entry_alters : Entered → Entered → Host → Bool
  entry_alters old new found = if is_one found new.found then false else move_alters old.dir old.name new.dir new.name

  abbrev pub rename_alters : Taken → Taken → Bool
  rename_alters (Takes old) (Takes new) = option_map_or (entry_alters old new) old.found false
  rename_alters _ _ = false

  -- ---- sizes

  abbrev pub size_alters : ℕ → ℕ → Bool
  size_alters size i = alters_bytes_of t (SetSize i size)

  -- a file that is there is cut
  abbrev pub host_is_cut : Host → Bool
  host_is_cut (host.Node i) = size_alters 0 i
  host_is_cut (host.Proc i at) = false

  abbrev pub cuts_file : ℕ → Opening → Bool
  cuts_file flags (OpensFound l) = truncates flags && host_is_cut l.host
  cuts_file flags _ = false

  -- ---- calls, of what they are told of their paths

  abbrev pub seen_moved : Seen → Bool
  seen_moved (Moves old new same_mount) = rename_alters old new
  seen_moved _ = false

  -- of a descriptor, or of the working directory
  abbrev pub owner_here : Known → ℤ → (uid gid : ℕ) → Bool
  owner_here k dirfd uid gid =
      if is_working_directory dirfd then owner_alters k uid gid k.caller.cwd else of_open k dirfd (of_place (owner_alters k uid gid))

  abbrev pub shape_ahead : Request → Seen → Known → Bool
  shape_ahead (call.Mkdirat dirfd path permissions) seen k = true
  shape_ahead (call.Symlinkat text dirfd path) seen k = true
  shape_ahead (call.Linkat olddir old newdir new flags) seen k = true
  shape_ahead (call.Unlinkat dirfd path flags) seen k = true
  shape_ahead (call.Renameat2 olddir old newdir new) seen k = seen_moved seen
  shape_ahead (call.Openat dirfd path flags permissions) seen k = seen_opening makes_file seen
  shape_ahead (call.Fchmod fd permissions) seen k = of_open k fd (of_place (mode_alters permissions))
  shape_ahead (call.Fchmodat dirfd path permissions) seen k = seen_looked (mode_alters permissions) seen
  shape_ahead (call.Fchown fd uid gid) seen k = of_open k fd (of_place (owner_alters k uid gid))
  shape_ahead (call.Fchownat dirfd path uid gid flags) seen k = unless_empty path (owner_here k dirfd uid gid) (seen_looked (owner_alters k uid gid) seen)
  shape_ahead _ seen k = false

  abbrev pub bytes_ahead : Request → Seen → Known → Bool
  bytes_ahead (call.Openat dirfd path flags permissions) seen k = seen_opening (cuts_file flags) seen
  bytes_ahead (call.Ftruncate fd len) seen k = of_open k fd (λ o. size_alters len (inode_of_open o))
  bytes_ahead _ seen k = false

-- ---- laws

-- what is told is what the changes of the call do, one behind the other, from each state with that tree
pub record IsForetold {M : Type 0} (mounts : Mounts M) (pid : ℕ) (s : State M Image) (r : Request) (seen : Seen) (k : Known) (m : Memory) : Type 0 where
  pub shape : passes_along alters_shape_of mounts pid s (replied pid r seen k m) ≡ (is_answered (carried_out (operation pid r seen k) m).reply.outcome && shape_ahead s.tree r seen k)
  pub bytes : IsNoWrite r → passes_along alters_bytes_of mounts pid s (replied pid r seen k m) ≡ (is_answered (carried_out (operation pid r seen k) m).reply.outcome && bytes_ahead s.tree r seen k)

abbrev pub CallsAreForetold : Type 0 → Type 0
CallsAreForetold M = (mounts : Mounts M) (pid : ℕ) (s : State M Image) (r : Request) (seen : Seen) (k : Known) (m : Memory) → IsNoExec r → IsForetold mounts pid s r seen k m

-- of a write the bytes are told by its own changes: they alter some where one of them does on the tree that was there before them all
abbrev pub WritesAreFound : Type 0 → Type 0
WritesAreFound M =
    (mounts : Mounts M) (pid : ℕ) (s : State M Image) (r : Request) (seen : Seen) (k : Known) (m : Memory) → IsWrite r
    → passes_along alters_bytes_of mounts pid s (replied pid r seen k m) ≡ list_any (alters_bytes_of s.tree) (replied pid r seen k m)
