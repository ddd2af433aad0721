-- Rows that open files and enter directories, of what is an inode, bring inodes into use alone.
use Rattle.std.proofs.Common.{◌≡◌, ℕ, Bool, true, false, not, ◌&&◌, ◌||◌, List, [], ◌∷◌, cond, Option, Some, None, refl, ℤ}
use Rattle.std.specs.Prelude.{IfSome}
use Rattle.std.specs.List.{AllByRecursion, list_all}
use Rattle.std.specs.Option.{option_map_or}
use Rattle.std.proofs.lemmas.Bool.{and_parts}
use Rattle.kr_core.specs.pr_base.declared.errno.Errno.TheVariants.{ENOENT, ENOTDIR}
use Rattle.kr_core.specs.rv_mem.Actions.{carried_out}
use Rattle.kr_core.specs.rv_mem.Memory.{Memory}
use Rattle.kr_core.specs.kr_calls.Kinds.{Kind, EntersOpen, EntersPath, OpensOpen, OpensPath}
use Rattle.kr_core.specs.kr_calls.declared.request.Request.{Request}
use Rattle.kr_core.specs.kr_calls.declared.request.Request.TheVariants as call
use Rattle.kr_core.specs.kr_tree.Tree.{Body, Directory, Node, ProcessDirectory, RegularFile, SymbolicLink}
use Rattle.kr_core.specs.kr_tree.declared.place.Host.{Host}
use Rattle.kr_core.specs.kr_tree.declared.place.Host.TheVariants as host
use Rattle.kr_core.specs.kr_tree.declared.place.Place.{Place}
use Rattle.kr_core.specs.kr_tree.Rights.{allows}
use Rattle.kr_core.specs.kr_inode.declared.user.Right.TheVariants.{Read, Search, Write}
use Rattle.kr_core.specs.kr_files.Descriptors.{lowest_free}
use Rattle.kr_core.specs.kr_files.declared.opened.Opened.{Opened}
use Rattle.kr_core.specs.kr_files.declared.opened.What.TheVariants.{Dir, File}
use Rattle.kr_core.specs.kr_model.Asking.{descriptor_number, has_no_room, is_directory_host, is_over, is_searched, of_number, or_closed, writable_body, writable_node}
use Rattle.kr_core.specs.kr_model.Change.{Change, ChangeDirectory, MountOf, OfDescriptor, OfDirectory, OfFound, OpenFile, SetSize}
use Rattle.kr_core.specs.kr_model.ChangeKinds.{kind}
use Rattle.kr_core.specs.kr_model.DirectoryRows.{chdir_row, fchdir_row, if_entered}
use Rattle.kr_core.specs.kr_model.FileRows.{creates, cut_after, excludes, has_rights, make_and_open, open_body, open_directory, open_file, open_found, open_host, open_new, open_under, openat_row, opens_as, truncates, wants_directory, wants_write}
use Rattle.kr_core.specs.kr_model.Known.{Known, known_node}
use Rattle.kr_core.specs.kr_model.Operation.{looked_up, opened, operation}
use Rattle.kr_core.specs.kr_model.Reply.{Replying, done, refuse}
use Rattle.kr_core.specs.kr_model.Seen.{Looked, LooksUp, Opening, Opens, OpensFound, OpensNew, OpensNoName, OpensSlashed, Seen, WalkFails}
use Rattle.kr_core.proofs.kr_model.LineLemmas.{by_line}
use Rattle.kr_core.proofs.law_allowed.RowLemmas.{Allowed, either, ended, reached, unchanged}
use Rattle.law_beside.specs.Opened.{BringsNodes, IsNode}

abbrev pub BringNodes : List Change → Type 0
BringNodes cs = AllByRecursion BringsNodes cs

-- a row each of whose ends brings inodes alone
abbrev Brings : Replying → Type 0
Brings row = Allowed BringNodes true row

-- what is told of a path is an inode, where it is opened or entered
abbrev pub IsNodeOpening : Opening → Type 0
IsNodeOpening (OpensFound l) = IsNode l.host
IsNodeOpening _ = Unit {0}

abbrev pub IsNodeSeen : Seen → Type 0
IsNodeSeen (LooksUp l) = IsNode l.host
IsNodeSeen (Opens o) = IsNodeOpening o
IsNodeSeen _ = Unit {0}

-- ---- calls that bring nothing into use

abbrev brings_none : Kind → Bool
brings_none OpensPath = false
brings_none OpensOpen = false
brings_none EntersPath = false
brings_none EntersOpen = false
brings_none _ = true

abbrev is_placeless : Change → Bool
is_placeless (OpenFile fd cloexec from o) = false
is_placeless (ChangeDirectory from host) = false
is_placeless _ = true

placeless : (c : Change) → brings_none (kind c) ≡ true → is_placeless c ≡ true
placeless (OpenFile fd cloexec OfFound o) none = absurd cc
placeless (OpenFile fd cloexec OfDirectory o) none = absurd cc
placeless (OpenFile fd cloexec (OfDescriptor n) o) none = absurd cc
placeless (ChangeDirectory OfFound host) none = absurd cc
placeless (ChangeDirectory OfDirectory host) none = absurd cc
placeless (ChangeDirectory (OfDescriptor n) host) none = absurd cc
placeless _ none = refl

placeless-brings : (c : Change) → is_placeless c ≡ true → BringsNodes c
placeless-brings (OpenFile fd cloexec from o) none = absurd cc
placeless-brings (ChangeDirectory from host) none = absurd cc
placeless-brings _ none = tt

pub placeless-bring : (cs : List Change) → list_all is_placeless cs ≡ true → BringNodes cs
placeless-bring [] none = tt
placeless-bring (c ∷ cs) none = let parts = and_parts (is_placeless c) (list_all is_placeless cs) none in (placeless-brings c parts.0, placeless-bring cs parts.1)

-- ---- opening

module _ (k : Known) where
  under : (flags : ℕ) (from : MountOf) (o : Opened (Unit {0})) (after : List Change) → IfSome o.place (λ p. IsNode p.host) → BringNodes after → (fd : Option ℕ) → Brings (open_under flags from o after fd)
  under flags from o after node more None = unchanged
  under flags from o after node more (Some fd) = ended (node, more)

  directory : (flags : ℕ) (at : Host) (readable : Bool) → IsNode at → Brings (open_directory k flags at readable)
  directory flags at readable node =
      either (wants_write flags || creates flags || truncates flags) (λ _. unchanged)
      (λ _. either (not readable) (λ _. unchanged) (λ _. under flags OfFound (opens_as Dir at 0 [] flags) [] node tt (lowest_free k.caller.descs 0)))

  cut-brings : (flags i : ℕ) → BringNodes (cut_after flags i)
  cut-brings flags i = by (truncates flags)
    where
      by : (b : Bool) → BringNodes (cond b (SetSize i 0 ∷ []) [])
      by true = (tt, tt)
      by false = tt

  file : (flags i : ℕ) (n : Node) (dir : ℕ) (name : List ℕ) → Brings (open_file k flags i n dir name)
  file flags i n dir name =
      either (wants_directory flags) (λ _. unchanged)
      (λ _. either (not (has_rights k n flags)) (λ _. unchanged)
      (λ _. under flags OfFound (opens_as File (host.Node i) dir name flags) (cut_after flags i) (i, refl) (cut-brings flags i) (lowest_free k.caller.descs 0)))

  body-opened : (flags : ℕ) (l : Looked) (i : ℕ) (n : Node) (body : Body) → Brings (open_body k flags l i n body)
  body-opened flags l i n (Directory entries standing) = directory flags (host.Node i) (allows k.user n Read) (i, refl)
  body-opened flags l i n (ProcessDirectory standing) = directory flags (host.Node i) (allows k.user n Read) (i, refl)
  body-opened flags l i n (SymbolicLink text) = unchanged
  body-opened flags l i n (RegularFile bytes) = file flags i n (option_map_or (λ e. e.0) l.entry 0) (option_map_or (λ e. e.1) l.entry [])

  host-opened : (flags : ℕ) (l : Looked) (at : Host) → IsNode at → Brings (open_host k flags l at)
  host-opened flags l (host.Node i) node = by (known_node k i)
    where
      by : (o : Option Node) → Brings (option_map_or (λ n. open_body k flags l i n n.body) o (refuse ENOENT))
      by None = unchanged
      by (Some n) = body-opened flags l i n n.body
  host-opened flags l (host.Proc i at) node = absurd (let no : host.Proc i at ≡ host.Node node.0 = node.1 in cc)

  found-opened : (flags : ℕ) (l : Looked) → IsNode l.host → Brings (open_found k flags l)
  found-opened flags l node = either (creates flags && excludes flags) (λ _. unchanged) (λ _. host-opened flags l l.host node)

  made-opened : (flags mode d : ℕ) (name : List ℕ) (fd : Option ℕ) → Brings (make_and_open k flags mode d name fd)
  made-opened flags mode d name None = unchanged
  made-opened flags mode d name (Some fd) = either (has_no_room 0 k) (λ _. unchanged) (λ _. ended (tt, ((k.sizes.next, refl), tt)))

  body-writable : (n : Node) (body : Body) (next : Replying) → Brings next → Brings (writable_body k n body next)
  body-writable n (Directory entries None) next brings = unchanged
  body-writable n (Directory entries (Some standing)) next brings = either (allows k.user n Write && allows k.user n Search) (λ _. brings) (λ _. unchanged)
  body-writable n (RegularFile bytes) next brings = unchanged
  body-writable n (SymbolicLink text) next brings = unchanged
  body-writable n (ProcessDirectory standing) next brings = unchanged

  node-writable : (o : Option Node) (next : Node → Replying) → ((n : Node) → Brings (next n)) → Brings (writable_node k o next)
  node-writable None next brings = unchanged
  node-writable (Some n) next brings = body-writable n n.body (next n) (brings n)

  new-opened : (flags mode : ℕ) (dir : Host) (name : List ℕ) → Brings (open_new k flags mode dir name)
  new-opened flags mode (host.Node i) name = node-writable (known_node k i) _ (λ n. made-opened flags mode i name (lowest_free k.caller.descs 0))
  new-opened flags mode (host.Proc i at) name = either (is_over k at) (λ _. unchanged) (λ _. unchanged)

  openat : (o : Opening) (flags mode : ℕ) → IsNodeOpening o → Brings (openat_row k o flags mode)
  openat (OpensNoName last) flags mode node = unchanged
  openat OpensSlashed flags mode node = unchanged
  openat (OpensFound l) flags mode node = found-opened flags l node
  openat (OpensNew dir name) flags mode node = new-opened flags mode dir name

  opened-seen : (seen : Seen) (flags mode : ℕ) → IsNodeSeen seen → Brings (opened seen (λ o. openat_row k o flags mode))
  opened-seen (Opens o) flags mode node = openat o flags mode node
  opened-seen (WalkFails e) flags mode node = unchanged
  opened-seen _ flags mode node = unchanged

  -- ---- entering

  enters : (at : Host) (from : MountOf) → IsNode at → Brings (if_entered k at (done 0 (ChangeDirectory from at ∷ [])))
  enters at from node = either (not (is_directory_host k at)) (λ _. unchanged) (λ _. either (not (is_searched k at)) (λ _. unchanged) (λ _. ended (node, tt)))

  looked-seen : (seen : Seen) → IsNodeSeen seen → Brings (looked_up seen (λ l. chdir_row k l))
  looked-seen (LooksUp l) node = enters l.host OfFound node
  looked-seen (WalkFails e) node = unchanged
  looked-seen _ node = unchanged

  -- each open file of the caller is at an inode, where it has a place
  abbrev pub OpenAtNodes : Type 0
  OpenAtNodes = (n : ℕ) (o : Opened (Unit {0})) → k.opened n ≡ Some o → IfSome o.place (λ p. IsNode p.host)

  abbrev entered_by : ℕ → Opened (Unit {0}) → Replying
  entered_by n o = option_map_or (λ p. if_entered k p.host (done 0 (ChangeDirectory (OfDescriptor n) p.host ∷ []))) o.place (refuse ENOTDIR)

  open-entered : (n : ℕ) (o : Opened (Unit {0})) → IfSome o.place (λ p. IsNode p.host) → Brings (entered_by n o)
  open-entered n o node = by o.place node
    where
      by : (p : Option (Place (Unit {0}))) → IfSome p (λ p. IsNode p.host) → Brings (option_map_or (λ p. if_entered k p.host (done 0 (ChangeDirectory (OfDescriptor n) p.host ∷ []))) p (refuse ENOTDIR))
      by None node = unchanged
      by (Some p) node = enters p.host (OfDescriptor n) node

  fchdir : (fd : ℤ) → OpenAtNodes → Brings (fchdir_row k fd)
  fchdir fd nodes = number (descriptor_number fd)
    where
      closed_or : (n : ℕ) (o : Option (Opened (Unit {0}))) → k.opened n ≡ o → Brings (or_closed o (entered_by n))
      closed_or n None at = unchanged
      closed_or n (Some o) at = open-entered n o (nodes n o at)

      number : (n : Option ℕ) → Brings (of_number k n entered_by)
      number None = unchanged
      number (Some n) = closed_or n (k.opened n) refl

-- ---- all rows

-- what a row rests on
abbrev pub RestsOnNodes : Request → Seen → Known → Type 0
RestsOnNodes (call.Openat dirfd path flags mode) seen k = IsNodeSeen seen
RestsOnNodes (call.Chdir path) seen k = IsNodeSeen seen
RestsOnNodes (call.Fchdir fd) seen k = OpenAtNodes k
RestsOnNodes _ seen k = Unit {0}

pub rows-bring : (pid : ℕ) (r : Request) (seen : Seen) (k : Known) (m : Memory) → RestsOnNodes r seen k → BringNodes (carried_out (operation pid r seen k) m).reply.changes
rows-bring pid (call.Openat dirfd path flags mode) seen k m rests = reached tt true (opened seen (λ o. openat_row k o flags mode)) (opened-seen k seen flags mode rests) m (λ e. absurd cc)
rows-bring pid (call.Chdir path) seen k m rests = reached tt true (looked_up seen (λ l. chdir_row k l)) (looked-seen k seen rests) m (λ e. absurd cc)
rows-bring pid (call.Fchdir fd) seen k m rests = reached tt true (fchdir_row k fd) (fchdir k fd rests) m (λ e. absurd cc)
rows-bring pid r seen k m rests = placeless-bring (carried_out (operation pid r seen k) m).reply.changes (by_line brings_none is_placeless placeless pid r seen k m refl)
