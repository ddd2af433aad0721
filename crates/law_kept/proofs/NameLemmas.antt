-- The guest names of places, and the texts of links, are of bytes where trees, tables and what is remembered are.
use Rattle.std.proofs.Common.{◌≡◌, ℕ, zero, suc, Bool, true, false, List, [], ◌∷◌, ◌++◌, cond, refl, arith, Option, Some, None}
use Rattle.std.specs.Prelude.{IfSome, codes, length, nat_eq, ◌==◌}
use Rattle.std.specs.List.{AllByRecursion}
use Rattle.std.specs.Option.{option_and_then, option_map, option_map_or}
use Rattle.kr_first.specs.pr_base.Paths.{below_root, slash, text_of}
use Rattle.kr_first.specs.pr_base.Texts.{Text, below, names_below, texts_eq}
use Rattle.kr_first.specs.kr_inode.declared.standing.Standing.{Standing}
use Rattle.kr_first.specs.kr_tree.Lawful.{AreBytes, HasBytes as TreeHasBytes, IsOfBytes}
use Rattle.kr_first.specs.kr_tree.Names.{host_name, host_name_within, process_names, step_up}
use Rattle.kr_first.specs.kr_tree.Tree.{Body, Directory, Entry, Inode, ProcessDirectory, RegularFile, SymbolicLink, Tree, body_is, entries, entries_of, entry_at, inode, is_directory, root, standing}
use Rattle.kr_first.specs.kr_tree.declared.place.Host.{Host}
use Rattle.kr_first.specs.kr_tree.declared.place.Host.TheVariants.{Node, Proc}
use Rattle.kr_first.specs.kr_tree.declared.place.Place.{Place}
use Rattle.kr_first.specs.kr_tree.declared.place.ProcAt.{ProcAt}
use Rattle.kr_first.specs.kr_tree.declared.place.ProcAt.TheVariants.{Cwd, Dir, Exe, Fd, FdDir, Root, SelfLink}
use Rattle.kr_first.specs.kr_view.Component.{Namespace, is_process_directory, is_shown}
use Rattle.kr_first.specs.kr_view.Names.{Remembered, guest_below, guest_directory, guest_entry, guest_name, guest_node, guest_object, guest_process, guest_source, is_file_source, names_down, process_name, process_object_name, shown_process_name}
use Rattle.kr_first.specs.kr_view.View.{Row, row}
use Rattle.kr_first.specs.kr_model.ProcessDirectory.{name_text, remembered}
use Rattle.kr_first.proofs.law_allowed.PieceLemmas.{all-append}
use Rattle.law_kept.specs.Bytes.{AreAllBytes, TableHasBytes}
use Rattle.law_kept.proofs.ListLemmas.{all-found, bytes-tested, decimal-bytes, joined}

-- ---- what may be there

module _ {A B : Type 0} (P : A → Type 0) (Q : B → Type 0) where
  pub if-mapped : (f : A → B) (o : Option A) → ((x : A) → P x → Q (f x)) → IfSome o P → IfSome (option_map f o) Q
  if-mapped f None keeps is = tt
  if-mapped f (Some x) keeps is = keeps x is

  pub if-then : (f : A → Option B) (o : Option A) → ((x : A) → P x → IfSome (f x) Q) → IfSome o P → IfSome (option_and_then f o) Q
  if-then f None keeps is = tt
  if-then f (Some x) keeps is = keeps x is

-- a text of names, if there is one
abbrev pub IsByteText : Option Text → Type 0
IsByteText o = IfSome o AreAllBytes

either-text : (b : Bool) (x y : Option Text) → IsByteText x → IsByteText y → IsByteText (cond b x y)
either-text true x y first second = first
either-text false x y first second = second

pub below-bytes : (name : List ℕ) (o : Option Text) → AreBytes name → IsByteText o → IsByteText (below name o)
below-bytes name o are is = if-mapped AreAllBytes AreAllBytes (λ names. name ∷ names) o (λ names own. (are, own)) is

pub names-joined : (one two : Text) → AreAllBytes one → AreAllBytes two → AreAllBytes (one ++ two)
names-joined one two first second = all-append AreBytes one two first second

pub names-below-bytes : (top text : Text) → AreAllBytes text → IsByteText (names_below top text)
names-below-bytes top [] are = either-text (texts_eq top []) (Some []) None tt tt
names-below-bytes top (name ∷ names) are =
    either-text (texts_eq top (name ∷ names)) (Some []) (below name (names_below top names)) tt (below-bytes name (names_below top names) are.0 (names-below-bytes top names are.1))

-- the bytes of a text
pub root-bytes : (names : Text) → AreAllBytes names → AreBytes (below_root names)
root-bytes [] are = tt
root-bytes (name ∷ names) are = joined (below_root names) (slash ∷ name) (root-bytes names are.1) (omega arith, are.0)

pub text-bytes : (names : Text) → AreAllBytes names → AreBytes (text_of names)
text-bytes [] are = (omega arith, tt)
text-bytes (name ∷ names) are = root-bytes (name ∷ names) are

-- ---- names in a tree

module _ (t : Tree) (has : TreeHasBytes t) where
  pub entries-bytes : (dir : ℕ) → AllByRecursion (λ e. AreBytes e.name) (entries t dir)
  entries-bytes dir = by (inode t dir) refl
    where
      kind : (b : Body) → IsOfBytes b → AllByRecursion (λ e. AreBytes e.name) (entries_of b)
      kind (Directory es s) are = are
      kind (RegularFile bytes) are = tt
      kind (SymbolicLink text) are = tt
      kind (ProcessDirectory s) are = tt

      by : (o : Option Inode) → inode t dir ≡ o → AllByRecursion (λ e. AreBytes e.name) (option_map_or (λ (x : Inode). entries_of x.node.body) o [])
      by None is = tt
      by (Some x) is = kind x.node.body (has dir x is)

  -- a name and the directory in which it stands, if there is one
  abbrev IsByteStep : Option (List ℕ × ℕ) → Type 0
  IsByteStep o = IfSome o (λ up. AreBytes up.0)

  entry-found : (s : Standing) (o : Option Entry) → entry_at s.serial (entries t s.inode) ≡ o → IsByteStep (option_map (λ (e : Entry). (e.name, s.inode)) o)
  entry-found s None is = tt
  entry-found s (Some e) is = all-found (λ (e : Entry). AreBytes e.name) (λ (e : Entry). nat_eq s.serial e.serial) (entries t s.inode) e (entries-bytes s.inode) is

  step-bytes : (dir : ℕ) → IsByteStep (step_up t dir)
  step-bytes dir = by (standing t dir)
    where
      by : (o : Option Standing) → IsByteStep (option_and_then (λ (s : Standing). option_map (λ (e : Entry). (e.name, s.inode)) (entry_at s.serial (entries t s.inode))) o)
      by None = tt
      by (Some s) = entry-found s (entry_at s.serial (entries t s.inode)) refl

  within-bytes : (n dir : ℕ) → IsByteText (host_name_within n t dir)
  unfolding host_name_within
  within-bytes zero dir = tt
  within-bytes (suc n) dir =
      either-text (nat_eq dir root) (Some []) (option_and_then (λ up. option_map (λ text. up.0 ∷ text) (host_name_within n t up.1)) (step_up t dir)) tt
      (if-then (λ (up : List ℕ × ℕ). AreBytes up.0) AreAllBytes (λ up. option_map (λ text. up.0 ∷ text) (host_name_within n t up.1)) (step_up t dir)
      (λ up are. if-mapped AreAllBytes AreAllBytes (λ text. up.0 ∷ text) (host_name_within n t up.1) (λ text own. (are, own)) (within-bytes n up.1)) (step-bytes dir))

  host-name-bytes : (dir : ℕ) → IsByteText (host_name t dir)
  host-name-bytes dir = within-bytes t.next dir

  down-bytes : (top dir : ℕ) → IsByteText (names_down t top dir)
  down-bytes top dir =
      if-then AreAllBytes AreAllBytes (λ high. option_and_then (names_below high) (host_name t dir)) (host_name t top)
      (λ high own. if-then AreAllBytes AreAllBytes (names_below high) (host_name t dir) (λ text are. names-below-bytes high text are) (host-name-bytes dir)) (host-name-bytes top)

-- the names of what stands in the process directory
pub process-names-bytes : (at : ProcAt) → AreAllBytes (process_names at)
process-names-bytes SelfLink = (bytes-tested (codes "self") refl, tt)
process-names-bytes (Dir pid) = (decimal-bytes pid, tt)
process-names-bytes (Cwd pid) = (bytes-tested (codes "cwd") refl, (decimal-bytes pid, tt))
process-names-bytes (Root pid) = (bytes-tested (codes "root") refl, (decimal-bytes pid, tt))
process-names-bytes (Exe pid) = (bytes-tested (codes "exe") refl, (decimal-bytes pid, tt))
process-names-bytes (FdDir pid) = (bytes-tested (codes "fd") refl, (decimal-bytes pid, tt))
process-names-bytes (Fd pid fd) = (decimal-bytes fd, (bytes-tested (codes "fd") refl, (decimal-bytes pid, tt)))

process-name-bytes : (at : ProcAt) (top : Option Text) → IsByteText top → IsByteText (process_name at top)
process-name-bytes at top is = if-mapped AreAllBytes AreAllBytes (λ names. process_names at ++ names) top (λ names own. names-joined (process_names at) names (process-names-bytes at) own) is

-- ---- guest names

-- the entry that an object remembers
abbrev pub IsRemembered : Remembered → Type 0
IsRemembered o = IfSome o (λ e. AreBytes e.1)

pub remembered-bytes : (dir : ℕ) (name : List ℕ) → AreBytes name → IsRemembered (remembered dir name)
remembered-bytes dir name are = by (length name == 0)
  where
    by : (b : Bool) → IsRemembered (cond b None (Some (dir, name)))
    by true = tt
    by false = are

module _ (space : Namespace) (has : TreeHasBytes space.tree) (table : TableHasBytes space.table) where
  -- a row of the table, if there is one
  abbrev IsOfTable : Option Row → Type 0
  IsOfTable o = IfSome o (λ r. AreAllBytes r.text.location)

  row-bytes : (mount : ℕ) → IsOfTable (row space.table mount)
  row-bytes mount = by (row space.table mount) refl
    where
      by : (o : Option Row) → row space.table mount ≡ o → IsOfTable o
      by None is = tt
      by (Some r) is = table.locations mount r is

  shown-bytes : (pid : ℕ) (at : ProcAt) (top : Option Text) → IsByteText top → IsByteText (shown_process_name space pid at top)
  shown-bytes pid at top is = either-text (is_shown space pid) (process_name at top) None (process-name-bytes at top is) tt

  object-bytes : (at : ProcAt) (top : Option Text) → IsByteText top → IsByteText (process_object_name space at top)
  object-bytes SelfLink top is = process-name-bytes SelfLink top is
  object-bytes (Dir pid) top is = shown-bytes pid (Dir pid) top is
  object-bytes (Cwd pid) top is = process-name-bytes (Cwd pid) top is
  object-bytes (Root pid) top is = process-name-bytes (Root pid) top is
  object-bytes (Exe pid) top is = process-name-bytes (Exe pid) top is
  object-bytes (FdDir pid) top is = shown-bytes pid (FdDir pid) top is
  object-bytes (Fd pid fd) top is = process-name-bytes (Fd pid fd) top is

  directory-bytes : (r : Option Row) (i : ℕ) → IsOfTable r → IsByteText (guest_directory space.tree r i)
  directory-bytes None i are = tt
  directory-bytes (Some r) i are =
      if-mapped AreAllBytes AreAllBytes (λ names. names ++ r.text.location) (names_down space.tree r.source i) (λ names own. names-joined names r.text.location own are) (down-bytes space.tree has r.source i)

  entry-bytes : (r : Option Row) (o : Remembered) → IsOfTable r → IsRemembered o → IsByteText (guest_entry space.tree r o)
  entry-bytes r None are own = tt
  entry-bytes r (Some e) are own = below-bytes e.1 (guest_directory space.tree r e.0) own (directory-bytes r e.0 are)

  below-source-bytes : (r : Option Row) (i : ℕ) (o : Remembered) → IsOfTable r → IsRemembered o → IsByteText (guest_below space.tree r i o)
  below-source-bytes r i o are own = either-text (body_is is_directory space.tree i) (guest_directory space.tree r i) (guest_entry space.tree r o) (directory-bytes r i are) (entry-bytes r o are own)

  source-name-bytes : (r : Option Row) (o : Remembered) → IsOfTable r → IsByteText (guest_source r o)
  source-name-bytes r None are = tt
  source-name-bytes r (Some e) are = if-mapped (λ (r : Row). AreAllBytes r.text.location) AreAllBytes (λ r. r.text.location) r (λ r is. is) are

  node-name-bytes : (r : Option Row) (i : ℕ) (o : Remembered) → IsOfTable r → IsRemembered o → IsByteText (guest_node space.tree r i o)
  node-name-bytes r i o are own =
      either-text (is_file_source r i) (guest_source r o) (guest_below space.tree r i o)
      (source-name-bytes r o are) (below-source-bytes r i o are own)

  process-guest-bytes : (r : Option Row) (i : ℕ) (at : ProcAt) (o : Remembered) → IsOfTable r → IsRemembered o → IsByteText (guest_process space r i at o)
  process-guest-bytes r i at o are own =
      either-text (is_process_directory at) (process_object_name space at (guest_directory space.tree r i)) (guest_entry space.tree r o)
      (object-bytes at (guest_directory space.tree r i) (directory-bytes r i are)) (entry-bytes r o are own)

  guest-object-bytes : (r : Option Row) (h : Host) (o : Remembered) → IsOfTable r → IsRemembered o → IsByteText (guest_object space r h o)
  guest-object-bytes r (Node i) o are own = node-name-bytes r i o are own
  guest-object-bytes r (Proc i at) o are own = process-guest-bytes r i at o are own

  -- the bytes of the guest name of a place
  pub name-text-bytes : (p : Place ℕ) (dir : ℕ) (name : List ℕ) → AreBytes name → IfSome (name_text space p dir name) AreBytes
  name-text-bytes p dir name are =
      if-mapped AreAllBytes AreBytes text_of (guest_name space p (remembered dir name)) text-bytes
      (guest-object-bytes (row space.table p.mount) p.host (remembered dir name) (row-bytes p.mount) (remembered-bytes dir name are))
