-- What changes may take away, and what a guest text keeps where nothing of it is taken away.
use Rattle.std.specs.FinMap as map
use Rattle.std.specs.Option.{option_map}
use Rattle.std.specs.Prelude.{◌≡◌, ◌==◌, ◌&&◌, ℕ, Bool, true, false, List, [], ◌∷◌, Some, bytes_eq}
use Rattle.kr_calm.specs.pr_base.Texts.{Text}
use Rattle.law_walks.specs.kr_inode.declared.user.User.{User}
use Rattle.law_walks.specs.kr_inode.declared.user.Right.TheVariants.{Search}
use Rattle.law_walks.specs.kr_tree.declared.place.Host.{Host}
use Rattle.law_walks.specs.kr_tree.declared.place.Host.TheVariants.{Node, Proc}
use Rattle.law_walks.specs.kr_tree.declared.place.ProcAt.{ProcAt}
use Rattle.law_walks.specs.kr_tree.declared.place.ProcAt.TheVariants.{SelfLink, Dir, Cwd, Root, Exe, FdDir, Fd}
use Rattle.law_walks.specs.kr_tree.Names.{named}
use Rattle.law_walks.specs.kr_tree.Rights.{allows}
use Rattle.law_walks.specs.kr_tree.Tree.{Inode, Inodes, Tree, entries_of, entry_named, is_directory}
use Rattle.law_walks.specs.kr_view.Component.{Namespace, is_process_directory, is_processes}
use Rattle.law_walks.specs.kr_view.Laws.{is_link}
use Rattle.law_walks.specs.kr_view.Living.{first}
use Rattle.law_walks.specs.kr_view.View.{Row, row}
use Rattle.law_walks.specs.Settled.{host_text}
use Rattle.law_places.specs.Uses.{Use, has_name}
use Rattle.law_places.specs.Standing.{StandsAs}

-- names of directories that go, directories that give search no more, and processes that are over
pub record Losses : Type 0 where
  pub gone : ℕ → List ℕ → Bool
  pub shut : ℕ → Bool
  pub over : ℕ → Bool

abbrev pub nothing : Losses
nothing = record { gone = λ dir name. false; shut = λ dir. false; over = λ pid. false }

-- one name of one directory; the search of one directory; one process
abbrev pub name_of : ℕ → List ℕ → Losses
name_of dir name = record { gone = λ d n. d == dir && bytes_eq n name; shut = λ d. false; over = λ pid. false }

abbrev pub search_of : ℕ → Losses
search_of dir = record { gone = λ d n. false; shut = λ d. d == dir; over = λ pid. false }

abbrev pub process_of : ℕ → Losses
process_of ended = record { gone = λ d n. false; shut = λ d. false; over = λ pid. pid == ended }

-- ---- what stays

-- an inode that stays: it is of its kind, has each entry whose name isn't gone, and gives search if that isn't lost
pub record InodeStays (user : User) (lost : Losses) (i : ℕ) (x y : Inode) : Type 0 where
  pub directory : is_directory y.node.body ≡ is_directory x.node.body
  pub processes : is_processes y.node.body ≡ is_processes x.node.body
  pub link : is_link y.node.body ≡ is_link x.node.body
  pub search : lost.shut i ≡ false → allows user x.node Search ≡ true → allows user y.node Search ≡ true
  pub entries : (name : List ℕ) (j : ℕ) → option_map (λ e. e.inode) (entry_named name (entries_of x.node.body)) ≡ Some j → lost.gone i name ≡ false → option_map (λ e. e.inode) (entry_named name (entries_of y.node.body)) ≡ Some j

-- of inodes that are in both. That an entry's inode is there is kept by each tree
abbrev pub InodesStay : User → Losses → Inodes → Inodes → Type 0
InodesStay user lost m n = (i : ℕ) (x y : Inode) → map.get m i ≡ Some x → map.get n i ≡ Some y → InodeStays user lost i x y

-- the first process that passes a test is still the first one, if it isn't over
abbrev pub PidsStay : Losses → List ℕ → List ℕ → Type 0
PidsStay lost pids later = (test : ℕ → Bool) (pid : ℕ) → first test pids ≡ Some pid → lost.over pid ≡ false → first test later ≡ Some pid

-- the process to which something in the process directory belongs; `self` belongs to none
abbrev pub pid_of : ProcAt → ℕ
pid_of SelfLink = 0
pid_of (Dir pid) = pid
pid_of (Cwd pid) = pid
pid_of (Root pid) = pid
pid_of (Exe pid) = pid
pid_of (FdDir pid) = pid
pid_of (Fd pid fd) = pid

-- an object from which a walk can go on, and so it can behind what is lost
abbrev pub HostStays : Losses → Host → Type 0
HostStays lost (Node i) = Unit {0}
HostStays lost (Proc i at) = (is_process_directory at ≡ true) × (lost.over (pid_of at) ≡ false)

-- ---- what texts keep

-- no step of a host text is gone
abbrev pub KeepsNames : Losses → Tree → Text → Type 0
KeepsNames lost t [] = Unit {0}
KeepsNames lost t (name ∷ h) = ((d : ℕ) → named t h ≡ Some d → lost.gone d name ≡ false) × KeepsNames lost t h

-- nor is a directory above it shut
abbrev pub KeepsWay : Losses → Tree → Text → Type 0
KeepsWay lost t [] = Unit {0}
KeepsWay lost t (name ∷ h) = ((d : ℕ) → named t h ≡ Some d → (lost.gone d name ≡ false) × (lost.shut d ≡ false)) × KeepsWay lost t h

-- so of the host text of each guest text above one, and that isn't shut itself
abbrev pub KeepsAbove : Losses → Namespace → Text → Type 0
KeepsAbove lost space [] = Unit {0}
KeepsAbove lost space (name ∷ g) =
    KeepsWay lost space.tree (host_text space g) × ((d : ℕ) → named space.tree (host_text space g) ≡ Some d → lost.shut d ≡ false) × KeepsAbove lost space g

-- a table keeps its sources, and the directories of its mount points
pub record KeepsTable (lost : Losses) (space : Namespace) : Type 0 where
  pub sources : (k : ℕ) (r : Row) → row space.table k ≡ Some r → KeepsWay lost space.tree r.text.source
  pub points : (k : ℕ) (r : Row) (name : List ℕ) (up : Text) → row space.table k ≡ Some r → r.text.location ≡ name ∷ up → KeepsNames lost space.tree (host_text space up)

-- a place in use keeps a guest text at which it stands
pub record KeepsGuest (lost : Losses) (space : Namespace) (x : Use) (guest : Text) : Type 0 where
  pub way : KeepsWay lost space.tree (host_text space guest)
  pub above : x.is_directory ≡ true → KeepsAbove lost space guest

pub record KeepsUse (lost : Losses) (space : Namespace) (x : Use) : Type 0 where
  pub host : has_name x ≡ true → HostStays lost x.place.host
  pub guest : has_name x ≡ true → (guest : Text) → StandsAs space x guest → KeepsGuest lost space x guest
