-- What holds of every state that a view's mounts see, whatever calls were made. Machines name mounts in their own way;
-- `number` says which row of the view's table a mount is.
use Rattle.std.specs.FinMap as map
use Rattle.std.specs.Prelude.{◌≡◌, ◌≢◌, ℕ, suc, ◌+◌, ◌≤◌, ◌<◌, Bool, true, false, List, [], ◌∷◌, length, map as map_list, ◌==◌, Some, IsSome}
use Rattle.std.specs.List.{list_any}
use Rattle.kr_calls.specs.pr_base.Paths.{IsName}
use Rattle.kr_calls.specs.rv_mem.Pages.{IsWhole, IsPlaced}
use Rattle.kr_files.specs.kr_tree.Tree.{Tree, body_is, is_file}
use Rattle.kr_files.specs.kr_tree.Lawful.{IsKept}
use Rattle.kr_files.specs.kr_tree.declared.place.Host.{Host}
use Rattle.kr_files.specs.kr_tree.declared.place.Host.TheVariants.{Node, Proc}
use Rattle.kr_files.specs.kr_tree.declared.place.Place.{Place}
use Rattle.kr_procfs.specs.kr_view.View.{Row, is_there, StandsIn}
use Rattle.kr_procfs.specs.kr_view.Component.{is_directory_at}
use Rattle.kr_procfs.specs.kr_view.InTree.{IsPlaceOf}
use Rattle.kr_procfs.specs.kr_view.Leads.{numbered}
use Rattle.kr_files.specs.declared.opened.Opened.{Opened}
use Rattle.kr_files.specs.declared.opened.What.TheVariants.{PipeRead, PipeWrite}
use Rattle.kr_files.specs.Descriptors.{Named}
use Rattle.kr_files.specs.Files.{Table, Counted, file_at}
use Rattle.kr_model.specs.Bare.{pins_of}
use Rattle.kr_model.specs.FileRows.{is_dir, is_file_open}
use Rattle.kr_model.specs.Known.{pages_in_all}
use Rattle.kr_model.specs.MemoryRows.{pages_end, process_pages, all_pages}
use Rattle.kr_model.specs.ProcessRows.{most_processes}
use Rattle.kr_model.specs.State.{Image, image_layout, Process, State, process, named}
use Rattle.kr_model.specs.Uses.{AreUses}

abbrev pub is_file_at : Tree → Host → Bool
is_file_at t (Node i) = body_is is_file t i
is_file_at t (Proc i at) = false

-- an entry that is remembered has a well-formed name; an empty one remembers nothing
abbrev pub IsNameOrNone : List ℕ → Type 0
IsNameOrNone name = name ≢ [] → IsName name

-- ---- open files

-- an open file has a place exactly where it is a file or directory of the view in the tree, and then one of that kind
pub record IsOpenIn {M : Type 0} (number : M → ℕ) (t : Tree) (table : List Row) (o : Opened M) : Type 0 where
  pub placed : (p : Place M) → o.place ≡ Some p → IsPlaceOf t table (numbered number p) × (is_directory_at t p.host ≡ is_dir o.what) × (is_file_at t p.host ≡ is_file_open o.what)
  pub files : is_file_open o.what ≡ true → is_there o.place ≡ true
  pub directories : is_dir o.what ≡ true → (is_there o.place ≡ true) × (o.dir ≡ 0) × (o.name ≡ [])
  pub others : is_file_open o.what ≡ false → is_dir o.what ≡ false → is_there o.place ≡ false
  pub name : IsNameOrNone o.name

-- numbers are drawn in order; each end of a pipe has its pipe, and no other open file is that end
pub record HasPipes {M : Type 0} (files : Table M) : Type 0 where
  pub numbered : (p : ℕ) → IsSome (map.get files.pipes p) → p ≤ files.last_pipe
  pub reads : (p n : ℕ) (h : Counted M) → map.get files.files n ≡ Some h → h.opened.what ≡ PipeRead p → IsSome (map.get files.pipes p)
  pub writes : (p n : ℕ) (h : Counted M) → map.get files.files n ≡ Some h → h.opened.what ≡ PipeWrite p → IsSome (map.get files.pipes p)
  pub one_reader : (p m n : ℕ) (g h : Counted M) → map.get files.files m ≡ Some g → map.get files.files n ≡ Some h → g.opened.what ≡ PipeRead p → h.opened.what ≡ PipeRead p → m ≡ n
  pub one_writer : (p m n : ℕ) (g h : Counted M) → map.get files.files m ≡ Some g → map.get files.files n ≡ Some h → g.opened.what ≡ PipeWrite p → h.opened.what ≡ PipeWrite p → m ≡ n
  pub bytes : (p : ℕ) (bytes : List ℕ) → map.get files.pipes p ≡ Some bytes → length bytes ≤ 65536

-- ---- processes

-- numbers rise along a list, from 2 on, and are below the next one
abbrev pub RiseFrom : ℕ → ℕ → List ℕ → Type 0
RiseFrom low next [] = Unit {0}
RiseFrom low next (pid ∷ pids) = (low ≤ pid) × (pid < next) × RiseFrom (suc pid) next pids

pub record ArePids {M X : Type 0} (s : State M X) : Type 0 where
  pub living : RiseFrom 2 s.next_pid (map_list (λ p. p.pid) s.living)
  pub ended : RiseFrom 2 s.next_pid (map_list (λ e. e.pid) s.ended)
  pub apart : (pid : ℕ) → IsSome (process pid s) → list_any (λ e. e.pid == pid) s.ended ≡ false
  pub few : length s.living + length s.ended ≤ most_processes

-- the working directory is a directory of the view in the tree, and the executable a file
pub record IsProcessIn {M : Type 0} (number : M → ℕ) (t : Tree) (table : List Row) (p : Process M Image) : Type 0 where
  pub cwd : IsPlaceOf t table (numbered number p.cwd) × (is_directory_at t p.cwd.host ≡ true)
  pub exe : IsPlaceOf t table (numbered number p.exe) × (is_file_at t p.exe.host ≡ true)
  pub exe_name : IsNameOrNone p.exe_name
  pub breaks : (p.brk_start ≤ p.brk) × (p.brk ≤ pages_end)
  pub whole : IsWhole p.image.memory.pages
  pub paged : IsPlaced p.image.memory.pages
  pub pages : map.len p.image.memory.pages ≤ process_pages

-- ---- the state

pub record IsLawful {M : Type 0} (number : M → ℕ) (table : List Row) (s : State M Image) : Type 0 where
  pub tree : IsKept s.tree
  pub mounts : StandsIn s.tree table
  pub processes : (pid : ℕ) (p : Process M Image) → process pid s ≡ Some p → IsProcessIn number s.tree table p
  pub files : (n : ℕ) (o : Opened M) → file_at s.files n ≡ Some o → IsOpenIn number s.tree table o
  pub pipes : HasPipes s.files
  -- every descriptor is below 1,024 and names an open file
  pub descriptors : (pid fd : ℕ) (x : Named) → named pid fd s ≡ Some x → (fd < 1024) × IsSome (file_at s.files x.number)
  pub uses : AreUses (pins_of table) s
  pub room : pages_in_all image_layout s.living ≤ all_pages
  pub pids : ArePids s
  pub input : s.taken ≤ length s.input
