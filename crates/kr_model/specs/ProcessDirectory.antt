-- The process directory over a state, as proc(5) has it: what its names stand for, where its links lead, and their texts.
use Rattle.std.specs.FinMap as map
use Rattle.std.specs.Prelude.{ℕ, ◌==◌, List, [], map as map_list, length, Option, Some, None, if◌then◌else◌}
use Rattle.std.specs.Fmt.{decimal}
use Rattle.std.specs.Option.{option_map, option_map_or, option_and_then}
use Rattle.kr_calls.specs.pr_base.Paths.{text_of}
use Rattle.kr_files.specs.kr_tree.declared.place.Place.{Place}
use Rattle.kr_files.specs.kr_tree.declared.place.ProcAt.{ProcAt}
use Rattle.kr_files.specs.kr_tree.declared.place.ProcAt.TheVariants.{SelfLink, Dir, Cwd, Root, Exe, FdDir, Fd}
use Rattle.kr_procfs.specs.kr_view.declared.procs.Lead.{Lead}
use Rattle.kr_procfs.specs.kr_view.declared.procs.Lead.TheVariants.{Text, Jump, Nameless, NoLink}
use Rattle.kr_procfs.specs.kr_view.View.{Row, root_place, is_there}
use Rattle.kr_procfs.specs.kr_view.Component.{Namespace, Surroundings}
use Rattle.kr_procfs.specs.kr_view.Living.{Living, finds_among}
use Rattle.kr_procfs.specs.kr_view.Names.{Remembered, guest_name}
use Rattle.kr_procfs.specs.Objects.{pipe_text, console_text}
use Rattle.kr_files.specs.declared.opened.Opened.{Opened}
use Rattle.kr_files.specs.declared.opened.What.{What}
use Rattle.kr_files.specs.declared.opened.What.TheVariants.{File, Dir as DirOpen, In, Out, Err, PipeRead, PipeWrite}
use Rattle.kr_model.specs.State.{Process, State, process, opened}

-- an empty name remembers no entry
abbrev pub remembered : ℕ → List ℕ → Remembered
remembered dir name = if length name == 0 then None else Some (dir, name)

-- where a link leads: to a place that has a guest name; what has none is nameless
abbrev pub jump_to : Namespace → Place ℕ → ℕ → List ℕ → Lead ℕ
jump_to space p dir name = if is_there (guest_name space p (remembered dir name)) then Jump p dir name else Nameless

-- a pipe and the console have no place, and no name
abbrev pub lead_of_open : Namespace → Opened ℕ → Lead ℕ
lead_of_open space o = option_map_or (λ p. jump_to space p o.dir o.name) o.place Nameless

-- the bytes of the guest name of a place; none where it has no name
abbrev pub name_text : Namespace → Place ℕ → ℕ → List ℕ → Option (List ℕ)
name_text space p dir name = option_map text_of (guest_name space p (remembered dir name))

abbrev pub unplaced_text : What → Option (List ℕ)
unplaced_text File = None
unplaced_text DirOpen = None
unplaced_text In = Some console_text
unplaced_text Out = Some console_text
unplaced_text Err = Some console_text
unplaced_text (PipeRead p) = Some (pipe_text p)
unplaced_text (PipeWrite p) = Some (pipe_text p)

abbrev pub open_text : Namespace → Opened ℕ → Option (List ℕ)
open_text space o = option_map_or (λ p. name_text space p o.dir o.name) o.place (unplaced_text o.what)

module _ {M X : Type 0} where
  -- each living process shows a directory, and in its `fd` its open descriptors
  abbrev pub living_of : State M X → List Living
  living_of s = map_list (λ p. record { pid = p.pid; fds = map_list (λ e. e.0) (map.entries p.descs) }) s.living

  abbrev pub space_of : List Row → State M X → Namespace
  space_of table s = record { table = table; tree = s.tree; user = s.user; finds = finds_among (living_of s) }

  -- what a link of a living process leads to; there is none of another
  abbrev pub of_living : ℕ → State M X → (Process M X → Lead ℕ) → Lead ℕ
  of_living pid s lead = option_map_or lead (process pid s) NoLink

module _ {X : Type 0} where
  -- ---- where its links lead

  -- `self` leads by its text, the caller's number; directories are no links
  abbrev pub leads_of : List Row → State ℕ X → ℕ → ProcAt → Lead ℕ
  leads_of table s caller SelfLink = Text (decimal caller)
  leads_of table s caller (Dir pid) = NoLink
  leads_of table s caller (Cwd pid) = of_living pid s (λ p. jump_to (space_of table s) p.cwd 0 [])
  leads_of table s caller (Root pid) = of_living pid s (λ p. jump_to (space_of table s) (root_place table) 0 [])
  leads_of table s caller (Exe pid) = of_living pid s (λ p. jump_to (space_of table s) p.exe p.exe_dir p.exe_name)
  leads_of table s caller (FdDir pid) = NoLink
  leads_of table s caller (Fd pid fd) = option_map_or (lead_of_open (space_of table s)) (opened pid fd s) NoLink

  -- what a walk of a caller goes through
  abbrev pub around_of : List Row → ℕ → State ℕ X → Surroundings
  around_of table caller s = record { space = space_of table s; leads = leads_of table s caller }

  -- ---- the texts of its links

  abbrev pub link_text : List Row → State ℕ X → ℕ → ProcAt → Option (List ℕ)
  link_text table s caller SelfLink = Some (decimal caller)
  link_text table s caller (Dir pid) = None
  link_text table s caller (Cwd pid) = option_and_then (λ p. name_text (space_of table s) p.cwd 0 []) (process pid s)
  link_text table s caller (Root pid) = option_and_then (λ p. name_text (space_of table s) (root_place table) 0 []) (process pid s)
  link_text table s caller (Exe pid) = option_and_then (λ p. name_text (space_of table s) p.exe p.exe_dir p.exe_name) (process pid s)
  link_text table s caller (FdDir pid) = None
  link_text table s caller (Fd pid fd) = option_and_then (open_text (space_of table s)) (opened pid fd s)
