-- What the process directory shows of a state whose mounts a machine names in its own way. `number` says which row of the
-- view's table a mount is.
use Rattle.std.specs.Prelude.{ℕ, List, [], Option, Some, None, if◌then◌else◌}
use Rattle.std.specs.Fmt.{decimal}
use Rattle.std.specs.Option.{option_map_or}
use Rattle.kr_ops.specs.kr_tree.declared.place.Place.{Place}
use Rattle.kr_ops.specs.kr_tree.declared.place.ProcAt.{ProcAt}
use Rattle.kr_ops.specs.kr_tree.declared.place.ProcAt.TheVariants.{SelfLink, Dir, Cwd, Root, Exe, FdDir, Fd}
use Rattle.kr_ops.specs.kr_view.declared.procs.Lead.{Lead}
use Rattle.kr_ops.specs.kr_view.declared.procs.Lead.TheVariants.{Text, Jump, Nameless, NoLink}
use Rattle.kr_ops.specs.kr_view.View.{Row, is_there}
use Rattle.kr_ops.specs.kr_view.Component.{Finds, Namespace}
use Rattle.kr_ops.specs.kr_view.Leads.{numbered}
use Rattle.kr_ops.specs.kr_view.Living.{finds_among}
use Rattle.kr_ops.specs.kr_view.Names.{guest_name}
use Rattle.kr_ops.specs.kr_files.declared.opened.Opened.{Opened}
use Rattle.kr_ops.specs.kr_files.declared.opened.What.{What}
use Rattle.kr_ops.specs.kr_model.ProcessDirectory.{living_of, remembered, name_text, space_of, unplaced_text}
use Rattle.kr_ops.specs.kr_model.State.{Image, Process, State, process, opened}

-- a state, the mounts of a view, and where absolute paths begin
pub record Shown (T : Type 0) : Type 0 where
  pub table : List Row
  pub root : Place T
  pub state : State T Image

-- what a link that isn't `self` leads to: nothing, something without a place, or a place with the entry that its object
-- remembers
pub data Target (T : Type 0) : Type 0 where
  Nothing : Target T
  Unplaced : What → Target T
  At : Place T → ℕ → List ℕ → Target T

module _ {T : Type 0} where
  -- ---- names

  abbrev pub finds_in : Shown T → Finds
  finds_in v = finds_among (living_of v.state)

  abbrev pub space_in : Shown T → Namespace
  space_in v = space_of v.table v.state

  -- ---- links

  abbrev pub cwd_target : Process T Image → Target T
  cwd_target p = At p.cwd 0 []

  abbrev pub exe_target : Process T Image → Target T
  exe_target p = At p.exe p.exe_dir p.exe_name

  abbrev pub opened_target : Opened T → Target T
  opened_target o = option_map_or (λ p. At p o.dir o.name) o.place (Unplaced o.what)

  abbrev pub target_in : Shown T → ProcAt → Target T
  target_in v SelfLink = Nothing
  target_in v (Dir pid) = Nothing
  target_in v (Cwd pid) = option_map_or cwd_target (process pid v.state) Nothing
  target_in v (Root pid) = option_map_or (λ p. At v.root 0 []) (process pid v.state) Nothing
  target_in v (Exe pid) = option_map_or exe_target (process pid v.state) Nothing
  target_in v (FdDir pid) = Nothing
  target_in v (Fd pid fd) = option_map_or opened_target (opened pid fd v.state) Nothing

module _ {T : Type 0} (number : T → ℕ) where
  -- a place that has no guest name, a pipe and the console are nameless
  abbrev pub jump_in : Namespace → Place T → ℕ → List ℕ → Lead T
  jump_in space p dir name = if is_there (guest_name space (numbered number p) (remembered dir name)) then Jump p dir name else Nameless

  abbrev pub lead_to : Namespace → Target T → Lead T
  lead_to space Nothing = NoLink
  lead_to space (Unplaced what) = Nameless
  lead_to space (At p dir name) = jump_in space p dir name

  abbrev pub leads_in : Shown T → ℕ → ProcAt → Lead T
  leads_in v caller SelfLink = Text (decimal caller)
  leads_in v caller (Dir pid) = NoLink
  leads_in v caller (Cwd pid) = lead_to (space_in v) (target_in v (Cwd pid))
  leads_in v caller (Root pid) = lead_to (space_in v) (target_in v (Root pid))
  leads_in v caller (Exe pid) = lead_to (space_in v) (target_in v (Exe pid))
  leads_in v caller (FdDir pid) = NoLink
  leads_in v caller (Fd pid fd) = lead_to (space_in v) (target_in v (Fd pid fd))

  -- ---- the texts of links

  abbrev pub text_to : Namespace → Target T → Option (List ℕ)
  text_to space Nothing = None
  text_to space (Unplaced what) = unplaced_text what
  text_to space (At p dir name) = name_text space (numbered number p) dir name

  abbrev pub texts_in : Shown T → ℕ → ProcAt → Option (List ℕ)
  texts_in v caller SelfLink = Some (decimal caller)
  texts_in v caller (Dir pid) = None
  texts_in v caller (Cwd pid) = text_to (space_in v) (target_in v (Cwd pid))
  texts_in v caller (Root pid) = text_to (space_in v) (target_in v (Root pid))
  texts_in v caller (Exe pid) = text_to (space_in v) (target_in v (Exe pid))
  texts_in v caller (FdDir pid) = None
  texts_in v caller (Fd pid fd) = text_to (space_in v) (target_in v (Fd pid fd))
