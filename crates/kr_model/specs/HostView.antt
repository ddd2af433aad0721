-- The host's own view of a state: its one mount, in which a process directory stands that has the same names as the kernel's own
-- view. Its links lead to the same objects, and texts are host names.
use Rattle.std.specs.Prelude.{ℕ, List, [], Option}
use Rattle.std.specs.Fmt.{decimal}
use Rattle.std.specs.Option.{option_map_or, option_and_then}
use Rattle.kr_files.specs.kr_tree.declared.place.ProcAt.{ProcAt}
use Rattle.kr_files.specs.kr_tree.declared.place.ProcAt.TheVariants.{SelfLink, Dir, Cwd, Root, Exe, FdDir, Fd}
use Rattle.kr_procfs.specs.kr_view.declared.procs.Lead.{Lead}
use Rattle.kr_procfs.specs.kr_view.declared.procs.Lead.TheVariants as lead
use Rattle.kr_procfs.specs.kr_view.Component.{Namespace, Surroundings}
use Rattle.kr_procfs.specs.kr_view.HostReach.{host_place}
use Rattle.kr_procfs.specs.kr_view.View.{plain, root_place}
use Rattle.kr_files.specs.declared.opened.Opened.{Opened}
use Rattle.kr_model.specs.ProcessDirectory.{jump_to, name_text, of_living, space_of, unplaced_text}
use Rattle.kr_model.specs.State.{State, opened, process}

module _ {M X : Type 0} (s : State M X) where
  abbrev pub host_space : Namespace
  host_space = space_of plain s

  abbrev pub host_open : Opened M → Lead ℕ
  host_open o = option_map_or (λ p. jump_to host_space (host_place p.host) o.dir o.name) o.place lead.Nameless

  -- where links lead
  abbrev pub host_leads : ℕ → ProcAt → Lead ℕ
  host_leads caller SelfLink = lead.Text (decimal caller)
  host_leads caller (Dir pid) = lead.NoLink
  host_leads caller (Cwd pid) = of_living pid s (λ p. jump_to host_space (host_place p.cwd.host) 0 [])
  host_leads caller (Root pid) = of_living pid s (λ p. jump_to host_space (root_place plain) 0 [])
  host_leads caller (Exe pid) = of_living pid s (λ p. jump_to host_space (host_place p.exe.host) p.exe_dir p.exe_name)
  host_leads caller (FdDir pid) = lead.NoLink
  host_leads caller (Fd pid fd) = option_map_or host_open (opened pid fd s) lead.NoLink

  abbrev pub host_around_of : ℕ → Surroundings
  host_around_of caller = record { space = host_space; leads = host_leads caller }

  -- ---- the host names of what processes have

  abbrev pub open_name : Opened M → Option (List ℕ)
  open_name o = option_and_then (λ p. name_text host_space (host_place p.host) o.dir o.name) o.place

  abbrev pub base_name : ℕ → ℕ → Option (List ℕ)
  base_name pid fd = option_and_then open_name (opened pid fd s)

  -- the text of a descriptor's link: a host name, and of a pipe and the console, which have no place, the kernel's own
  abbrev pub linked_text : Opened M → Option (List ℕ)
  linked_text o = option_map_or (λ p. name_text host_space (host_place p.host) o.dir o.name) o.place (unplaced_text o.what)

  abbrev pub base_text : ℕ → ℕ → Option (List ℕ)
  base_text pid fd = option_and_then linked_text (opened pid fd s)

  abbrev pub cwd_name : ℕ → Option (List ℕ)
  cwd_name pid = option_and_then (λ p. name_text host_space (host_place p.cwd.host) 0 []) (process pid s)

  abbrev pub exe_name : ℕ → Option (List ℕ)
  exe_name pid = option_and_then (λ p. name_text host_space (host_place p.exe.host) p.exe_dir p.exe_name) (process pid s)
