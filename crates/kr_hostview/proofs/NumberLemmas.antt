-- The host's own view of a state, and what a tracer is told of it, is that of the state with its mounts told by numbers.
use Rattle.std.proofs.Common.{◌≡◌, ℕ, [], Option, Some, None, refl, sym, ap, ◌∙◌}
use Rattle.std.specs.Option.{option_map, option_map_or, option_and_then}
use Rattle.kr_seen.specs.pr_base.declared.path.WalkMode.TheVariants.{LookLink}
use Rattle.kr_seen.specs.kr_tree.declared.place.Host.{Host}
use Rattle.kr_seen.specs.kr_tree.declared.place.Host.TheVariants.{Node, Proc}
use Rattle.kr_seen.specs.kr_tree.declared.place.Place.{Place}
use Rattle.kr_seen.specs.kr_tree.declared.place.ProcAt.{ProcAt}
use Rattle.kr_seen.specs.kr_tree.declared.place.ProcAt.TheVariants.{SelfLink, Dir, Cwd, Root, Exe, FdDir, Fd}
use Rattle.kr_seen.specs.kr_view.declared.procs.Lead.TheVariants.{Nameless, NoLink}
use Rattle.kr_seen.specs.kr_view.HostReach.{host_place}
use Rattle.kr_seen.specs.kr_view.Leads.{numbered}
use Rattle.kr_seen.specs.kr_view.Living.{finds_among}
use Rattle.kr_seen.specs.kr_view.View.{plain, root_place}
use Rattle.kr_seen.specs.kr_view.Walk.{place_walk}
use Rattle.kr_seen.specs.kr_files.declared.opened.Opened.{Opened}
use Rattle.kr_seen.specs.kr_model.HostView.{base_name, base_text, cwd_name, exe_name, host_around_of, host_leads, host_open, host_space, linked_text, open_name}
use Rattle.kr_seen.specs.kr_model.Peeks.{head_at, kind_along, kind_of_base, link_text_at, name_or_none, peeked_of, read_of, steady_along}
use Rattle.kr_seen.specs.kr_model.ProcessDirectory.{jump_to, name_text, unplaced_text}
use Rattle.kr_seen.specs.kr_model.State.{Image, Process, State, opened, process}
use Rattle.kr_seen.specs.Numbered.{opened_numbered, process_numbered, state_numbered}
use Rattle.kr_seen.proofs.NumberedLemmas.{living-numbered, opened-numbered, process-numbered}

module _ {T : Type 0} (by : T → ℕ) (s : State T Image) where
  abbrev told : State ℕ Image
  told = state_numbered by s

  space-told : host_space told ≡ host_space s
  space-told = ap (λ living. record { table = plain; tree = s.tree; user = s.user; finds = finds_among living }) (sym (living-numbered by s))

  -- ---- links

  cwd-told : (o : Option (Process T Image))
      → option_map_or (λ (p : Process ℕ Image). jump_to (host_space told) (host_place p.cwd.host) 0 []) (option_map (process_numbered by) o) NoLink ≡ option_map_or (λ (p : Process T Image). jump_to (host_space s) (host_place p.cwd.host) 0 []) o NoLink
  cwd-told None = refl
  cwd-told (Some p) = ap (λ space. jump_to space (host_place p.cwd.host) 0 []) space-told

  root-told : (o : Option (Process T Image))
      → option_map_or (λ (p : Process ℕ Image). jump_to (host_space told) (root_place plain) 0 []) (option_map (process_numbered by) o) NoLink ≡ option_map_or (λ (p : Process T Image). jump_to (host_space s) (root_place plain) 0 []) o NoLink
  root-told None = refl
  root-told (Some p) = ap (λ space. jump_to space (root_place plain) 0 []) space-told

  exe-told : (o : Option (Process T Image))
      → option_map_or (λ (p : Process ℕ Image). jump_to (host_space told) (host_place p.exe.host) p.exe_dir p.exe_name) (option_map (process_numbered by) o) NoLink
      ≡ option_map_or (λ (p : Process T Image). jump_to (host_space s) (host_place p.exe.host) p.exe_dir p.exe_name) o NoLink
  exe-told None = refl
  exe-told (Some p) = ap (λ space. jump_to space (host_place p.exe.host) p.exe_dir p.exe_name) space-told

  open-told : (o : Option (Opened T)) → option_map_or (host_open told) (option_map (opened_numbered by) o) NoLink ≡ option_map_or (host_open s) o NoLink
  open-told None = refl
  open-told (Some o) = placed o.place
    where
      placed : (p : Option (Place T))
          → option_map_or (λ (p : Place ℕ). jump_to (host_space told) (host_place p.host) o.dir o.name) (option_map (numbered by) p) Nameless ≡ option_map_or (λ (p : Place T). jump_to (host_space s) (host_place p.host) o.dir o.name) p Nameless
      placed None = refl
      placed (Some p) = ap (λ space. jump_to space (host_place p.host) o.dir o.name) space-told

  leads-told : (caller : ℕ) (at : ProcAt) → host_leads told caller at ≡ host_leads s caller at
  leads-told caller SelfLink = refl
  leads-told caller (Dir pid) = refl
  leads-told caller (Cwd pid) = ap (λ o. option_map_or (λ (p : Process ℕ Image). jump_to (host_space told) (host_place p.cwd.host) 0 []) o NoLink) (process-numbered by s pid) ∙ cwd-told (process pid s)
  leads-told caller (Root pid) = ap (λ o. option_map_or (λ (p : Process ℕ Image). jump_to (host_space told) (root_place plain) 0 []) o NoLink) (process-numbered by s pid) ∙ root-told (process pid s)
  leads-told caller (Exe pid) = ap (λ o. option_map_or (λ (p : Process ℕ Image). jump_to (host_space told) (host_place p.exe.host) p.exe_dir p.exe_name) o NoLink) (process-numbered by s pid) ∙ exe-told (process pid s)
  leads-told caller (FdDir pid) = refl
  leads-told caller (Fd pid fd) = ap (λ o. option_map_or (host_open told) o NoLink) (opened-numbered by s pid fd) ∙ open-told (opened pid fd s)

  pub around-told : (caller : ℕ) → host_around_of told caller ≡ host_around_of s caller
  around-told caller j = record { space = space-told j; leads = λ at. leads-told caller at j }

  -- ---- names

  cwd-named : (pid : ℕ) → cwd_name told pid ≡ cwd_name s pid
  cwd-named pid = ap (option_and_then (λ (p : Process ℕ Image). name_text (host_space told) (host_place p.cwd.host) 0 [])) (process-numbered by s pid) ∙ each (process pid s)
    where
      each : (o : Option (Process T Image))
          → option_and_then (λ (p : Process ℕ Image). name_text (host_space told) (host_place p.cwd.host) 0 []) (option_map (process_numbered by) o) ≡ option_and_then (λ (p : Process T Image). name_text (host_space s) (host_place p.cwd.host) 0 []) o
      each None = refl
      each (Some p) = ap (λ space. name_text space (host_place p.cwd.host) 0 []) space-told

  exe-named : (pid : ℕ) → exe_name told pid ≡ exe_name s pid
  exe-named pid = ap (option_and_then (λ (p : Process ℕ Image). name_text (host_space told) (host_place p.exe.host) p.exe_dir p.exe_name)) (process-numbered by s pid) ∙ each (process pid s)
    where
      each : (o : Option (Process T Image))
          → option_and_then (λ (p : Process ℕ Image). name_text (host_space told) (host_place p.exe.host) p.exe_dir p.exe_name) (option_map (process_numbered by) o)
          ≡ option_and_then (λ (p : Process T Image). name_text (host_space s) (host_place p.exe.host) p.exe_dir p.exe_name) o
      each None = refl
      each (Some p) = ap (λ space. name_text space (host_place p.exe.host) p.exe_dir p.exe_name) space-told

  base-named : (pid fd : ℕ) → base_name told pid fd ≡ base_name s pid fd
  base-named pid fd = ap (option_and_then (open_name told)) (opened-numbered by s pid fd) ∙ each (opened pid fd s)
    where
      placed : (o : Opened T) (p : Option (Place T))
          → option_and_then (λ (p : Place ℕ). name_text (host_space told) (host_place p.host) o.dir o.name) (option_map (numbered by) p) ≡ option_and_then (λ (p : Place T). name_text (host_space s) (host_place p.host) o.dir o.name) p
      placed o None = refl
      placed o (Some p) = ap (λ space. name_text space (host_place p.host) o.dir o.name) space-told

      each : (o : Option (Opened T)) → option_and_then (open_name told) (option_map (opened_numbered by) o) ≡ option_and_then (open_name s) o
      each None = refl
      each (Some o) = placed o o.place

  base-linked : (pid fd : ℕ) → base_text told pid fd ≡ base_text s pid fd
  base-linked pid fd = ap (option_and_then (linked_text told)) (opened-numbered by s pid fd) ∙ each (opened pid fd s)
    where
      placed : (o : Opened T) (p : Option (Place T))
          → option_map_or (λ (p : Place ℕ). name_text (host_space told) (host_place p.host) o.dir o.name) (option_map (numbered by) p) (unplaced_text o.what)
          ≡ option_map_or (λ (p : Place T). name_text (host_space s) (host_place p.host) o.dir o.name) p (unplaced_text o.what)
      placed o None = refl
      placed o (Some p) = ap (λ space. name_text space (host_place p.host) o.dir o.name) space-told

      each : (o : Option (Opened T)) → option_and_then (linked_text told) (option_map (opened_numbered by) o) ≡ option_and_then (linked_text s) o
      each None = refl
      each (Some o) = placed o o.place

  -- ---- what a tracer is told

  kind-told : (pid fd : ℕ) → kind_of_base (opened pid fd told) ≡ kind_of_base (opened pid fd s)
  kind-told pid fd = ap kind_of_base (opened-numbered by s pid fd) ∙ each (opened pid fd s)
    where
      each : (o : Option (Opened T)) → kind_of_base (option_map (opened_numbered by) o) ≡ kind_of_base o
      each None = refl
      each (Some o) = refl

  text-told : (caller : ℕ) (x : Host) → link_text_at told caller x ≡ link_text_at s caller x
  text-told caller (Node i) = refl
  text-told caller (Proc i SelfLink) = refl
  text-told caller (Proc i (Dir pid)) = refl
  text-told caller (Proc i (Cwd pid)) = ap name_or_none (cwd-named pid)
  text-told caller (Proc i (Root pid)) = ap (λ space. name_or_none (name_text space (root_place plain) 0 [])) space-told
  text-told caller (Proc i (Exe pid)) = ap name_or_none (exe-named pid)
  text-told caller (Proc i (FdDir pid)) = refl
  text-told caller (Proc i (Fd pid fd)) = ap name_or_none (base-linked pid fd)

  pub peeked-told : (caller : ℕ) → peeked_of told caller ≡ peeked_of s caller
  peeked-told caller j = record {
    kind = λ path. kind_along (around-told caller j) path;
    link_text = λ path. read_of (λ x. text-told caller x j) (place_walk (around-told caller j) LookLink (root_place plain) path).answer;
    head = λ path n. read_of (head_at s.tree s.user n) (place_walk (around-told caller j) LookLink (root_place plain) path).answer;
    steady = λ path. steady_along (around-told caller j) LookLink path;
    base_kind = λ pid fd. kind-told pid fd j;
    base_name = λ pid fd. base-named pid fd j;
    cwd_name = λ pid. cwd-named pid j;
    exe_name = λ pid. exe-named pid j;
  }
