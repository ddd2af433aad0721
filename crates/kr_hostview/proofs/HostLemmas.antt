-- Targets of links in the one host mount: where they lead, and that they stand.
use Rattle.std.proofs.Common.{◌≡◌, ℕ, Bool, true, false, List, [], Option, Some, None, refl}
use Rattle.std.specs.Bool.{if◌then◌else◌}
use Rattle.std.specs.Option.{option_map_or}
use Rattle.kr_seen.specs.kr_tree.declared.place.Place.{Place}
use Rattle.kr_seen.specs.kr_tree.declared.place.ProcAt.{ProcAt}
use Rattle.kr_seen.specs.kr_tree.declared.place.ProcAt.TheVariants.{SelfLink, Dir, Cwd, Root, Exe, FdDir, Fd}
use Rattle.kr_seen.specs.kr_tree.Tree.{Tree}
use Rattle.kr_seen.specs.kr_view.declared.procs.Lead.TheVariants.{Jump, Nameless, NoLink}
use Rattle.kr_seen.specs.kr_view.Component.{Namespace}
use Rattle.kr_seen.specs.kr_view.HostReach.{host_place}
use Rattle.kr_seen.specs.kr_view.InTree.{IsPlaceOf}
use Rattle.kr_seen.specs.kr_view.Leads.{numbered}
use Rattle.kr_seen.specs.kr_view.Names.{guest_name}
use Rattle.kr_seen.specs.kr_view.View.{Row, StandsIn, is_there, plain, root_place}
use Rattle.kr_seen.proofs.kr_view.TableLemmas.{plain_stands}
use Rattle.kr_seen.specs.kr_files.declared.opened.Opened.{Opened}
use Rattle.kr_seen.specs.kr_model.HostView.{host_leads, host_open, host_space}
use Rattle.kr_seen.specs.kr_model.Lawful.{IsLawful}
use Rattle.kr_seen.specs.kr_model.ProcessDirectory.{jump_to, remembered}
use Rattle.kr_seen.specs.kr_model.State.{Image, Process, State, opened, process}
use Rattle.kr_seen.specs.Shown.{Target, Nothing, Unplaced, At, cwd_target, exe_target, lead_to, opened_target}
use Rattle.kr_seen.specs.Standing.{IsStanding}
use Rattle.kr_seen.proofs.StandingLemmas.{IsLed, cwd-led, exe-led, led-stands, open-led, root-led}
use Rattle.kr_hostview.specs.OnHost.{host_target, lead_on_host, number, place_on_host, target_on_host}

-- ---- where they lead

-- of a link that isn't `self` and of a directory
abbrev pub LeadsThere : {T : Type 0} → State T Image → ℕ → ProcAt → Type 0
LeadsThere s caller at = lead_to number (host_space s) (host_target s at) ≡ lead_on_host (host_leads s caller at)

module _ {T : Type 0} (space : Namespace) (p : Place T) (dir : ℕ) (name : List ℕ) where
  jump-on-host : lead_to number space (At (place_on_host p) dir name) ≡ lead_on_host (jump_to space (host_place p.host) dir name)
  jump-on-host = by (is_there (guest_name space (host_place p.host) (remembered dir name)))
    where
      by : (b : Bool) → (if b then Jump (place_on_host p) dir name else Nameless) ≡ lead_on_host (if b then Jump (host_place p.host) dir name else Nameless)
      by true = refl
      by false = refl

module _ {T : Type 0} (s : State T Image) (caller : ℕ) where
  pub cwd-leads : (pid : ℕ) → LeadsThere s caller (Cwd pid)
  cwd-leads pid = by (process pid s)
    where
      by : (o : Option (Process T Image)) → lead_to number (host_space s) (target_on_host (option_map_or cwd_target o Nothing)) ≡ lead_on_host (option_map_or (λ (p : Process T Image). jump_to (host_space s) (host_place p.cwd.host) 0 []) o NoLink)
      by None = refl
      by (Some p) = jump-on-host (host_space s) p.cwd 0 []

  pub root-leads : (pid : ℕ) → LeadsThere s caller (Root pid)
  root-leads pid = by (process pid s)
    where
      by : (o : Option (Process T Image)) → lead_to number (host_space s) (option_map_or (λ (p : Process T Image). At (place_on_host (root_place plain)) 0 []) o Nothing) ≡ lead_on_host (option_map_or (λ (p : Process T Image). jump_to (host_space s) (root_place plain) 0 []) o NoLink)
      by None = refl
      by (Some p) = jump-on-host (host_space s) (root_place plain) 0 []

  pub exe-leads : (pid : ℕ) → LeadsThere s caller (Exe pid)
  exe-leads pid = by (process pid s)
    where
      by : (o : Option (Process T Image)) → lead_to number (host_space s) (target_on_host (option_map_or exe_target o Nothing)) ≡ lead_on_host (option_map_or (λ (p : Process T Image). jump_to (host_space s) (host_place p.exe.host) p.exe_dir p.exe_name) o NoLink)
      by None = refl
      by (Some p) = jump-on-host (host_space s) p.exe p.exe_dir p.exe_name

  pub open-leads : (pid fd : ℕ) → LeadsThere s caller (Fd pid fd)
  open-leads pid fd = by (opened pid fd s)
    where
      placed : (o : Opened T) (p : Option (Place T)) → lead_to number (host_space s) (target_on_host (option_map_or (λ p. At p o.dir o.name) p (Unplaced o.what))) ≡ lead_on_host (option_map_or (λ p. jump_to (host_space s) (host_place p.host) o.dir o.name) p Nameless)
      placed o None = refl
      placed o (Some p) = jump-on-host (host_space s) p o.dir o.name

      by : (o : Option (Opened T)) → lead_to number (host_space s) (target_on_host (option_map_or opened_target o Nothing)) ≡ lead_on_host (option_map_or (host_open s) o NoLink)
      by None = refl
      by (Some o) = placed o o.place

-- ---- where they stand

-- a place of some view is one of the host's own view
pub on-host : (t : Tree) (table : List Row) (p : Place ℕ) → IsPlaceOf t table p → IsPlaceOf t plain (host_place p.host)
on-host t table p h = record { mounted = refl; object = h.object }

module _ {T : Type 0} (by : T → ℕ) (t : Tree) (table : List Row) where
  led-on-host : (target : Target T) → IsLed by t table target → IsLed number t plain (target_on_host target)
  led-on-host Nothing h = tt
  led-on-host (Unplaced what) h = tt
  led-on-host (At p dir name) h = record {
    nameable = record { place = on-host t table (numbered by p) h.nameable.place; named = h.nameable.named };
    file = h.file;
    directory = h.directory;
  }

module _ {T : Type 0} (by : T → ℕ) (table : List Row) (s : State T Image) (lawful : IsLawful by table s) where
  pub plain-mounts : StandsIn s.tree plain
  plain-mounts = (plain_stands s.tree lawful.tree.sound).0

  pub led : (at : ProcAt) → IsLed number s.tree plain (host_target s at)
  led SelfLink = tt
  led (Dir pid) = tt
  led (Cwd pid) = led-on-host by s.tree table (option_map_or cwd_target (process pid s) Nothing) (cwd-led by table s lawful pid (process pid s) refl)
  led (Root pid) = root-led number s.tree plain (place_on_host (root_place plain)) plain-mounts refl (process pid s)
  led (Exe pid) = led-on-host by s.tree table (option_map_or exe_target (process pid s) Nothing) (exe-led by table s lawful pid (process pid s) refl)
  led (FdDir pid) = tt
  led (Fd pid fd) = led-on-host by s.tree table (option_map_or opened_target (opened pid fd s) Nothing) (open-led by table s lawful pid fd (opened pid fd s) refl)

  pub standing : (at : ProcAt) → IsStanding number s.tree plain (host_target s at)
  standing at = led-stands number s.tree plain (host_target s at) (led at)
