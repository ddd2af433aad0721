-- One state as two walks see it: along places of the mounted view, and along guest texts by what the plain kernel tells.
use Rattle.std.specs.Prelude.{◌≡◌, ℕ, false, List, Option, Some, None}
use Rattle.pt_canon.specs.pr_base.Peeks.{Peeked}
use Rattle.pt_canon.specs.pr_base.Texts.{Text}
use Rattle.pt_canon.specs.pt_bind.Tags.{TagTable}
use Rattle.pt_canon.specs.ProcessLinks.{head_of, landing_of, link_guest, link_name}
use Rattle.pt_canon.specs.TextWalk.{TextSurroundings}
use Rattle.pt_canon.specs.declared.link.ProcessLink.{ProcessLink}
use Rattle.pt_canon.specs.declared.link.ProcessLink.TheVariants as process_link
use Rattle.kr_mounts.specs.kr_tree.declared.place.Host.TheVariants.{Node, Proc}
use Rattle.kr_mounts.specs.kr_tree.declared.place.Place.{Place}
use Rattle.kr_mounts.specs.kr_tree.declared.place.ProcAt.{ProcAt}
use Rattle.kr_mounts.specs.kr_tree.declared.place.ProcAt.TheVariants.{SelfLink, Dir, Cwd, Root, Exe, FdDir, Fd}
use Rattle.kr_mounts.specs.kr_view.declared.procs.Lead.{Lead}
use Rattle.kr_mounts.specs.kr_view.declared.procs.Lead.TheVariants as lead
use Rattle.kr_mounts.specs.kr_view.Component.{Namespace, Surroundings, is_directory_at}
use Rattle.kr_mounts.specs.kr_view.Living.{IsSmall}
use Rattle.kr_mounts.specs.kr_view.Processes.{LawsOfProcesses}
use Rattle.kr_mounts.specs.Standing.{texts_of}
use Rattle.law_walks.specs.Peeks.{ArePeeks, over_host}
use Rattle.law_walks.specs.Settled.{IsSettled, host_text}
use Rattle.law_walks.specs.Standing.{IsEntryAt, StandsOn, reached_in}

-- what a mounted walk goes through, and where links of the process directory lead over the host's own view; what the
-- kernel tells a tracer, and the tags of processes
pub record Scene : Type 0 where
  pub around : Surroundings
  pub host_leads : ProcAt → Lead ℕ
  pub peeked : Peeked
  pub tags : TagTable

abbrev pub space_of : Scene → Namespace
space_of scene = scene.around.space

-- what a walk of the plain kernel goes through
abbrev pub host_around : Scene → Surroundings
host_around scene = over_host scene.around scene.host_leads

-- what a tracer's walk goes by
abbrev pub texts_in : Scene → TextSurroundings
texts_in scene = record { bindings = texts_of scene.around.space.table; peeked = scene.peeked; tags = scene.tags }

-- ---- links of the process directory

-- a link that leads by what it stands for, as a tracer calls it. `self` leads by its text
abbrev pub link_of : ProcAt → Option ProcessLink
link_of SelfLink = None
link_of (Dir pid) = None
link_of (Cwd pid) = Some (process_link.Cwd pid)
link_of (Root pid) = Some (process_link.Root pid)
link_of (Exe pid) = Some (process_link.Exe pid)
link_of (FdDir pid) = None
link_of (Fd pid fd) = Some (process_link.Fd pid fd)

abbrev pub HasSmallNumbers : ProcessLink → Type 0
HasSmallNumbers (process_link.Cwd pid) = IsSmall pid
HasSmallNumbers (process_link.Exe pid) = IsSmall pid
HasSmallNumbers (process_link.Root pid) = IsSmall pid
HasSmallNumbers (process_link.Fd pid fd) = IsSmall pid × IsSmall fd

-- a link leads to a place that stands at the guest text of the link's tag and host name. What is no directory has the
-- entry of its host text
pub record LeadsTo (scene : Scene) (link : ProcessLink) (p : Place ℕ) (dir : ℕ) (name : List ℕ) : Type 0 where
  pub host : Text
  pub guest : Text
  pub called : link_name scene.peeked link ≡ Some host
  pub tagged : link_guest (texts_in scene).bindings scene.tags link host ≡ Some guest
  pub stands : StandsOn (space_of scene) p guest
  pub last : is_directory_at (space_of scene).tree p.host ≡ false → name ≡ head_of host
  pub entry : is_directory_at (space_of scene).tree p.host ≡ false → IsEntryAt (space_of scene) (host_text (space_of scene) guest) (Node dir) name

-- so it leads for a tracer as it does for a walk, or nowhere for both
abbrev pub LeadsAlike : Scene → ProcessLink → Lead ℕ → Type 0
LeadsAlike scene link (lead.Text text) = Unit {0}
LeadsAlike scene link (lead.Jump p dir name) = LeadsTo scene link p dir name
LeadsAlike scene link lead.Nameless = landing_of (texts_in scene).bindings scene.peeked scene.tags link ≡ None
LeadsAlike scene link lead.NoLink = landing_of (texts_in scene).bindings scene.peeked scene.tags link ≡ None

-- of links that are reached: a link of a process that is gone leads nowhere
pub record LinksLeadAlike (scene : Scene) : Type 0 where
  pub self : (host : Text) (i : ℕ) → reached_in (space_of scene) host ≡ Some (Proc i SelfLink) → (text : List ℕ) × (scene.around.leads SelfLink ≡ lead.Text text) × (scene.host_leads SelfLink ≡ lead.Text text)
  pub small : (host : Text) (i : ℕ) (at : ProcAt) (link : ProcessLink) → reached_in (space_of scene) host ≡ Some (Proc i at) → link_of at ≡ Some link → HasSmallNumbers link
  pub others : (host : Text) (i : ℕ) (at : ProcAt) (link : ProcessLink) → reached_in (space_of scene) host ≡ Some (Proc i at) → link_of at ≡ Some link → LeadsAlike scene link (scene.around.leads at)

-- ---- what both walks go by

pub record IsMatched (scene : Scene) : Type 0 where
  pub settled : IsSettled (space_of scene)
  pub processes : LawsOfProcesses (space_of scene).finds scene.around.leads
  pub host_processes : LawsOfProcesses (space_of scene).finds scene.host_leads
  pub peeks : ArePeeks scene.peeked (host_around scene)
  pub links : LinksLeadAlike scene
