-- What a tracer without an identity makes of a call at its first stop lasts, while others leave the shape of the tree: it is made of what is the
-- caller's own, and of what is reached from the root.
use Rattle.std.specs.FinMap as map
use Rattle.std.specs.Prelude.{◌≡◌, ℕ, Bool, true, false, List, Option, Some, None}
use Rattle.std.specs.Option.{option_map}
use Rattle.pt_tracer.specs.pr_base.MountText.{MountText}
use Rattle.pt_tracer.specs.pt_bind.Tags.{TagTable, tag_of}
use Rattle.pt_tracer.specs.pt_bind.declared.slot.Slot.{Slot}
use Rattle.kr_loose.specs.kr_tree.Lawful.{IsSound}
use Rattle.kr_loose.specs.kr_tree.Tree.{body_is, is_directory}
use Rattle.kr_loose.specs.kr_tree.declared.place.Host.TheVariants.{Node}
use Rattle.kr_loose.specs.kr_tree.declared.place.Place.{Place}
use Rattle.kr_loose.specs.kr_model.kr_files.declared.opened.Opened.{Opened}
use Rattle.kr_loose.specs.kr_model.FileRows.{is_dir}
use Rattle.kr_loose.specs.kr_model.Judged.{IsReachedStill}
use Rattle.kr_loose.specs.kr_model.State.{Image, Process, State, opened, process}
use Rattle.kr_loose.specs.law_steady.Steady.{HaveOneShape}
use Rattle.kr_loose.specs.kr_core.Moving.{calls_execve}
use Rattle.kr_loose.specs.kr_stops.Stopped.{Stopped, image_at, image_in}
use Rattle.kr_loose.specs.kr_turns.Turn.{calling}
use Rattle.pt_tracer.specs.pt_results.kr_calls.declared.request.Request.{Request}
use Rattle.pt_tracer.specs.Planning.{planned, planned_unmet}
use Rattle.pt_tracer.specs.Watched.{Tracing, asks, entered, exited, is_execve}

-- ---- what a tracer goes by

abbrev pub SameTags : ℕ → (tags more : TagTable) → Type 0
SameTags pid tags more = (slot : Slot) → tag_of more pid slot ≡ tag_of tags pid slot

-- for a process, where no identity is told: the bindings, the host user, and the tags of the process, slot by slot
pub record GoesBySame (pid : ℕ) (x y : Tracing) : Type 0 where
  pub bindings : y.bindings ≡ x.bindings
  pub user : y.user ≡ x.user
  pub none : x.identities ≡ None
  pub also_none : y.identities ≡ None
  pub tags : SameTags pid x.tags y.tags

-- ---- what others leave of a process between the stops of its call

-- what is its own of a process, beside what is open: what it computes on, and its working directory
abbrev pub own_of : Process ℕ Image → Image × Place ℕ
own_of p = (p.image, p.cwd)

-- what counts of what is open where a path begins there: whether it is a directory, and its place
abbrev pub open_of : Opened ℕ → Bool × Option (Place ℕ)
open_of o = (is_dir o.what, o.place)

-- the directories where its paths may begin are inodes, and none stands in the process directory, where names come and go with processes
pub record BeginsOnNodes (pid : ℕ) (s : State ℕ Image) : Type 0 where
  pub working : (p : Process ℕ Image) → process pid s ≡ Some p → (i : ℕ) × (p.cwd.host ≡ Node i)
  pub open_directories : (fd : ℕ) (o : Opened ℕ) (p : Place ℕ) → opened pid fd s ≡ Some o → is_dir o.what ≡ true → o.place ≡ Some p
      → (i : ℕ) × (p.host ≡ Node i) × (body_is is_directory s.tree i ≡ true)

-- from one state to another the process has what it had, and the tree its shape; for an execve(2) the bytes of files are what they were, too
pub record StaysFor (exec : Bool) (pid : ℕ) (s t : State ℕ Image) : Type 0 where
  pub shape : HaveOneShape s t
  pub sound : IsSound t.tree
  pub bytes : exec ≡ true → IsReachedStill (λ n. n) s.tree t.tree
  pub own : option_map own_of (process pid t) ≡ option_map own_of (process pid s)
  pub opened : (fd : ℕ) → option_map open_of (opened pid fd t) ≡ option_map open_of (opened pid fd s)
  pub here : BeginsOnNodes pid s
  pub there : BeginsOnNodes pid t

-- the same of two stopped processes of one number
pub record StaysAt (exec : Bool) (pid : ℕ) (t u : Stopped) : Type 0 where
  pub first : t.pid ≡ pid
  pub second : u.pid ≡ pid
  pub stays : StaysFor exec pid t.state u.state

-- ---- plans

-- the plan of a call is the same, it leaves of both processes the same, and it looks up no name in the process directory there either
pub record PlanLasts (exec : Bool) (bindings : List MountText) (tags more : TagTable) (pid : ℕ) (t u : Stopped) (r : Request) : Type 0 where
  pub plan : (planned bindings more u r).0 ≡ (planned bindings tags t r).0
  pub stopped : StaysAt exec pid (planned bindings tags t r).1 (planned bindings more u r).1
  pub unmet : planned_unmet bindings more u r true ≡ true

-- of each request that is of some kind
abbrev pub PlansLastFor : (exec : Bool) → (Request → Type 0) → Type 0
PlansLastFor exec Asks =
    (bindings : List MountText) (tags more : TagTable) (pid : ℕ) (t u : Stopped) (r : Request) → Asks r → StaysAt exec pid t u → SameTags pid tags more
    → planned_unmet bindings tags t r true ≡ true → PlanLasts exec bindings tags more pid t u r

-- of every call but execve(2), and of execve(2), which reads files
abbrev pub PlansLast : Type 0
PlansLast = (exec : Bool) → PlansLastFor exec (λ r. is_execve r ≡ false)

abbrev pub ExecvePlansLast : Type 0
ExecvePlansLast = PlansLastFor true (λ r. is_execve r ≡ true)

-- ---- a first stop

-- what it leaves of the process, and keeps of it, is the same
pub record EntryLasts (x y : Tracing) (pid : ℕ) (s t : State ℕ Image) : Type 0 where
  pub image : image_in pid (entered y (calling 0 pid t)).1.state ≡ image_in pid (entered x (calling 0 pid s)).1.state
  pub pending : map.get (entered y (calling 0 pid t)).0.pending pid ≡ map.get (entered x (calling 0 pid s)).0.pending pid
  pub asks : asks y (calling 0 pid t) ≡ false

-- where it looked up no name in the process directory
abbrev pub EntriesLast : Type 0
EntriesLast =
    (x y : Tracing) (pid : ℕ) (s t : State ℕ Image) → GoesBySame pid x y → StaysFor (calls_execve pid s) pid s t → asks x (calling 0 pid s) ≡ false
    → EntryLasts x y pid s t

-- ---- a second stop

-- it leaves of the process what goes by its own, and notes the same
pub record ExitsAlike (x y : Tracing) (t u : Stopped) : Type 0 where
  pub image : image_at (exited y u).1 ≡ image_at (exited x t).1
  pub goes : GoesBySame t.pid (exited x t).0 (exited y u).0

abbrev pub ExitsGoByOwn : Type 0
ExitsGoByOwn =
    (x y : Tracing) (t u : Stopped) → u.pid ≡ t.pid → GoesBySame t.pid x y → map.get y.pending t.pid ≡ map.get x.pending t.pid → u.handed ≡ t.handed
    → image_at u ≡ image_at t → ExitsAlike x y t u
