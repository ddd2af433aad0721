-- Where a path of execve(2) leads, whether a program stands there or not; and calls that are refused for their path, or for lists that
-- can't be read, which a tracer leaves to the plain kernel.
use Rattle.std.specs.Prelude.{◌≡◌, ◌≢◌, ℕ, List, [], Option, Some, Result, Ok, Err}
use Rattle.kr_first.specs.pr_base.Paths.{text_of}
use Rattle.kr_first.specs.pr_base.Texts.{Text}
use Rattle.kr_first.specs.pr_base.WalkFrame.{Target}
use Rattle.kr_first.specs.pr_base.declared.errno.Errno.{Errno}
use Rattle.kr_first.specs.pr_base.declared.errno.Errno.TheVariants.{EACCES}
use Rattle.kr_first.specs.pr_base.declared.path.WalkMode.TheVariants.{Look}
use Rattle.kr_first.specs.rv_mem.Actions.{carried_out}
use Rattle.kr_first.specs.rv_mem.Memory.{Memory}
use Rattle.law_edits.specs.pt_args.Walks.{and_then}
use Rattle.kr_first.specs.pt_bind.Binding.{index_of}
use Rattle.kr_first.specs.pt_bind.Tags.{TagTable}
use Rattle.law_edits.specs.pt_canon.TextWalk.{TextSurroundings}
use Rattle.law_edits.specs.pt_canon.declared.canon.Canon.{Canon}
use Rattle.law_edits.specs.pt_script.Programs.{base_from, canon_from, program_from}
use Rattle.kr_first.specs.kr_tree.declared.place.Place.{Place}
use Rattle.kr_first.specs.kr_view.View.{Row, plain}
use Rattle.kr_first.specs.kr_view.Walk.{PlaceTarget, place_walk}
use Rattle.law_edits.specs.kr_mounts.Standing.{texts_of}
use Rattle.kr_first.specs.kr_execve.Execution.{Program, execution}
use Rattle.law_edits.specs.kr_model.Applied.{cwd_of}
use Rattle.law_edits.specs.kr_model.ProcessDirectory.{around_of}
use Rattle.law_edits.specs.kr_model.State.{Image, State}
use Rattle.law_edits.specs.law_walks.Handed.{BothEnd, LeadsToFound}
use Rattle.law_edits.specs.law_walks.Scene.{IsMatched}
use Rattle.law_edits.specs.law_walks.Settled.{host_text}
use Rattle.law_programs.specs.Executing.{IsShownAlike, done_with_mounts, read_by_kernel}
use Rattle.law_programs.specs.Finding.{WorksAt, scene_here, space_here, texts_here}

-- ---- the path

-- a tracer's own walk along it
abbrev pub canon_along : TextSurroundings → Option (List ℕ) → List ℕ → Result Canon Errno
canon_along texts working path = and_then (base_from working path) (canon_from texts path)

module _ {X : Type 0} (table : List Row) (s : State ℕ X) (caller : ℕ) (tags : TagTable) (path : List ℕ) where
  -- both walks end there, the kernel's from a base
  pub record IsWalkedTo (base : Place ℕ) (target : PlaceTarget) (text : Text) : Type 0 where
    pub start : Text
    pub target_text : Target Text Text
    pub both : BothEnd (scene_here table s caller tags) Look base start path target target_text
    pub found : target_text.found ≡ Some text

  -- what was found stands at a guest text, by whose host text and index the tracer knows it
  pub record IsLedTo (base : Place ℕ) (target : PlaceTarget) (canon : Canon) : Type 0 where
    pub place : Place ℕ
    pub text : Text
    pub found : target.found ≡ Some place
    pub host : canon.host ≡ text_of (host_text (space_here table s caller tags) text)
    pub index : canon.index ≡ index_of (texts_of table) text
    pub walked : path ≢ [] → IsWalkedTo base target text
    -- a path that isn't empty can be swapped: the plain kernel's walk along the host text comes to the same
    pub handed : path ≢ [] → (other : Place ℕ) → LeadsToFound (scene_here table s caller tags) Look other target place text

  pub data LedAlike (base : Place ℕ) : Result PlaceTarget Errno → Result Canon Errno → Type 0 where
    no_lead : (e : Errno) → LedAlike base (Err e) (Err e)
    one_lead : {target : PlaceTarget} {canon : Canon} → IsLedTo base target canon → LedAlike base (Ok target) (Ok canon)

abbrev pub PathsLeadAlike : Type 0 → Type 0
PathsLeadAlike X =
    (table : List Row) (s : State ℕ X) (caller : ℕ) (tags : TagTable) (base : Place ℕ) (working : Option (List ℕ)) (path : List ℕ) → IsMatched (scene_here table s caller tags) → WorksAt table s caller tags base working
    → LedAlike table s caller tags path base (place_walk (around_of table caller s) Look base path).answer (canon_along (texts_here table s caller tags) working path)

-- ---- the call

-- a call of a process in both states, whatever its lists are
pub record IsBegun (table : List Row) (s w : State ℕ Image) (pid : ℕ) (tags : TagTable) (working : Option (List ℕ)) : Type 0 where
  pub matched : IsMatched (scene_here table s pid tags)
  pub shown : IsShownAlike s w pid
  pub base : Place ℕ
  pub at : cwd_of pid s ≡ Some base
  pub works : WorksAt table s pid tags base working
  pub other : Place ℕ
  pub also_at : cwd_of pid w ≡ Some other
  pub same : other.host ≡ base.host

-- both kernels find the same error
abbrev pub AreRefused : Result Program Errno → Result Program Errno → Type 0
AreRefused one other = (e : Errno) × (one ≡ Err e) × (other ≡ Err e)

-- where a tracer's walk fails, the kernel with mounts answers the error of that
abbrev pub LostExecutionsAgree : Type 0
LostExecutionsAgree =
    (table : List Row) (s w : State ℕ Image) (pid : ℕ) (tags : TagTable) (path : List ℕ) (args env : ℕ) (m : Memory) (working : Option (List ℕ)) (e : Errno)
    → IsBegun table s w pid tags working → canon_along (texts_here table s pid tags) working path ≡ Err e
    → (done_with_mounts table s w pid tags path args env m).reply ≡ Err e

-- where the tracer finds no program where the path leads, both find the error of that, whatever their lists are
abbrev pub MissingExecutionsAgree : Type 0
MissingExecutionsAgree =
    (table : List Row) (s w : State ℕ Image) (pid : ℕ) (tags : TagTable) (path : List ℕ) (args env : ℕ) (m : Memory) (working : Option (List ℕ)) (canon : Canon) (e : Errno) (put : ℕ) (n : Memory)
    → IsBegun table s w pid tags working → path ≢ [] → canon_along (texts_here table s pid tags) working path ≡ Ok canon → program_from (texts_here table s pid tags) working path ≡ Err e
    → ((done_with_mounts table s w pid tags path args env m).reply ≡ Err e) × ((carried_out (execution plain pid w canon.host put env) n).reply ≡ Err e)

-- where both read no lists, and the plain kernel is handed the host text of a path, whatever that leads to
abbrev pub UnreadExecutionsAgree : Type 0
UnreadExecutionsAgree =
    (table : List Row) (s w : State ℕ Image) (pid : ℕ) (tags : TagTable) (path : List ℕ) (args env : ℕ) (m : Memory) (working : Option (List ℕ)) (canon : Canon) (e : Errno) (put : ℕ) (n : Memory)
    → IsBegun table s w pid tags working → path ≢ [] → canon_along (texts_here table s pid tags) working path ≡ Ok canon → (read_by_kernel args env m).reply ≡ Err e → (read_by_kernel put env n).reply ≡ Err e
    → AreRefused (done_with_mounts table s w pid tags path args env m).reply (carried_out (execution plain pid w canon.host put env) n).reply

-- an empty path leads to a directory, and is left as it is
abbrev pub EmptyExecutionsAgree : Type 0
EmptyExecutionsAgree =
    (table : List Row) (s w : State ℕ Image) (pid : ℕ) (tags : TagTable) (args env : ℕ) (m : Memory) (working : Option (List ℕ)) (n : Memory) → IsBegun table s w pid tags working
    → ((done_with_mounts table s w pid tags [] args env m).reply ≡ Err EACCES) × ((carried_out (execution plain pid w [] args env) n).reply ≡ Err EACCES)
