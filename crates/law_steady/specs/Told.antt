-- Whether a call alters the shape of the tree and the bytes of files, exactly.
use Rattle.std.specs.Prelude.{◌≡◌, ℕ, true, List}
use Rattle.law_lawful.specs.rv_mem.Memory.{Memory}
use Rattle.law_lawful.specs.kr_calls.declared.request.Request.{Request}
use Rattle.law_lawful.specs.kr_tree.Lawful.{IsKept}
use Rattle.law_lawful.specs.kr_tree.Tree.{Tree}
use Rattle.law_lawful.specs.kr_tree.declared.place.Host.{Host}
use Rattle.law_lawful.specs.kr_view.View.{Row}
use Rattle.law_lawful.specs.kr_model.Applied.{Mounts, all_applied, applied, images}
use Rattle.law_lawful.specs.kr_model.Change.{Change, End, MountOf}
use Rattle.law_lawful.specs.kr_model.Judged.{HasShape, leaves_bytes, leaves_shape}
use Rattle.law_lawful.specs.kr_model.Known.{Known}
use Rattle.law_lawful.specs.kr_model.Lawful.{IsLawful}
use Rattle.law_lawful.specs.kr_model.Operation.{IsNoExec}
use Rattle.law_lawful.specs.kr_model.Seen.{Seen}
use Rattle.law_lawful.specs.kr_model.State.{Image, State}
use Rattle.law_lawful.specs.Laws.{CanAllBeMade}
use Rattle.law_steady.specs.Along.{IsToldAlong}
use Rattle.law_steady.specs.Bytes.{HasBytes, alters_bytes_of}
use Rattle.law_steady.specs.Calls.{replacing, replied}
use Rattle.law_steady.specs.Exact.{alters_shape_of}

-- of changes of a lawful state that can all be made
pub record AreTold {M : Type 0} (mounts : Mounts M) (pid : ℕ) (s : State M Image) (cs : List Change) : Type 0 where
  pub shape : IsToldAlong alters_shape_of HasShape mounts pid s cs
  pub bytes : IsToldAlong alters_bytes_of HasBytes mounts pid s cs

-- those of every call but execve(2)
abbrev pub CallsAreTold : Type 0 → Type 0
CallsAreTold M =
    (number : M → ℕ) (table : List Row) (mounts : Mounts M) (pid : ℕ) (s : State M Image) (r : Request) (seen : Seen) (k : Known) (m : Memory) → IsNoExec r → IsLawful number table s
    → CanAllBeMade number table mounts pid s (replied pid r seen k m) → AreTold mounts pid s (replied pid r seen k m)

-- and those of a new program in the caller's place
abbrev pub ProgramsAreTold : Type 0 → Type 0
ProgramsAreTold M =
    (number : M → ℕ) (table : List Row) (mounts : Mounts M) (pid : ℕ) (s : State M Image) (image : Image) (brk : ℕ) (from : MountOf) (host : Host) (dir : ℕ) (name : List ℕ)
    → IsLawful number table s → CanAllBeMade number table mounts pid s (replacing image brk from host dir name) → AreTold mounts pid s (replacing image brk from host dir name)

-- ---- what leaves both

abbrev pub LeavesBoth : Tree → Tree → Type 0
LeavesBoth t u = HasShape t u × HasBytes t u

-- a tree is left as it is
abbrev pub SameTreesHaveBoth : Type 0
SameTreesHaveBoth = (t : Tree) → LeavesBoth t t

-- the end of a process leaves both
abbrev pub EndsLeaveBoth : Type 0 → Type 0
EndsLeaveBoth M = (mounts : Mounts M) (pid status : ℕ) (s : State M Image) → IsKept s.tree → LeavesBoth s.tree (applied images mounts pid (End status) s).tree

-- so do changes none of which can alter either, one behind the other, whether they can be made or not
abbrev pub QuietChangesLeaveBoth : Type 0 → Type 0
QuietChangesLeaveBoth M =
    (mounts : Mounts M) (pid : ℕ) (s : State M Image) (cs : List Change) → IsKept s.tree → leaves_shape cs ≡ true → leaves_bytes cs ≡ true
    → LeavesBoth s.tree (all_applied images mounts pid cs s).tree
