-- Every call but execve is allowed, of what it is told of its paths and of arguments that decoding gives.
use Rattle.std.specs.Prelude.{ℕ, ◌≡◌, ◌≢◌, ◌<◌, ◌^◌, Bool, true, false, List, [], Ok, Option, Some, None}
use Rattle.law_lawful.specs.rv_mem.Actions.{carried_out}
use Rattle.law_lawful.specs.rv_mem.Memory.{Memory}
use Rattle.law_lawful.specs.rv_mem.declared.regs.Regs.{Regs}
use Rattle.law_lawful.specs.kr_calls.CallTable.{Doing, line}
use Rattle.law_lawful.specs.kr_calls.Decoding.{decoding}
use Rattle.law_lawful.specs.kr_calls.Kinds.{Kind}
use Rattle.law_lawful.specs.kr_calls.PathTable.{PathUse, path_at}
use Rattle.law_lawful.specs.kr_calls.declared.request.Request.{Request}
use Rattle.law_lawful.specs.kr_calls.declared.request.Request.TheVariants as call
use Rattle.law_lawful.specs.kr_tree.Lawful.{AreBytes}
use Rattle.law_lawful.specs.kr_tree.Tree.{Tree}
use Rattle.law_lawful.specs.kr_view.View.{Row}
use Rattle.law_lawful.specs.kr_model.Applied.{Mounts}
use Rattle.law_lawful.specs.kr_model.Operation.{IsNoExec, operation}
use Rattle.law_lawful.specs.kr_model.Seen.{Seen, NoPath, WalkFails, LooksUp, ReadsLink, Opens, TakesEntry, MakesEntry, Links, Moves, NamesDirectory}
use Rattle.law_allowed.specs.Texts.{IsText}
use Rattle.law_allowed.specs.Allowed.{HoldsBytes, IsAllowed, IsAllowedWhere}
use Rattle.law_allowed.specs.Resting.{HasSmallNumbers, IsLookedIn, IsTakenIn, IsMadeIn, IsOpeningIn}

-- what decoding gives of arguments: two descriptors of dup3(2) that aren't one, owners of 32 bits, and texts of links
abbrev pub IsGivable : Request → Type 0
IsGivable (call.Dup3 old new flags) = old ≢ new
IsGivable (call.Fchown fd uid gid) = (uid < 2 ^ 32) × (gid < 2 ^ 32)
IsGivable (call.Fchownat dirfd path uid gid flags) = (uid < 2 ^ 32) × (gid < 2 ^ 32)
IsGivable (call.Symlinkat text dirfd path) = AreBytes text × IsText text
IsGivable _ = Unit {0}

module _ {M : Type 0} (number : M → ℕ) (table : List Row) (mounts : Mounts M) where
  -- what is told of the paths of a call is so in the tree, and in the mounts of its first path
  abbrev pub IsToldIn : Tree → Seen → Type 0
  IsToldIn t NoPath = Unit {0}
  IsToldIn t (WalkFails e) = Unit {0}
  IsToldIn t (LooksUp looked) = IsLookedIn number table mounts t looked
  IsToldIn t (ReadsLink looked text) = IsLookedIn number table mounts t looked
  IsToldIn t (Opens opening) = IsOpeningIn number table mounts t opening
  IsToldIn t (TakesEntry taken) = IsTakenIn number table mounts t taken
  IsToldIn t (MakesEntry made) = IsMadeIn number table mounts t made
  IsToldIn t (Links old new same_mount) = IsLookedIn number table mounts t old × IsMadeIn number table mounts t new
  IsToldIn t (Moves old new same_mount) = IsTakenIn number table mounts t old × IsTakenIn number table mounts t new
  IsToldIn t (NamesDirectory name) = Unit {0}

  -- all that a call rests on
  abbrev pub RestsOn : Seen → Tree → ℕ → Type 0
  RestsOn seen t next = HasSmallNumbers t next × IsToldIn t seen

-- a call that changes nothing, and ends nobody
abbrev pub changes_nothing : List Kind → Option ℕ → Bool
changes_nothing [] None = true
changes_nothing _ word = false

abbrev pub is_silent : Doing → Bool
is_silent does = changes_nothing does.makes does.ends_by

-- one whose line in the table says so is allowed, whatever it is told
abbrev pub SilentCallsAreAllowed : Type 0 → Type 0
SilentCallsAreAllowed M =
    (number : M → ℕ) (table : List Row) (mounts : Mounts M) (pid : ℕ) (r : Request) (seen : Seen) → is_silent (line r).does ≡ true
    → IsAllowed number table mounts pid (λ k. operation pid r seen k)

abbrev pub OperationIsAllowed : Type 0 → Type 0
OperationIsAllowed M =
    (number : M → ℕ) (table : List Row) (mounts : Mounts M) (pid : ℕ) (r : Request) (seen : Seen) → IsNoExec r → IsGivable r
    → IsAllowedWhere number table mounts pid (RestsOn number table mounts seen) (λ k. operation pid r seen k)

-- and the paths that it gives are texts, of bytes
abbrev pub HasTextPaths : Request → Type 0
HasTextPaths r = (k : ℕ) (u : PathUse) → path_at r k ≡ Some u → IsText u.text × AreBytes u.text

-- so decoding gives, of a memory that holds bytes
abbrev pub DecodedAreGivable : Type 0
DecodedAreGivable = (regs : Regs) (memory : Memory) (r : Request) → HoldsBytes memory.pages → (carried_out (decoding regs) memory).reply ≡ Ok r → IsGivable r × HasTextPaths r
