-- Laws of the identity, in the words of its subject.
use Rattle.std.specs.Prelude.{◌≡◌, ◌⊎◌, ◌<◌, ◌^◌, ℕ, All, false, List, [], ◌∷◌, negsuc, Option, Some, None, if◌then◌else◌}
use Rattle.kr_calls.specs.rv_mem.Actions.{carried_out}
use Rattle.kr_calls.specs.rv_mem.Memory.{Memory}
use Rattle.kr_inode.specs.declared.user.User.{User}
use Rattle.kr_calls.specs.declared.request.Request.{Request}
use Rattle.kr_calls.specs.declared.stat.Stat.{Stat}
use Rattle.kr_calls.specs.Stats.{stat_layout}
use Rattle.pt_ident.specs.Identity.{Answered, Effect, Identity, Numbers, effect, is_privileged, number_bytes, numbers_in, on_memory}
use Rattle.pt_ident.specs.Showing.{is_of_tree, shown, shown_stat}
use Rattle.pt_ident.specs.declared.change.Shown.{Shown}
use Rattle.pt_ident.specs.Owners.{Remembered, shown_of}

-- what a call answers, and the identity behind it; None of a request that isn't one of these calls
abbrev pub outcome_of : Memory → Identity → Option Effect → Option Answered
outcome_of m i None = None
outcome_of m i (Some e) = Some (carried_out (on_memory i e) m).reply

-- a call stands with the memory as it is then
abbrev pub outcome : Identity → Request × Memory → Option Answered
outcome i call = outcome_of call.1 i (effect i call.0)

abbrev pub behind : Identity → Option Answered → Identity
behind i None = i
behind i (Some a) = a.identity

-- calls one after another
abbrev pub behind_calls : Identity → List (Request × Memory) → Identity
behind_calls i [] = i
behind_calls i (call ∷ calls) = behind_calls (behind i (outcome i call)) calls

-- ---- numbers come from numbers

abbrev pub IsOneOf : Numbers → ℕ → Type 0
IsOneOf n id = (id ≡ n.real) ⊎ ((id ≡ n.effective) ⊎ (id ≡ n.saved))

pub record AreOf (old new : Numbers) : Type 0 where
  pub real : IsOneOf old new.real
  pub effective : IsOneOf old new.effective
  pub saved : IsOneOf old new.saved

pub record HasNothingNew (old new : Identity) : Type 0 where
  pub users : AreOf old.user new.user
  pub of_group : AreOf old.group new.group
  pub same_groups : new.groups ≡ old.groups

-- a call without privilege makes no number: each number of the user behind it was one of the user's three before it, each of
-- the group one of the group's, and the groups are the same
abbrev pub UnprivilegedMakeNothing : Type 0
UnprivilegedMakeNothing = (i : Identity) (call : Request × Memory) → is_privileged i ≡ false → HasNothingNew i (behind i (outcome i call))

-- so whoever has no number 0 never gets any other than the first ones, by whatever calls
abbrev pub NobodyBecomesPrivileged : Type 0
NobodyBecomesPrivileged = (i : Identity) (calls : List (Request × Memory)) → ¬ IsOneOf i.user 0 → HasNothingNew i (behind_calls i calls)

-- a call that answers an error changes nothing
abbrev pub RefusedChangeNothing : Type 0
RefusedChangeNothing = (i : Identity) (call : Request × Memory) (n : ℕ) (j : Identity) → outcome i call ≡ Some (record { answer = negsuc n; identity = j }) → j ≡ i

-- ---- bytes

-- groups that are written into memory are read out of it as they were
abbrev pub GroupsAreReadBack : Type 0
GroupsAreReadBack = (groups : List ℕ) → All (λ n. n < 2 ^ 32) groups → numbers_in (number_bytes groups) ≡ groups

-- the structure of the same file with another owner and another mode
abbrev pub with_owner : Shown → Stat → Stat
with_owner o s =
    record { dev = s.dev; ino = s.ino; mode = o.mode; nlink = s.nlink; uid = o.uid; gid = o.gid; rdev = s.rdev; size = s.size; blksize = s.blksize; blocks = s.blocks }

-- the owner as whom the host user is shown
abbrev pub host_owner : User → (uid gid : ℕ) → Stat → Shown
host_owner user uid gid s = record { uid = shown user.uid uid s.uid; gid = shown user.gid gid s.gid; mode = s.mode }

-- what was said of a file of the tree stands over that
abbrev pub over_owner : Option Remembered → Stat → Shown → Shown
over_owner None s o = o
over_owner (Some owners) s o = if is_of_tree s.dev s.mode then shown_of owners s.ino o else o

-- numbers that have room in their fields
pub record HasFields (s : Stat) : Type 0 where
  pub dev : s.dev < 2 ^ 64
  pub ino : s.ino < 2 ^ 64
  pub mode : s.mode < 2 ^ 32
  pub uid : s.uid < 2 ^ 32
  pub gid : s.gid < 2 ^ 32

-- what is shown of a file is the structure of the same file with the owner and the mode that are to be seen
abbrev pub StatShowsTheOwner : Type 0
StatShowsTheOwner =
    (s : Stat) (user : User) (uid gid : ℕ) (owners : Option Remembered) → HasFields s → uid < 2 ^ 32 → gid < 2 ^ 32
    → shown_stat user uid gid owners (stat_layout s) ≡ stat_layout (with_owner (over_owner owners s (host_owner user uid gid s)) s)
