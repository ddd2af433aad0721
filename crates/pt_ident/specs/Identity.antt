-- The user and the groups that a process believes in (credentials(7)), and what its calls make of them (section 2 of the
-- manual; the order of the tests is our own). The kernel below knows nothing of it: files are used as the host user.
use Rattle.std.specs.Prelude.{ℕ, ◌*◌, ◌==◌, ◌&&◌, ◌||◌, Bool, true, false, nat_lt, List, [], ◌∷◌, length, slice_index, ℤ, pos, negsuc, neg_ℤ, Option, Some, None, Result, Ok, Err, if◌then◌else◌}
use Rattle.std.specs.Int.{to_le_bytes, from_le_bytes, w32}
use Rattle.std.specs.List.{flat_map, list_any}
use Rattle.kr_inode.specs.pr_base.declared.errno.Errno.{Errno}
use Rattle.kr_inode.specs.pr_base.declared.errno.Errno.TheVariants.{EPERM, EFAULT, EINVAL}
use Rattle.kr_inode.specs.pr_base.Errno.{errno_number}
use Rattle.kr_calls.specs.rv_mem.Actions.{Action, Done, MayUse, WriteBytes, read_if_allowed, write_if_allowed}
use Rattle.kr_calls.specs.rv_mem.declared.rights.Use.TheVariants.{Read, Write}
use Rattle.kr_calls.specs.declared.request.Request.{Request}
use Rattle.kr_calls.specs.declared.request.Request.TheVariants as call

-- the three numbers of a user, or those of a group
pub record Numbers : Type 0 where
  pub real : ℕ
  pub effective : ℕ
  pub saved : ℕ

pub record Identity : Type 0 where
  pub user : Numbers
  pub group : Numbers
  pub groups : List ℕ

-- three numbers in this order, and as a list
abbrev pub numbers_of : List ℕ → Numbers
numbers_of three = record { real = slice_index three 0; effective = slice_index three 1; saved = slice_index three 2 }

abbrev pub three_of : Numbers → List ℕ
three_of n = n.real ∷ n.effective ∷ n.saved ∷ []

-- ---- how it begins, and what a fork and an exec make of it

abbrev pub all_are : ℕ → Numbers
all_are id = record { real = id; effective = id; saved = id }

abbrev pub starting : (uid gid : ℕ) → Identity
starting uid gid = record { user = all_are uid; group = all_are gid; groups = gid ∷ [] }

-- a child has all that its parent had
abbrev pub child_of : Identity → Identity
child_of parent = parent

-- a new program saves what is effective
abbrev pub saved_by_exec : Numbers → Numbers
saved_by_exec n = record { real = n.real; effective = n.effective; saved = n.effective }

abbrev pub after_exec : Identity → Identity
after_exec i = record { user = saved_by_exec i.user; group = saved_by_exec i.group; groups = i.groups }

-- ---- setting three numbers, of a user or of a group alike. Whoever has the effective user 0 is privileged

abbrev pub is_privileged : Identity → Bool
is_privileged i = i.user.effective == 0

-- all ones, which stand for no number
abbrev pub no_number : ℕ
no_number = 0xffffffff

abbrev pub is_given : ℕ → Bool
is_given id = if id == no_number then false else true

-- the number that is given, or the old one
abbrev pub or_old : (id old : ℕ) → ℕ
or_old id old = if id == no_number then old else id

abbrev pub is_among : List ℕ → ℕ → Bool
is_among ids id = list_any (λ own. own == id) ids

-- whether it is one of these, or none
abbrev pub is_allowed : List ℕ → ℕ → Bool
is_allowed ids id = id == no_number || is_among ids id

-- setuid(2), setgid(2)
abbrev pub set_one : Bool → (id : ℕ) → Numbers → Result Numbers Errno
set_one privileged id old =
    if id == no_number then Err EINVAL
    else if privileged then Ok (all_are id)
    else if is_among (old.real ∷ old.saved ∷ []) id then Ok (record { real = old.real; effective = id; saved = old.saved })
    else Err EPERM

-- whether the new effective number is saved: a real one is given, or an effective one other than the old real one
abbrev pub is_saved : (real effective : ℕ) → Numbers → Bool
is_saved real effective old = is_given real || (is_given effective && (if effective == old.real then false else true))

abbrev pub with_two : (real effective : ℕ) → Numbers → Numbers
with_two real effective old =
    record { real = or_old real old.real; effective = or_old effective old.effective; saved = if is_saved real effective old then or_old effective old.effective else old.saved }

-- setreuid(2), setregid(2)
abbrev pub set_two : Bool → (real effective : ℕ) → Numbers → Result Numbers Errno
set_two privileged real effective old =
    if privileged || (is_allowed (old.real ∷ old.effective ∷ []) real && is_allowed (three_of old) effective)
    then Ok (with_two real effective old) else Err EPERM

abbrev pub with_three : (real effective saved : ℕ) → Numbers → Numbers
with_three real effective saved old = record { real = or_old real old.real; effective = or_old effective old.effective; saved = or_old saved old.saved }

-- setresuid(2), setresgid(2)
abbrev pub set_three : Bool → (real effective saved : ℕ) → Numbers → Result Numbers Errno
set_three privileged real effective saved old =
    if privileged || (is_allowed (three_of old) real && is_allowed (three_of old) effective && is_allowed (three_of old) saved)
    then Ok (with_three real effective saved old) else Err EPERM

-- ---- what a call comes to: an answer, with the identity behind it, or what is to be done in the memory of the process

pub data Effect : Type 0 where
  Answers : ℤ → Identity → Effect
  -- three numbers are written, each to its address
  TellsNumbers : Numbers → (real effective saved : ℕ) → Effect
  -- the groups are written to an address
  TellsGroups : (at : ℕ) → Effect
  -- as many groups are read from an address and kept
  TakesGroups : (count at : ℕ) → Effect

abbrev pub refusal : Errno → ℤ
refusal e = neg_ℤ (pos (errno_number e))

abbrev pub tells : Identity → ℕ → Effect
tells i n = Answers (pos n) i

abbrev pub refuses : Identity → Errno → Effect
refuses i e = Answers (refusal e) i

-- what is set is kept, unless it was refused
abbrev pub keeps_user : Identity → Result Numbers Errno → Effect
keeps_user i (Ok user) = Answers (pos 0) (record { user = user; group = i.group; groups = i.groups })
keeps_user i (Err e) = refuses i e

abbrev pub keeps_group : Identity → Result Numbers Errno → Effect
keeps_group i (Ok group) = Answers (pos 0) (record { user = i.user; group = group; groups = i.groups })
keeps_group i (Err e) = refuses i e

-- a size of 32 bits that isn't negative
abbrev pub natural : ℤ → Option ℕ
natural (pos n) = Some n
natural (negsuc n) = None

-- getgroups(2): the size 0 asks for the number of groups; EINVAL of a negative size, and of one that is too small
abbrev pub get_groups : Identity → Option ℕ → (list : ℕ) → Effect
get_groups i None list = refuses i EINVAL
get_groups i (Some size) list =
    if size == 0 then tells i (length i.groups) else if nat_lt size (length i.groups) then refuses i EINVAL else TellsGroups list

-- NGROUPS_MAX
abbrev pub most_groups : ℕ
most_groups = 65536

-- setgroups(2): EPERM without privilege; EINVAL of a negative size, and of one that is too large
abbrev pub take_groups : Identity → Option ℕ → (list : ℕ) → Effect
take_groups i None list = refuses i EINVAL
take_groups i (Some size) list = if nat_lt most_groups size then refuses i EINVAL else TakesGroups size list

abbrev pub set_groups : Identity → Option ℕ → (list : ℕ) → Effect
set_groups i size list = if is_privileged i then take_groups i size list else refuses i EPERM

-- None of a request that isn't one of these calls
abbrev pub effect : Identity → Request → Option Effect
effect i call.Getuid = Some (tells i i.user.real)
effect i call.Geteuid = Some (tells i i.user.effective)
effect i call.Getgid = Some (tells i i.group.real)
effect i call.Getegid = Some (tells i i.group.effective)
effect i (call.Getresuid ruid euid suid) = Some (TellsNumbers i.user ruid euid suid)
effect i (call.Getresgid rgid egid sgid) = Some (TellsNumbers i.group rgid egid sgid)
effect i (call.Setuid uid) = Some (keeps_user i (set_one (is_privileged i) uid i.user))
effect i (call.Setgid gid) = Some (keeps_group i (set_one (is_privileged i) gid i.group))
effect i (call.Setreuid ruid euid) = Some (keeps_user i (set_two (is_privileged i) ruid euid i.user))
effect i (call.Setregid rgid egid) = Some (keeps_group i (set_two (is_privileged i) rgid egid i.group))
effect i (call.Setresuid ruid euid suid) = Some (keeps_user i (set_three (is_privileged i) ruid euid suid i.user))
effect i (call.Setresgid rgid egid sgid) = Some (keeps_group i (set_three (is_privileged i) rgid egid sgid i.group))
effect i (call.Getgroups size list) = Some (get_groups i (natural size) list)
effect i (call.Setgroups size list) = Some (set_groups i (natural size) list)
effect i _ = None

-- ---- the whole of a call, on the memory of its process

pub record Answered : Type 0 where
  pub answer : ℤ
  pub identity : Identity

abbrev pub answered : ℤ → Identity → Action Answered
answered n i = Done (record { answer = n; identity = i })

-- numbers as they stand in memory, four bytes each, the lowest first
abbrev pub number_bytes : List ℕ → List ℕ
number_bytes ids = flat_map (to_le_bytes w32) ids

abbrev pub numbers_in : List ℕ → List ℕ
numbers_in (a ∷ b ∷ c ∷ d ∷ bytes) = from_le_bytes w32 (a ∷ b ∷ c ∷ d ∷ []) ∷ numbers_in bytes
numbers_in _ = []

abbrev pub with_groups : Identity → List ℕ → Identity
with_groups i groups = record { user = i.user; group = i.group; groups = groups }

-- EFAULT where one of the three addresses can't be written, and then nothing is
abbrev pub tell_numbers : Identity → Numbers → (real effective saved : ℕ) → Action Answered
tell_numbers i n real effective saved =
    MayUse real 4 (Write ∷ []) (λ first. MayUse effective 4 (Write ∷ []) (λ second. MayUse saved 4 (Write ∷ []) (λ third.
    if first && second && third
    then WriteBytes real (to_le_bytes w32 n.real) (WriteBytes effective (to_le_bytes w32 n.effective) (WriteBytes saved (to_le_bytes w32 n.saved) (answered (pos 0) i)))
    else answered (refusal EFAULT) i)))

-- EFAULT of a list that can't be written, or read
abbrev pub on_memory : Identity → Effect → Action Answered
on_memory i (Answers n after) = answered n after
on_memory i (TellsNumbers n real effective saved) = tell_numbers i n real effective saved
on_memory i (TellsGroups at) = write_if_allowed at (number_bytes i.groups) (answered (refusal EFAULT) i) (answered (pos (length i.groups)) i)
on_memory i (TakesGroups count at) =
    read_if_allowed at (4 * count) (Read ∷ []) (answered (refusal EFAULT) i) (λ bytes. answered (pos 0) (with_groups i (numbers_in bytes)))
