-- What a watcher does at the two stops of a call, and as processes come and go, so that each process believes in an identity of
-- its own: calls on users and groups are answered in place of the kernel, which is asked for no call; the host user is shown as
-- another; and where that one is root, changes of owners and modes seem to be made where the host refuses them, and are remembered.
use Rattle.std.specs.FinMap as map
use Rattle.std.specs.Prelude.{ℕ, ◌+◌, ◌==◌, ◌&&◌, ◌^◌, ◌%◌, Bool, true, zero, suc, List, [], ◌∷◌, ℤ, Option, Some, None, Result, Ok, Err, if◌then◌else◌}
use Rattle.std.specs.Int.{cast_unsigned, to_le_bytes, w64}
use Rattle.std.specs.Ordering.{nat_cmp}
use Rattle.elf_load.specs.pr_base.Fields.{little_endian}
use Rattle.elf_load.specs.pr_base.declared.errno.Errno.{Errno}
use Rattle.elf_load.specs.pr_base.declared.errno.Errno.TheVariants.{EPERM}
use Rattle.pt_ident.specs.rv_mem.Actions.{Action, Done, WriteBytes, carried_out, read_if_allowed, write_if_allowed}
use Rattle.pt_ident.specs.rv_mem.declared.rights.Use.TheVariants.{Read, Write}
use Rattle.pt_ident.specs.kr_inode.declared.user.User.{User}
use Rattle.pt_ident.specs.kr_calls.declared.request.Request.{Request}
use Rattle.pt_ident.specs.kr_calls.declared.request.Request.TheVariants as call
use Rattle.kr_stops.specs.Editing.{after_request, decoded_at, memory_at, register_at, with_memory, with_register}
use Rattle.kr_stops.specs.Stopped.{Stopped}
use Rattle.kr_stops.specs.Watching.{Watcher}
use Rattle.pt_ident.specs.Identity.{Effect, Identity, after_exec, effect, on_memory, refusal}
use Rattle.pt_ident.specs.IdentityTable.{IdentityTable, after_birth, after_end, identity_at, shown_owners, starting_table, starts_as_root, with_identity, with_noted}
use Rattle.pt_ident.specs.Showing.{auxiliary_values, shown_stat}
use Rattle.pt_ident.specs.Owners.{modes}
use Rattle.pt_ident.specs.declared.change.Change.{Change}
use Rattle.pt_ident.specs.declared.change.Change.TheVariants.{Own, Mode}
use Rattle.pt_faker.specs.Carrying.{on_its_memory}
use Rattle.pt_faker.specs.declared.due.Due.{Due}
use Rattle.pt_faker.specs.declared.due.Due.TheVariants.{Tells, Remembers, ForgivesRoot, ShowsOwner, BeginsProgram}

-- what is kept: the host user, the identities, and for each process between the stops of a call what is due at the second
pub record Faking : Type 0 where
  pub user : User
  pub identities : IdentityTable
  pub dues : map.FinMap nat_cmp Due

-- nothing is due at first
abbrev pub starting_faking : User → (uid gid : ℕ) → Faking
starting_faking user uid gid = record { user = user; identities = starting_table uid gid; dues = map.empty }

abbrev pub keeping : (pid : ℕ) → Identity → Faking → Faking
keeping pid i f = record { user = f.user; identities = with_identity pid i f.identities; dues = f.dues }

-- nothing is due of a process any more
abbrev pub without_due : (pid : ℕ) → Faking → Faking
without_due pid f = record { user = f.user; identities = f.identities; dues = map.remove f.dues pid }

abbrev pub dues_with : (pid : ℕ) → Option Due → map.FinMap nat_cmp Due → map.FinMap nat_cmp Due
dues_with pid None dues = map.remove dues pid
dues_with pid (Some due) dues = map.insert dues pid due

abbrev pub with_due : (pid : ℕ) → Option Due → Faking → Faking
with_due pid due f = record { user = f.user; identities = f.identities; dues = dues_with pid due f.dues }

-- ---- the registers of a call on RISC-V

-- a7
abbrev pub number_register : ℕ
number_register = 17

-- a0
abbrev pub answer_register : ℕ
answer_register = 10

-- the stack pointer
abbrev pub stack_register : ℕ
stack_register = 2

-- no call has the number of all ones
abbrev pub no_call : ℕ
no_call = 0xffff_ffff_ffff_ffff

abbrev pub word_of : ℤ → ℕ
word_of z = cast_unsigned w64 z

-- the number of its call is taken away
abbrev pub no_longer_called : Stopped → Stopped
no_longer_called t = with_register number_register no_call t

-- it is given back, and an answer is told
abbrev pub told : (number : ℕ) (answer : ℤ) → Stopped → Stopped
told number answer t = with_register answer_register (word_of answer) (with_register number_register number t)

abbrev pub has_answered_zero : Stopped → Bool
has_answered_zero t = register_at t answer_register == 0

-- ---- the first stop

abbrev pub is_root : Faking → Bool
is_root f = starts_as_root f.identities

abbrev pub if_root : Bool → Due → Option Due
if_root root due = if root then Some due else None

-- what is due of a call that the kernel carries out, by whether processes start as root
abbrev pub due_of : Bool → Request → Option Due
due_of root (call.Fchown fd uid gid) = if_root root (Remembers (Own uid gid))
due_of root (call.Fchownat dirfd path uid gid flags) = if_root root (Remembers (Own uid gid))
due_of root (call.Fchmod fd mode) = if_root root (Remembers (Mode (mode % modes)))
due_of root (call.Fchmodat dirfd path mode) = if_root root (Remembers (Mode (mode % modes)))
due_of root (call.Chroot path) = if_root root ForgivesRoot
due_of root (call.Fstat fd buf) = Some (ShowsOwner buf)
due_of root (call.Newfstatat dirfd path buf flags) = Some (ShowsOwner buf)
due_of root (call.Execve path args env) = Some BeginsProgram
due_of root _ = None

-- a call on users and groups is carried out here, and the kernel finds no call; what it is told is due
abbrev pub after_effect : Faking → Request → Stopped → Option Effect → Faking × Stopped
after_effect f r t None = (with_due t.pid (due_of (is_root f) r) (keeping t.pid (identity_at f.identities t.pid) f), t)
after_effect f r t (Some e) =
    let done = carried_out (on_memory (identity_at f.identities t.pid) e) (memory_at t) in (
      with_due t.pid (Some (Tells (register_at t number_register) done.reply.answer)) (keeping t.pid done.reply.identity f),
      no_longer_called (with_memory done.memory t),
    )

-- a call that can't be read is left to the kernel
abbrev pub after_decoding : Faking → Stopped → Result Request Errno → Faking × Stopped
after_decoding f t (Ok r) = after_effect f r t (effect (identity_at f.identities t.pid) r)
after_decoding f t (Err e) = (without_due t.pid f, t)

abbrev pub entered : Faking → Stopped → Faking × Stopped
entered f t = after_decoding f (after_request t) (decoded_at t).reply

-- ---- the second stop

-- the bytes that the call has just written are read with the right to write
abbrev pub show_owner : User → IdentityTable → (at : ℕ) → Action (Unit {0})
show_owner user table at = read_if_allowed at 128 (Write ∷ []) (Done tt) (λ bytes. WriteBytes at (shown_stat user table.uid table.gid (shown_owners table) bytes) (Done tt))

abbrev pub next_word : ℕ → ℕ
next_word at = (at + 8) % 2 ^ 64

-- the word at an address, if it can be read
abbrev pub word_at : (at : ℕ) → (ℕ → Action (Unit {0})) → Action (Unit {0})
word_at at next = read_if_allowed at 8 (Read ∷ []) (Done tt) (λ bytes. next (little_endian bytes))

-- what stands behind a list of at most `most` words, its last one 0
unfoldable pub behind_list : (most at : ℕ) → (ℕ → Action (Unit {0})) → Action (Unit {0})
behind_list zero at next = Done tt
behind_list (suc most) at next = word_at at (λ word. if word == 0 then next (next_word at) else behind_list most (next_word at) next)

-- the values of pairs that stand one behind the other
abbrev pub put_values : (at : ℕ) → List ℕ → Action (Unit {0})
put_values at [] = Done tt
put_values at (v ∷ vs) = write_if_allowed at (to_le_bytes w64 v) (Done tt) (put_values ((at + 16) % 2 ^ 64) vs)

-- at most 4,096 arguments, or texts of the environment, and their end
abbrev pub most_words : ℕ
most_words = 4097

-- the stack pointer leads to the number of arguments, behind which stand their addresses, those of the environment, and the
-- pairs of the auxiliary vector; AT_UID is the sixth of them
abbrev pub show_identity : Identity → (stack : ℕ) → Action (Unit {0})
show_identity i stack =
    behind_list most_words (next_word stack) (λ environment. behind_list most_words environment (λ pairs. put_values ((pairs + 88) % 2 ^ 64) (auxiliary_values i)))

-- an answer that is an error of permission becomes 0
abbrev pub forgiven : Bool → Stopped → Stopped
forgiven may t = if may && (register_at t answer_register == word_of (refusal EPERM)) then with_register answer_register 0 t else t

-- what a call says of its target is remembered where it is told 0, and nothing otherwise
abbrev pub remembered : Change → (target : Option ℕ) → (answer : ℕ) → IdentityTable → IdentityTable
remembered change target answer table = if answer == 0 then with_noted target change table else table

-- the same of whatever is due
abbrev pub remembered_of : Option Due → (target : Option ℕ) → (answer : ℕ) → IdentityTable → IdentityTable
remembered_of (Some (Remembers change)) target answer table = remembered change target answer table
remembered_of _ target answer table = table

-- what is done only where the call answered 0. A new program begins with 0 in each register but the stack pointer
abbrev pub if_done : {A : Type 0} → Stopped → A → A → A
if_done t done failed = if has_answered_zero t then done else failed

abbrev pub begin_program : Faking → Stopped → Faking × Stopped
begin_program f t =
    let i = after_exec (identity_at f.identities t.pid) in
    (keeping t.pid i f, on_its_memory (show_identity i (register_at t stack_register)) t)

abbrev pub remember : Change → Faking → Stopped → Faking × Stopped
remember change f t =
    let u = forgiven true t in
    (record { user = f.user; identities = remembered change t.handed.target (register_at u answer_register) f.identities; dues = f.dues }, u)

abbrev pub after_due : Faking → Stopped → Option Due → Faking × Stopped
after_due f t None = (f, t)
after_due f t (Some (Tells number answer)) = (f, told number answer t)
after_due f t (Some (Remembers change)) = remember change f t
after_due f t (Some ForgivesRoot) = (f, forgiven t.handed.at_root t)
after_due f t (Some (ShowsOwner at)) = (f, if_done t (on_its_memory (show_owner f.user f.identities at) t) t)
after_due f t (Some BeginsProgram) = if_done t (begin_program f t) (f, t)

abbrev pub exited : Faking → Stopped → Faking × Stopped
exited f t = after_due (without_due t.pid f) t (map.get f.dues t.pid)

-- ---- processes

abbrev pub born : Faking → (parent child : ℕ) → Faking
born f parent child = record { user = f.user; identities = after_birth parent child f.identities; dues = f.dues }

abbrev pub gone : Faking → (pid : ℕ) → Faking
gone f pid = record { user = f.user; identities = after_end pid f.identities; dues = map.remove f.dues pid }

abbrev pub faker : Watcher Faking
faker = record { entry = entered; exit = exited; born = born; gone = gone }
