-- The request in registers and memory, or the error that its decoding answers: one definition for each call, in the
-- order of the tests. A text is read after them. (Section 2 of the manual; the order is our own.)
use Rattle.std.specs.Prelude.{ℕ, ◌+◌, ◌==◌, ◌&&◌, ◌||◌, ◌^◌, Bool, true, false, nat_lt, nat_le, nat_eq, List, [], ◌∷◌, Result, Ok, Err, if◌then◌else◌}
use Rattle.std.specs.Int.RustNames.{bit_and}
use Rattle.rv_mem.specs.pr_base.declared.errno.Errno.{Errno}
use Rattle.rv_mem.specs.pr_base.declared.errno.Errno.TheVariants.{EFAULT, EINVAL, ENAMETOOLONG, ENOENT, ENOSYS}
pub use Rattle.rv_mem.specs.pr_base.Paths.{text_limit}
use Rattle.rv_mem.specs.Actions.{Action, Done}
use Rattle.rv_mem.specs.declared.regs.Regs.{Regs}
use Rattle.kr_calls.specs.declared.request.Request.{Request}
use Rattle.kr_calls.specs.declared.request.Request.TheVariants as call
use Rattle.kr_calls.specs.Arguments.{number, long, signed_long, word, int, has, has_other, is_unaligned, is_negative}
use Rattle.kr_calls.specs.Texts.{read_text}

abbrev pub Decoded : Type 0
Decoded = Result Request Errno

abbrev pub accepts : Request → Action Decoded
accepts request = Done (Ok request)

abbrev pub refuses : Errno → Action Decoded
refuses errno = Done (Err errno)

-- EINVAL where a test fails, and else what follows
abbrev pub unless : Bool → Action Decoded → Action Decoded
unless broken next = if broken then refuses EINVAL else next

-- a text that was read: ENOENT where it is empty and may not be
abbrev pub named : {A : Type 0} → Bool → Action A → (List ℕ → Action A) → List ℕ → Action A
named may_be_empty empty next [] = if may_be_empty then next [] else empty
named may_be_empty empty next (b ∷ text) = next (b ∷ text)

-- the text at an address: EFAULT, ENAMETOOLONG, or ENOENT
abbrev pub with_text : Bool → ℕ → (List ℕ → Action Decoded) → Action Decoded
with_text may_be_empty at next = read_text text_limit at (refuses EFAULT) (refuses ENAMETOOLONG) (named may_be_empty (refuses ENOENT) next)

-- the same text by itself
abbrev pub text_read : Bool → ℕ → Action (Result (List ℕ) Errno)
text_read may_be_empty at =
    read_text text_limit at (Done (Err EFAULT)) (Done (Err ENAMETOOLONG)) (named may_be_empty (Done (Err ENOENT)) (λ text. Done (Ok text)))

-- two texts, the second after the first
abbrev pub texts_read : ℕ → ℕ → Action (Result (List ℕ × List ℕ) Errno)
texts_read first second =
    read_text text_limit first (Done (Err EFAULT)) (Done (Err ENAMETOOLONG)) (named false (Done (Err ENOENT))
    (λ one. read_text text_limit second (Done (Err EFAULT)) (Done (Err ENAMETOOLONG)) (named false (Done (Err ENOENT)) (λ two. Done (Ok (one, two))))))

-- the same for a call that goes on with both
abbrev pub with_texts : ℕ → ℕ → (List ℕ → List ℕ → Action Decoded) → Action Decoded
with_texts first second next = with_text false first (λ one. with_text false second (λ two. next one two))

-- ---- descriptors

abbrev pub decoded_dup : Regs → Action Decoded
decoded_dup regs = accepts (call.Dup (int regs 0))

-- O_CLOEXEC alone
abbrev pub cloexec : ℕ
cloexec = 0x80000

abbrev pub decoded_dup3 : Regs → Action Decoded
decoded_dup3 regs =
    unless (has_other (word regs 2) cloexec)
    (unless (word regs 0 == word regs 1) (accepts (call.Dup3 (int regs 0) (int regs 1) (word regs 2))))

abbrev pub decoded_fcntl : Regs → Action Decoded
decoded_fcntl regs = accepts (call.Fcntl (int regs 0) (int regs 1) (long regs 2))

abbrev pub decoded_ioctl : Regs → Action Decoded
decoded_ioctl regs = accepts (call.Ioctl (int regs 0))

abbrev pub decoded_close : Regs → Action Decoded
decoded_close regs = accepts (call.Close (int regs 0))

abbrev pub decoded_pipe2 : Regs → Action Decoded
decoded_pipe2 regs = unless (has_other (word regs 1) cloexec) (accepts (call.Pipe2 (long regs 0) (word regs 1)))

abbrev pub decoded_fchdir : Regs → Action Decoded
decoded_fchdir regs = accepts (call.Fchdir (int regs 0))

abbrev pub decoded_fchmod : Regs → Action Decoded
decoded_fchmod regs = accepts (call.Fchmod (int regs 0) (word regs 1))

abbrev pub decoded_fchown : Regs → Action Decoded
decoded_fchown regs = accepts (call.Fchown (int regs 0) (word regs 1) (word regs 2))

-- ---- files

abbrev pub decoded_ftruncate : Regs → Action Decoded
decoded_ftruncate regs = unless (is_negative (long regs 1)) (accepts (call.Ftruncate (int regs 0) (long regs 1)))

abbrev pub faccessat_with : Regs → List ℕ → Request
faccessat_with regs path = call.Faccessat (int regs 0) path (word regs 2)

abbrev pub decoded_faccessat : Regs → Action Decoded
decoded_faccessat regs = unless (nat_lt 7 (word regs 2)) (with_text false (long regs 1) (λ path. accepts (faccessat_with regs path)))

-- the access mode 3, or a file that is made (O_CREAT 0100) and has to be a directory (O_DIRECTORY 0200000)
abbrev pub has_bad_open_flags : ℕ → Bool
has_bad_open_flags flags = has flags 0x3 || has flags 0x10040

abbrev pub openat_with : Regs → List ℕ → Request
openat_with regs path = call.Openat (int regs 0) path (word regs 2) (word regs 3)

abbrev pub decoded_openat : Regs → Action Decoded
decoded_openat regs = unless (has_bad_open_flags (word regs 2)) (with_text false (long regs 1) (λ path. accepts (openat_with regs path)))

abbrev pub decoded_getdents64 : Regs → Action Decoded
decoded_getdents64 regs = accepts (call.Getdents64 (int regs 0) (long regs 1) (int regs 2))

abbrev pub decoded_lseek : Regs → Action Decoded
decoded_lseek regs = accepts (call.Lseek (int regs 0) (signed_long regs 1) (int regs 2))

abbrev pub decoded_read : Regs → Action Decoded
decoded_read regs = accepts (call.Read (int regs 0) (long regs 1) (long regs 2))

abbrev pub decoded_write : Regs → Action Decoded
decoded_write regs = accepts (call.Write (int regs 0) (long regs 1) (long regs 2))

abbrev pub decoded_readv : Regs → Action Decoded
decoded_readv regs = accepts (call.Readv (int regs 0) (long regs 1) (long regs 2))

abbrev pub decoded_writev : Regs → Action Decoded
decoded_writev regs = accepts (call.Writev (int regs 0) (long regs 1) (long regs 2))

-- a size of 32 bits that is 0 or negative
abbrev pub has_no_size : ℕ → Bool
has_no_size size = nat_eq size 0 || nat_le (2 ^ 31) size

abbrev pub readlinkat_with : Regs → List ℕ → Request
readlinkat_with regs path = call.Readlinkat (int regs 0) path (long regs 2) (int regs 3)

abbrev pub decoded_readlinkat : Regs → Action Decoded
decoded_readlinkat regs = unless (has_no_size (word regs 3)) (with_text false (long regs 1) (λ path. accepts (readlinkat_with regs path)))

-- AT_SYMLINK_NOFOLLOW and AT_EMPTY_PATH
abbrev pub stat_flags : ℕ
stat_flags = 0x1100

abbrev pub newfstatat_with : Regs → List ℕ → Request
newfstatat_with regs path = call.Newfstatat (int regs 0) path (long regs 2) (word regs 3)

abbrev pub decoded_newfstatat : Regs → Action Decoded
decoded_newfstatat regs = unless (has_other (word regs 3) stat_flags) (with_text (has (word regs 3) 0x1000) (long regs 1) (λ path. accepts (newfstatat_with regs path)))

abbrev pub decoded_fstat : Regs → Action Decoded
decoded_fstat regs = accepts (call.Fstat (int regs 0) (long regs 1))

-- ---- names

abbrev pub mkdirat_with : Regs → List ℕ → Request
mkdirat_with regs path = call.Mkdirat (int regs 0) path (word regs 2)

abbrev pub decoded_mkdirat : Regs → Action Decoded
decoded_mkdirat regs = with_text false (long regs 1) (λ path. accepts (mkdirat_with regs path))

-- AT_REMOVEDIR
abbrev pub remove_flags : ℕ
remove_flags = 0x200

abbrev pub unlinkat_with : Regs → List ℕ → Request
unlinkat_with regs path = call.Unlinkat (int regs 0) path (word regs 2)

abbrev pub decoded_unlinkat : Regs → Action Decoded
decoded_unlinkat regs = unless (has_other (word regs 2) remove_flags) (with_text false (long regs 1) (λ path. accepts (unlinkat_with regs path)))

abbrev pub symlinkat_with : Regs → List ℕ → List ℕ → Request
symlinkat_with regs text path = call.Symlinkat text (int regs 1) path

abbrev pub decoded_symlinkat : Regs → Action Decoded
decoded_symlinkat regs = with_texts (long regs 0) (long regs 2) (λ text path. accepts (symlinkat_with regs text path))

-- AT_SYMLINK_FOLLOW
abbrev pub link_flags : ℕ
link_flags = 0x400

abbrev pub linkat_with : Regs → List ℕ → List ℕ → Request
linkat_with regs old new = call.Linkat (int regs 0) old (int regs 2) new (word regs 4)

abbrev pub decoded_linkat : Regs → Action Decoded
decoded_linkat regs = unless (has_other (word regs 4) link_flags) (with_texts (long regs 1) (long regs 3) (λ old new. accepts (linkat_with regs old new)))

abbrev pub renameat2_with : Regs → List ℕ → List ℕ → Request
renameat2_with regs old new = call.Renameat2 (int regs 0) old (int regs 2) new

-- no flag is known
abbrev pub decoded_renameat2 : Regs → Action Decoded
decoded_renameat2 regs = unless (has_other (word regs 4) 0) (with_texts (long regs 1) (long regs 3) (λ old new. accepts (renameat2_with regs old new)))

abbrev pub decoded_chdir : Regs → Action Decoded
decoded_chdir regs = with_text false (long regs 0) (λ path. accepts (call.Chdir path))

abbrev pub decoded_chroot : Regs → Action Decoded
decoded_chroot regs = with_text false (long regs 0) (λ path. accepts (call.Chroot path))

abbrev pub fchmodat_with : Regs → List ℕ → Request
fchmodat_with regs path = call.Fchmodat (int regs 0) path (word regs 2)

abbrev pub decoded_fchmodat : Regs → Action Decoded
decoded_fchmodat regs = with_text false (long regs 1) (λ path. accepts (fchmodat_with regs path))

abbrev pub fchownat_with : Regs → List ℕ → Request
fchownat_with regs path = call.Fchownat (int regs 0) path (word regs 2) (word regs 3) (word regs 4)

abbrev pub decoded_fchownat : Regs → Action Decoded
decoded_fchownat regs = unless (has_other (word regs 4) stat_flags) (with_text (has (word regs 4) 0x1000) (long regs 1) (λ path. accepts (fchownat_with regs path)))

-- the lists of texts are read when the call is carried out
abbrev pub execve_with : Regs → List ℕ → Request
execve_with regs path = call.Execve path (long regs 1) (long regs 2)

abbrev pub decoded_execve : Regs → Action Decoded
decoded_execve regs = with_text false (long regs 0) (λ path. accepts (execve_with regs path))

-- ---- users and groups

abbrev pub decoded_setresuid : Regs → Action Decoded
decoded_setresuid regs = accepts (call.Setresuid (word regs 0) (word regs 1) (word regs 2))

abbrev pub decoded_getresuid : Regs → Action Decoded
decoded_getresuid regs = accepts (call.Getresuid (long regs 0) (long regs 1) (long regs 2))

abbrev pub decoded_setresgid : Regs → Action Decoded
decoded_setresgid regs = accepts (call.Setresgid (word regs 0) (word regs 1) (word regs 2))

abbrev pub decoded_getresgid : Regs → Action Decoded
decoded_getresgid regs = accepts (call.Getresgid (long regs 0) (long regs 1) (long regs 2))

-- ---- processes

abbrev pub decoded_getcwd : Regs → Action Decoded
decoded_getcwd regs = accepts (call.Getcwd (long regs 0) (long regs 1))

abbrev pub decoded_exit : Regs → Action Decoded
decoded_exit regs = accepts (call.Exit (int regs 0))

abbrev pub decoded_exit_group : Regs → Action Decoded
decoded_exit_group regs = accepts (call.ExitGroup (int regs 0))

abbrev pub decoded_uname : Regs → Action Decoded
decoded_uname regs = accepts (call.Uname (long regs 0))

-- the third and the fourth argument aren't used
abbrev pub decoded_clone : Regs → Action Decoded
decoded_clone regs = accepts (call.Clone (long regs 0) (long regs 1) (long regs 4))

-- WNOHANG 1, WUNTRACED 2, WCONTINUED 8
abbrev pub wait_flags : ℕ
wait_flags = 0xB

abbrev pub decoded_wait4 : Regs → Action Decoded
decoded_wait4 regs =
    unless (has_other (word regs 2) wait_flags) (accepts (call.Wait4 (int regs 0) (long regs 1) (int regs 2) (long regs 3)))

-- ---- memory

abbrev pub decoded_brk : Regs → Action Decoded
decoded_brk regs = accepts (call.Brk (long regs 0))

-- the end of all pages
abbrev pub pages_end : ℕ
pages_end = 0x3ffffff000

-- the end is a whole number, which may pass 2^64
abbrev pub decoded_munmap : Regs → Action Decoded
decoded_munmap regs =
    unless (is_unaligned (long regs 0) || nat_eq (long regs 1) 0 || nat_lt pages_end (long regs 0 + long regs 1))
    (accepts (call.Munmap (long regs 0) (long regs 1)))

-- private memory without a file is built alone: MAP_PRIVATE 2 of the low four bits, MAP_ANONYMOUS 0x20; MAP_FIXED is 0x10
abbrev pub has_bad_map_flags : ℕ → ℕ → Bool
has_bad_map_flags flags a = (if bit_and flags 0xf == 2 then false else true) || (if has flags 0x20 then false else true) || (has flags 0x10 && is_unaligned a)

abbrev pub decoded_mmap : Regs → Action Decoded
decoded_mmap regs =
    unless (nat_eq (long regs 1) 0 || nat_lt 7 (long regs 2) || has_bad_map_flags (long regs 3) (long regs 0))
    (accepts (call.Mmap (long regs 0) (long regs 1) (long regs 2) (long regs 3)))

abbrev pub decoded_mprotect : Regs → Action Decoded
decoded_mprotect regs =
    unless (is_unaligned (long regs 0) || nat_lt 7 (long regs 2)) (accepts (call.Mprotect (long regs 0) (long regs 1) (long regs 2)))

-- ---- the calls by their numbers, those of the generic table of Linux

abbrev pub by_descriptor : ℕ → Regs → Action Decoded → Action Decoded
by_descriptor n regs other =
    if n == 23 then decoded_dup regs
    else if n == 24 then decoded_dup3 regs
    else if n == 25 then decoded_fcntl regs
    else if n == 29 then decoded_ioctl regs
    else if n == 50 then decoded_fchdir regs
    else if n == 52 then decoded_fchmod regs
    else if n == 55 then decoded_fchown regs
    else if n == 57 then decoded_close regs
    else if n == 59 then decoded_pipe2 regs
    else other

abbrev pub by_file : ℕ → Regs → Action Decoded → Action Decoded
by_file n regs other =
    if n == 46 then decoded_ftruncate regs
    else if n == 48 then decoded_faccessat regs
    else if n == 56 then decoded_openat regs
    else if n == 61 then decoded_getdents64 regs
    else if n == 62 then decoded_lseek regs
    else if n == 63 then decoded_read regs
    else if n == 64 then decoded_write regs
    else if n == 65 then decoded_readv regs
    else if n == 66 then decoded_writev regs
    else if n == 78 then decoded_readlinkat regs
    else if n == 79 then decoded_newfstatat regs
    else if n == 80 then decoded_fstat regs
    else other

abbrev pub by_name : ℕ → Regs → Action Decoded → Action Decoded
by_name n regs other =
    if n == 34 then decoded_mkdirat regs
    else if n == 35 then decoded_unlinkat regs
    else if n == 36 then decoded_symlinkat regs
    else if n == 37 then decoded_linkat regs
    else if n == 49 then decoded_chdir regs
    else if n == 51 then decoded_chroot regs
    else if n == 53 then decoded_fchmodat regs
    else if n == 54 then decoded_fchownat regs
    else if n == 221 then decoded_execve regs
    else if n == 276 then decoded_renameat2 regs
    else other

abbrev pub by_identity : ℕ → Regs → Action Decoded → Action Decoded
by_identity n regs other =
    if n == 143 then accepts (call.Setregid (word regs 0) (word regs 1))
    else if n == 144 then accepts (call.Setgid (word regs 0))
    else if n == 145 then accepts (call.Setreuid (word regs 0) (word regs 1))
    else if n == 146 then accepts (call.Setuid (word regs 0))
    else if n == 147 then decoded_setresuid regs
    else if n == 148 then decoded_getresuid regs
    else if n == 149 then decoded_setresgid regs
    else if n == 150 then decoded_getresgid regs
    else if n == 158 then accepts (call.Getgroups (int regs 0) (long regs 1))
    else if n == 159 then accepts (call.Setgroups (int regs 0) (long regs 1))
    else if n == 174 then accepts call.Getuid
    else if n == 175 then accepts call.Geteuid
    else if n == 176 then accepts call.Getgid
    else if n == 177 then accepts call.Getegid
    else other

abbrev pub by_process : ℕ → Regs → Action Decoded → Action Decoded
by_process n regs other =
    if n == 17 then decoded_getcwd regs
    else if n == 93 then decoded_exit regs
    else if n == 94 then decoded_exit_group regs
    else if n == 96 then accepts call.SetTidAddress
    else if n == 134 then accepts call.RtSigaction
    else if n == 135 then accepts call.RtSigprocmask
    else if n == 160 then decoded_uname regs
    else if n == 166 then accepts (call.Umask (word regs 0))
    else if n == 172 then accepts call.Getpid
    else if n == 173 then accepts call.Getppid
    else if n == 178 then accepts call.Gettid
    else if n == 220 then decoded_clone regs
    else if n == 260 then decoded_wait4 regs
    else other

abbrev pub by_memory : ℕ → Regs → Action Decoded → Action Decoded
by_memory n regs other =
    if n == 214 then decoded_brk regs
    else if n == 215 then decoded_munmap regs
    else if n == 222 then decoded_mmap regs
    else if n == 226 then decoded_mprotect regs
    else other

-- those that have to do with names and with users
abbrev pub by_name_or_user : ℕ → Regs → Action Decoded → Action Decoded
by_name_or_user n regs other = by_name n regs (by_identity n regs other)

-- any other number is ENOSYS
abbrev pub decoding_of : ℕ → Regs → Action Decoded
decoding_of n regs = by_descriptor n regs (by_file n regs (by_process n regs (by_memory n regs (by_name_or_user n regs (refuses ENOSYS)))))

abbrev pub decoding : Regs → Action Decoded
decoding regs = decoding_of (number regs) regs

-- ---- the same table as data

-- a row by the registers: a request; EINVAL where a test fails, and else a row; a request with the text at an address, which may be empty where a
-- test says so; or one with two texts
pub data Row : Type 0 where
  Gives : (Regs → Request) → Row
  Tests : (Regs → Bool) → Row → Row
  ReadsOne : (may_be_empty : Regs → Bool) (argument : ℕ) → (Regs → List ℕ → Request) → Row
  ReadsTwo : (first second : ℕ) → (Regs → List ℕ → List ℕ → Request) → Row

abbrev pub action_of : Row → Regs → Action Decoded
action_of (Gives request) regs = accepts (request regs)
action_of (Tests broken row) regs = unless (broken regs) (action_of row regs)
action_of (ReadsOne may_be_empty argument request) regs = with_text (may_be_empty regs) (long regs argument) (λ text. accepts (request regs text))
action_of (ReadsTwo first second request) regs = with_texts (long regs first) (long regs second) (λ one two. accepts (request regs one two))

pub record NumberedRow : Type 0 where
  pub number : ℕ
  pub row : Row

abbrev pub by_rows : List NumberedRow → ℕ → Regs → Action Decoded
by_rows [] n regs = refuses ENOSYS
by_rows (numbered ∷ rest) n regs = if n == numbered.number then action_of numbered.row regs else by_rows rest n regs

abbrev row : ℕ → Row → NumberedRow
row number of_call = record { number = number; row = of_call }

-- without a text
abbrev gives : ℕ → (Regs → Request) → NumberedRow
gives number request = row number (Gives request)

abbrev tests : ℕ → (Regs → Bool) → (Regs → Request) → NumberedRow
tests number broken request = row number (Tests broken (Gives request))

-- with a text that may not be empty, at an address
abbrev reads : ℕ → ℕ → (Regs → List ℕ → Request) → NumberedRow
reads number argument request = row number (ReadsOne (λ regs. false) argument request)

-- the same behind a test
abbrev tests_and_reads : ℕ → (Regs → Bool) → ℕ → (Regs → List ℕ → Request) → NumberedRow
tests_and_reads number broken argument request = row number (Tests broken (ReadsOne (λ regs. false) argument request))

-- in the order in which the numbers are looked for
abbrev pub rows : List NumberedRow
rows =
    gives 23 (λ regs. call.Dup (int regs 0))
    ∷ row 24 (Tests (λ regs. has_other (word regs 2) cloexec) (Tests (λ regs. word regs 0 == word regs 1) (Gives (λ regs. call.Dup3 (int regs 0) (int regs 1) (word regs 2)))))
    ∷ gives 25 (λ regs. call.Fcntl (int regs 0) (int regs 1) (long regs 2))
    ∷ gives 29 (λ regs. call.Ioctl (int regs 0))
    ∷ gives 50 (λ regs. call.Fchdir (int regs 0))
    ∷ gives 52 (λ regs. call.Fchmod (int regs 0) (word regs 1))
    ∷ gives 55 (λ regs. call.Fchown (int regs 0) (word regs 1) (word regs 2))
    ∷ gives 57 (λ regs. call.Close (int regs 0))
    ∷ tests 59 (λ regs. has_other (word regs 1) cloexec) (λ regs. call.Pipe2 (long regs 0) (word regs 1))
    ∷ tests 46 (λ regs. is_negative (long regs 1)) (λ regs. call.Ftruncate (int regs 0) (long regs 1))
    ∷ tests_and_reads 48 (λ regs. nat_lt 7 (word regs 2)) 1 faccessat_with
    ∷ tests_and_reads 56 (λ regs. has_bad_open_flags (word regs 2)) 1 openat_with
    ∷ gives 61 (λ regs. call.Getdents64 (int regs 0) (long regs 1) (int regs 2))
    ∷ gives 62 (λ regs. call.Lseek (int regs 0) (signed_long regs 1) (int regs 2))
    ∷ gives 63 (λ regs. call.Read (int regs 0) (long regs 1) (long regs 2))
    ∷ gives 64 (λ regs. call.Write (int regs 0) (long regs 1) (long regs 2))
    ∷ gives 65 (λ regs. call.Readv (int regs 0) (long regs 1) (long regs 2))
    ∷ gives 66 (λ regs. call.Writev (int regs 0) (long regs 1) (long regs 2))
    ∷ tests_and_reads 78 (λ regs. has_no_size (word regs 3)) 1 readlinkat_with
    ∷ row 79 (Tests (λ regs. has_other (word regs 3) stat_flags) (ReadsOne (λ regs. has (word regs 3) 0x1000) 1 newfstatat_with))
    ∷ gives 80 (λ regs. call.Fstat (int regs 0) (long regs 1))
    ∷ gives 17 (λ regs. call.Getcwd (long regs 0) (long regs 1))
    ∷ gives 93 (λ regs. call.Exit (int regs 0))
    ∷ gives 94 (λ regs. call.ExitGroup (int regs 0))
    ∷ gives 96 (λ regs. call.SetTidAddress)
    ∷ gives 134 (λ regs. call.RtSigaction)
    ∷ gives 135 (λ regs. call.RtSigprocmask)
    ∷ gives 160 (λ regs. call.Uname (long regs 0))
    ∷ gives 166 (λ regs. call.Umask (word regs 0))
    ∷ gives 172 (λ regs. call.Getpid)
    ∷ gives 173 (λ regs. call.Getppid)
    ∷ gives 178 (λ regs. call.Gettid)
    ∷ gives 220 (λ regs. call.Clone (long regs 0) (long regs 1) (long regs 4))
    ∷ tests 260 (λ regs. has_other (word regs 2) wait_flags) (λ regs. call.Wait4 (int regs 0) (long regs 1) (int regs 2) (long regs 3))
    ∷ gives 214 (λ regs. call.Brk (long regs 0))
    ∷ tests 215 (λ regs. is_unaligned (long regs 0) || nat_eq (long regs 1) 0 || nat_lt pages_end (long regs 0 + long regs 1)) (λ regs. call.Munmap (long regs 0) (long regs 1))
    ∷ tests 222 (λ regs. nat_eq (long regs 1) 0 || nat_lt 7 (long regs 2) || has_bad_map_flags (long regs 3) (long regs 0)) (λ regs. call.Mmap (long regs 0) (long regs 1) (long regs 2) (long regs 3))
    ∷ tests 226 (λ regs. is_unaligned (long regs 0) || nat_lt 7 (long regs 2)) (λ regs. call.Mprotect (long regs 0) (long regs 1) (long regs 2))
    ∷ reads 34 1 mkdirat_with
    ∷ tests_and_reads 35 (λ regs. has_other (word regs 2) remove_flags) 1 unlinkat_with
    ∷ row 36 (ReadsTwo 0 2 symlinkat_with)
    ∷ row 37 (Tests (λ regs. has_other (word regs 4) link_flags) (ReadsTwo 1 3 linkat_with))
    ∷ reads 49 0 (λ regs path. call.Chdir path)
    ∷ reads 51 0 (λ regs path. call.Chroot path)
    ∷ reads 53 1 fchmodat_with
    ∷ row 54 (Tests (λ regs. has_other (word regs 4) stat_flags) (ReadsOne (λ regs. has (word regs 4) 0x1000) 1 fchownat_with))
    ∷ reads 221 0 execve_with
    ∷ row 276 (Tests (λ regs. has_other (word regs 4) 0) (ReadsTwo 1 3 renameat2_with))
    ∷ gives 143 (λ regs. call.Setregid (word regs 0) (word regs 1))
    ∷ gives 144 (λ regs. call.Setgid (word regs 0))
    ∷ gives 145 (λ regs. call.Setreuid (word regs 0) (word regs 1))
    ∷ gives 146 (λ regs. call.Setuid (word regs 0))
    ∷ gives 147 (λ regs. call.Setresuid (word regs 0) (word regs 1) (word regs 2))
    ∷ gives 148 (λ regs. call.Getresuid (long regs 0) (long regs 1) (long regs 2))
    ∷ gives 149 (λ regs. call.Setresgid (word regs 0) (word regs 1) (word regs 2))
    ∷ gives 150 (λ regs. call.Getresgid (long regs 0) (long regs 1) (long regs 2))
    ∷ gives 158 (λ regs. call.Getgroups (int regs 0) (long regs 1))
    ∷ gives 159 (λ regs. call.Setgroups (int regs 0) (long regs 1))
    ∷ gives 174 (λ regs. call.Getuid)
    ∷ gives 175 (λ regs. call.Geteuid)
    ∷ gives 176 (λ regs. call.Getgid)
    ∷ gives 177 (λ regs. call.Getegid)
    ∷ []
