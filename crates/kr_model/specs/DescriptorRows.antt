-- Calls on descriptors, each in the order of its tests (section 2 of the manual; the order is our own). Where a
-- descriptor is named, EBADF comes first.
use Rattle.std.specs.FinMap as map
use Rattle.std.specs.Prelude.{ℕ, zero, suc, ◌+◌, ◌%◌, ◌==◌, ◌++◌, Bool, true, false, List, [], ◌∷◌, length, nat_lt, nat_le, Option, Some, None, ℤ, pos, negsuc, ◌+ℤ◌, if◌then◌else◌}
use Rattle.std.specs.Int.{to_le_bytes, w32}
use Rattle.std.specs.Option.{option_map_or}
use Rattle.kr_calls.specs.pr_base.declared.errno.Errno.TheVariants.{EBADF, EFAULT, EINVAL, EMFILE, ENOTTY, ESPIPE}
use Rattle.kr_calls.specs.rv_mem.Actions.{write_if_allowed}
use Rattle.kr_calls.specs.Arguments.{has}
use Rattle.kr_files.specs.kr_tree.Tree.{bytes_of}
use Rattle.kr_files.specs.kr_tree.declared.place.Host.{Host}
use Rattle.kr_files.specs.kr_tree.declared.place.Host.TheVariants.{Node, Proc}
use Rattle.kr_files.specs.declared.opened.Opened.{Opened}
use Rattle.kr_files.specs.declared.opened.What.{What}
use Rattle.kr_files.specs.declared.opened.What.TheVariants.{File, Dir, In, Out, Err, PipeRead, PipeWrite}
use Rattle.kr_files.specs.Descriptors.{lowest_free, lowest_pair}
use Rattle.kr_model.specs.Asking.{descriptor_number, or_badf}
use Rattle.kr_model.specs.Change.{CopyDescriptor, CloseDescriptor, SetCloexec, Seek, SetAppend, MakePipe}
use Rattle.kr_model.specs.Known.{Known, known_node}
use Rattle.kr_model.specs.Reply.{Replying, done, refuse}

abbrev pub o_cloexec : ℕ
o_cloexec = 0x80000

abbrev pub o_append : ℕ
o_append = 0x400

-- ---- copies

-- EMFILE, or a copy under the number that was found
abbrev pub copy_under : ℕ → Bool → Option ℕ → Replying
copy_under fd cloexec None = refuse EMFILE
copy_under fd cloexec (Some to) = done to (CopyDescriptor fd to cloexec ∷ [])

-- dup(2): EMFILE; the lowest free descriptor
abbrev pub dup_row : Known → ℤ → Replying
dup_row k fd = or_badf k fd (λ n o. copy_under n false (lowest_free k.caller.descs 0))

-- a descriptor is below 1,024
abbrev pub copy_to : ℕ → Bool → Option ℕ → Replying
copy_to old cloexec None = refuse EBADF
copy_to old cloexec (Some new) = if nat_lt new 1024 then done new (CopyDescriptor old new cloexec ∷ []) else refuse EBADF

-- dup3(2): EBADF of the old one, then of a new one that is negative or above 1,023; the new one
abbrev pub dup3_row : Known → ℤ → ℤ → ℕ → Replying
dup3_row k old new flags = or_badf k old (λ n o. copy_to n (has flags o_cloexec) (descriptor_number new))

-- ---- fcntl

-- F_DUPFD and F_DUPFD_CLOEXEC: EINVAL above 1,023, EMFILE; the lowest free descriptor from there on
abbrev pub copy_from : Known → ℕ → ℕ → Bool → Replying
copy_from k fd from cloexec =
    if nat_lt 1023 from then refuse EINVAL else copy_under fd cloexec (lowest_free k.caller.descs from)

-- F_GETFD: 1 where an execve closes it
abbrev pub cloexec_flag : Known → ℕ → ℕ
cloexec_flag k fd = option_map_or (λ x. if x.cloexec then 1 else 0) (map.get k.caller.descs fd) 0

-- F_GETFL: the access mode (0 to read, 1 to write, 2 for both) and O_APPEND
abbrev pub access_mode : Opened (Unit {0}) → ℕ
access_mode o = if o.write then (if o.read then 2 else 1) else 0

abbrev pub status_flags : Opened (Unit {0}) → ℕ
status_flags o = access_mode o + (if o.append then o_append else 0)

abbrev pub fcntl_by : Known → ℕ → ℕ → ℕ → Opened (Unit {0}) → Replying
fcntl_by k cmd arg fd o =
    if cmd == 0 then copy_from k fd arg false
    else if cmd == 1030 then copy_from k fd arg true
    else if cmd == 1 then done (cloexec_flag k fd) []
    else if cmd == 2 then done 0 (SetCloexec fd (arg % 2 == 1) ∷ [])
    else if cmd == 3 then done (status_flags o) []
    else if cmd == 4 then done 0 (SetAppend fd (has arg o_append) ∷ [])
    else refuse EINVAL

-- fcntl(2): F_SETFD reads the bit 1 of its argument, F_SETFL changes O_APPEND alone; another command is EINVAL
abbrev pub fcntl_row : Known → ℤ → ℤ → ℕ → Replying
fcntl_row k fd cmd arg = or_badf k fd (λ n o. option_map_or (λ c. fcntl_by k c arg n o) (descriptor_number cmd) (refuse EINVAL))

-- ioctl(2): ENOTTY of everything
abbrev pub ioctl_row : Known → ℤ → Replying
ioctl_row k fd = or_badf k fd (λ n o. refuse ENOTTY)

-- close(2)
abbrev pub close_row : Known → ℤ → Replying
close_row k fd = or_badf k fd (λ n o. done 0 (CloseDescriptor n ∷ []))

-- ---- pipes

-- two numbers of 4 bytes, the reader's first
abbrev pub pipe_numbers : ℕ → ℕ → List ℕ
pipe_numbers first second = to_le_bytes w32 first ++ to_le_bytes w32 second

abbrev pub pipe_under : ℕ → Bool → Option (ℕ × ℕ) → Replying
pipe_under buf cloexec None = refuse EMFILE
pipe_under buf cloexec (Some fds) =
    write_if_allowed buf (pipe_numbers fds.0 fds.1) (refuse EFAULT) (done 0 (MakePipe fds.0 fds.1 cloexec ∷ []))

-- the most pipes in all
abbrev pub most_pipes : ℕ
most_pipes = 4096

-- pipe2(2): EMFILE of pipes or descriptors, EFAULT; both numbers are written
abbrev pub pipe2_row : Known → ℕ → ℕ → Replying
pipe2_row k buf flags =
    if nat_le most_pipes k.pipes then refuse EMFILE else pipe_under buf (has flags o_cloexec) (lowest_pair k.caller.descs)

-- ---- lseek

-- the bytes of an open file
abbrev pub file_bytes : Known → Host → List ℕ
file_bytes k (Node i) = option_map_or (λ n. bytes_of n.body) (known_node k i) []
file_bytes k (Proc i at) = []

abbrev pub open_bytes : Known → Opened (Unit {0}) → List ℕ
open_bytes k o = option_map_or (λ p. file_bytes k p.host) o.place []

-- a result below 2^63; a negative one is EINVAL
abbrev pub seek_to : ℕ → ℤ → Replying
seek_to fd (pos at) = if nat_lt at 0x8000000000000000 then done at (Seek fd at ∷ []) else refuse EINVAL
seek_to fd (negsuc m) = refuse EINVAL

-- SEEK_SET 0, SEEK_CUR 1, SEEK_END 2
abbrev pub seek_file : Known → ℤ → ℤ → ℕ → Opened (Unit {0}) → Replying
seek_file k off (pos zero) fd o = seek_to fd off
seek_file k off (pos (suc zero)) fd o = seek_to fd (pos o.at +ℤ off)
seek_file k off (pos (suc (suc zero))) fd o = seek_to fd (pos (length (open_bytes k o)) +ℤ off)
seek_file k off (pos (suc (suc (suc n)))) fd o = refuse EINVAL
seek_file k off (negsuc n) fd o = refuse EINVAL

-- in a directory from the front alone
abbrev pub seek_directory : ℤ → ℤ → ℕ → Replying
seek_directory off (pos zero) fd = seek_to fd off
seek_directory off (pos (suc n)) fd = refuse EINVAL
seek_directory off (negsuc n) fd = refuse EINVAL

abbrev pub seek_what : Known → ℤ → ℤ → ℕ → Opened (Unit {0}) → What → Replying
seek_what k off whence fd o File = seek_file k off whence fd o
seek_what k off whence fd o Dir = seek_directory off whence fd
seek_what k off whence fd o In = refuse ESPIPE
seek_what k off whence fd o Out = refuse ESPIPE
seek_what k off whence fd o Err = refuse ESPIPE
seek_what k off whence fd o (PipeRead p) = refuse ESPIPE
seek_what k off whence fd o (PipeWrite p) = refuse ESPIPE

-- lseek(2): ESPIPE of a pipe or the console; EINVAL of another whence, of a directory with one other than 0, of a
-- result that is negative or above 2^63 - 1; the new place
abbrev pub lseek_row : Known → ℤ → ℤ → ℤ → Replying
lseek_row k fd off whence = or_badf k fd (λ n o. seek_what k off whence n o o.what)
