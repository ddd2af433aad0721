-- Calls on descriptors keep to their lines.
use Rattle.std.proofs.Common.{◌≡◌, ◌&&◌, ap, [], ◌∷◌, ◌+ℤ◌, ℕ, zero, suc, Bool, true, false, length, refl, Option, Some, None, ℤ, pos, negsuc}
use Rattle.std.specs.Prelude.{◌==◌}
use Rattle.kr_calls.specs.pr_base.declared.errno.Errno.TheVariants.{EBADF, EFAULT, EINVAL, EMFILE, ENOTTY, ESPIPE}
use Rattle.kr_calls.specs.CallTable.{Doing, controlling, copying, making, telling}
use Rattle.kr_calls.specs.Kinds.{has_kind, ClosesDescriptor, CopiesDescriptor, MakesPipe, Seeks}
use Rattle.kr_files.specs.declared.opened.Opened.{Opened}
use Rattle.kr_files.specs.declared.opened.What.{What}
use Rattle.kr_files.specs.declared.opened.What.TheVariants.{File, Dir, In, Out, Err, PipeRead, PipeWrite}
use Rattle.kr_model.specs.Known.{Known}
use Rattle.kr_model.specs.Asking.{descriptor_number}
use Rattle.kr_model.specs.DescriptorRows.{open_bytes, copy_under, copy_to, dup_row, dup3_row, copy_from, fcntl_by, fcntl_row, ioctl_row, close_row, pipe_under, pipe2_row, seek_to, seek_file, seek_directory, seek_what, lseek_row}
use Rattle.kr_model.proofs.KeepingLemmas.{Keeps, refused, answered, tested, wrote, either, maybe, by_open}

copied : {does : Doing} {built : Bool} → has_kind does.makes CopiesDescriptor ≡ true → (fd : ℕ) (cloexec : Bool) (o : Option ℕ) → Keeps does built false (copy_under fd cloexec o)
copied has fd cloexec None = refused EMFILE refl
copied has fd cloexec (Some to) = answered (ap (λ b. b && true) has)

pub dup_keeps : {built : Bool} (k : Known) (fd : ℤ) → Keeps copying built false (dup_row k fd)
dup_keeps k fd = by_open k fd (λ n o. copied refl n false _)

copied_to : {built : Bool} (old : ℕ) (cloexec : Bool) (o : Option ℕ) → Keeps copying built false (copy_to old cloexec o)
copied_to old cloexec None = refused EBADF refl
copied_to old cloexec (Some new) = either _ (answered refl) (refused EBADF refl)

pub dup3_keeps : {built : Bool} (k : Known) (old new : ℤ) (flags : ℕ) → Keeps copying built false (dup3_row k old new flags)
dup3_keeps k old new flags = by_open k old (λ n o. copied_to n _ (descriptor_number new))

copied_from : {does : Doing} {built : Bool} → has_kind does.makes CopiesDescriptor ≡ true → (k : Known) (fd from : ℕ) (cloexec : Bool) → Keeps does built false (copy_from k fd from cloexec)
copied_from has k fd from cloexec = either _ (refused EINVAL refl) (copied has fd cloexec _)

fcntl_by_keeps : {built : Bool} (k : Known) (cmd arg fd : ℕ) (o : Opened (Unit {0})) → Keeps controlling built false (fcntl_by k cmd arg fd o)
fcntl_by_keeps k cmd arg fd o =
    either _ (copied_from refl k fd arg false) (either _ (copied_from refl k fd arg true) (either (cmd == 1) (answered refl) (either (cmd == 2) (answered refl) (either (cmd == 3) (answered refl) (either (cmd == 4) (answered refl) (refused EINVAL refl))))))

pub fcntl_keeps : {built : Bool} (k : Known) (fd cmd : ℤ) (arg : ℕ) → Keeps controlling built false (fcntl_row k fd cmd arg)
fcntl_keeps k fd cmd arg = by_open k fd (λ n o. maybe (descriptor_number cmd) (λ c. fcntl_by_keeps k c arg n o) (refused EINVAL refl))

pub ioctl_keeps : {does : Doing} {built : Bool} (k : Known) (fd : ℤ) → Keeps does built false (ioctl_row k fd)
ioctl_keeps k fd = by_open k fd (λ n o. refused ENOTTY refl)

pub close_keeps : {built : Bool} (k : Known) (fd : ℤ) → Keeps (making (ClosesDescriptor ∷ [])) built false (close_row k fd)
close_keeps k fd = by_open k fd (λ n o. answered refl)

piped : {built : Bool} (buf : ℕ) (cloexec : Bool) (o : Option (ℕ × ℕ)) → Keeps (telling (MakesPipe ∷ [])) built false (pipe_under buf cloexec o)
piped buf cloexec None = refused EMFILE refl
piped buf cloexec (Some fds) = tested (λ b. either b (wrote refl (answered refl)) (refused EFAULT refl))

pub pipe2_keeps : {built : Bool} (k : Known) (buf flags : ℕ) → Keeps (telling (MakesPipe ∷ [])) built false (pipe2_row k buf flags)
pipe2_keeps k buf flags = either _ (refused EMFILE refl) (piped buf _ _)

sought : {built : Bool} (fd : ℕ) (at : ℤ) → Keeps (making (Seeks ∷ [])) built false (seek_to fd at)
sought fd (pos at) = either _ (answered refl) (refused EINVAL refl)
sought fd (negsuc m) = refused EINVAL refl

sought_file : {built : Bool} (k : Known) (off whence : ℤ) (fd : ℕ) (o : Opened (Unit {0})) → Keeps (making (Seeks ∷ [])) built false (seek_file k off whence fd o)
sought_file k off (pos zero) fd o = sought fd off
sought_file k off (pos (suc zero)) fd o = sought fd (pos o.at +ℤ off)
sought_file k off (pos (suc (suc zero))) fd o = sought fd (pos (length (open_bytes k o)) +ℤ off)
sought_file k off (pos (suc (suc (suc n)))) fd o = refused EINVAL refl
sought_file k off (negsuc n) fd o = refused EINVAL refl

sought_directory : {built : Bool} (off whence : ℤ) (fd : ℕ) → Keeps (making (Seeks ∷ [])) built false (seek_directory off whence fd)
sought_directory off (pos zero) fd = sought fd off
sought_directory off (pos (suc n)) fd = refused EINVAL refl
sought_directory off (negsuc n) fd = refused EINVAL refl

sought_what : {built : Bool} (k : Known) (off whence : ℤ) (fd : ℕ) (o : Opened (Unit {0})) (what : What) → Keeps (making (Seeks ∷ [])) built false (seek_what k off whence fd o what)
sought_what k off whence fd o File = sought_file k off whence fd o
sought_what k off whence fd o Dir = sought_directory off whence fd
sought_what k off whence fd o In = refused ESPIPE refl
sought_what k off whence fd o Out = refused ESPIPE refl
sought_what k off whence fd o Err = refused ESPIPE refl
sought_what k off whence fd o (PipeRead p) = refused ESPIPE refl
sought_what k off whence fd o (PipeWrite p) = refused ESPIPE refl

pub lseek_keeps : {built : Bool} (k : Known) (fd off whence : ℤ) → Keeps (making (Seeks ∷ [])) built false (lseek_row k fd off whence)
lseek_keeps k fd off whence = by_open k fd (λ n o. sought_what k off whence n o o.what)
