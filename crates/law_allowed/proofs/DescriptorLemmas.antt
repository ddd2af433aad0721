-- Calls on descriptors are allowed.
use Rattle.std.specs.FinMap as map
use Rattle.std.proofs.Common.{◌≡◌, ◌≢◌, ◌+ℤ◌, ℕ, zero, suc, ◌<◌, Bool, true, false, nat_lt, List, length, refl, sym, ap, Some, None, Option, IsSome, ℤ, pos, negsuc}
use Rattle.std.specs.Prelude.{◌==◌, nat_le}
use Rattle.law_lawful.proofs.kr_tree.NameLemmas.{some_is}
use Rattle.law_lawful.specs.kr_view.View.{Row}
use Rattle.law_lawful.specs.kr_calls.Arguments.{has}
use Rattle.law_lawful.specs.kr_files.declared.opened.Opened.{Opened}
use Rattle.law_lawful.specs.kr_files.declared.opened.What.{What}
use Rattle.law_lawful.specs.kr_files.declared.opened.What.TheVariants.{File, Dir, In, Out, Err, PipeRead, PipeWrite}
use Rattle.law_lawful.specs.kr_files.Descriptors.{lowest_free, lowest_pair}
use Rattle.law_lawful.specs.kr_files.WithoutMounts.{without_mount}
use Rattle.law_lawful.specs.kr_model.Applied.{Mounts}
use Rattle.law_lawful.specs.kr_model.Asking.{descriptor_number}
use Rattle.law_lawful.specs.kr_model.Change.{Change}
use Rattle.law_lawful.specs.kr_model.Conditions.{IsOpen}
use Rattle.law_lawful.specs.kr_model.DescriptorRows.{o_cloexec, most_pipes, open_bytes, copy_under, copy_to, dup_row, dup3_row, copy_from, fcntl_by, fcntl_row, close_row, pipe_under, pipe2_row, seek_to, seek_file, seek_directory, seek_what, lseek_row}
use Rattle.law_lawful.specs.kr_model.Known.{Known, known}
use Rattle.law_lawful.specs.kr_model.State.{Image, image_layout, State, process, opened}
use Rattle.law_lawful.specs.Laws.{CanAllBeMade}
use Rattle.law_allowed.specs.Allowed.{IsAllowed}
use Rattle.law_allowed.proofs.KnownLemmas.{is-less, not-most, maybe, open-named, at-number, by-open, free-lowest, free-apart, free-pair}
use Rattle.law_allowed.specs.Lasting.{AreModest}
use Rattle.law_allowed.proofs.RowLemmas.{quietly, Allowed, unchanged, ended, tested, wrote, either, row-allowed}

module _ {M : Type 0} (number : M → ℕ) (table : List Row) (mounts : Mounts M) (pid : ℕ) (s : State M Image) (lives : IsSome (process pid s)) where
  abbrev k : Known
  k = known image_layout pid s

  abbrev Can : List Change → Type 0
  Can cs = CanAllBeMade number table mounts pid s cs × AreModest s.user cs

  copied : (fd : ℕ) → IsOpen pid fd s → (from : ℕ) (cloexec : Bool) (o : Option ℕ) → lowest_free k.caller.descs from ≡ o → Allowed Can false (copy_under fd cloexec o)
  copied fd is_open from cloexec None e = unchanged
  copied fd is_open from cloexec (Some to) e =
      let free = (free-lowest pid s lives from to e).0 in
      ended ((lives, record { old = is_open; small = free.small; apart = free-apart pid s lives fd to is_open free }, tt), quietly refl)

  dup : (fd : ℤ) → Allowed Can false (dup_row k fd)
  dup fd = by-open pid s fd _ (λ n o e. copied n (open-named pid s n o e) 0 false (lowest_free k.caller.descs 0) refl)

  copied-to : (old : ℕ) → IsOpen pid old s → (cloexec : Bool) (o : Option ℕ) → o ≢ Some old → Allowed Can false (copy_to old cloexec o)
  copied-to old is_open cloexec None apart = unchanged
  copied-to old is_open cloexec (Some new) apart =
      either (nat_lt new 1024)
      (λ small. ended ((lives, record { old = is_open; small = is-less new 1024 small; apart = λ same. apart (ap (λ n. Some n) same) }, tt), quietly refl))
      (λ _. unchanged)

  dup3 : (old new : ℤ) (flags : ℕ) → old ≢ new → Allowed Can false (dup3_row k old new flags)
  dup3 (negsuc m) new flags apart = unchanged
  dup3 (pos n) new flags apart = at-number pid s n _ (λ o e. copied-to n (open-named pid s n o e) (has flags o_cloexec) (descriptor_number new) (other new apart))
    where
      other : (new : ℤ) → pos n ≢ new → descriptor_number new ≢ Some n
      other (pos m) apart e = apart (ap (λ q. pos q) (sym (some_is m n e)))
      other (negsuc m) apart e = absurd cc

  fcntl-by : (cmd arg fd : ℕ) (o : Opened M) → opened pid fd s ≡ Some o → Allowed Can false (fcntl_by k cmd arg fd (without_mount o))
  fcntl-by cmd arg fd o e =
      let is_open = open-named pid s fd o e in
      either (cmd == 0) (λ _. from-there is_open false)
      (λ _. either (cmd == 1030) (λ _. from-there is_open true)
      (λ _. either (cmd == 1) (λ _. unchanged)
      (λ _. either (cmd == 2) (λ _. ended ((lives, is_open, tt), quietly refl))
      (λ _. either (cmd == 3) (λ _. unchanged)
      (λ _. either (cmd == 4) (λ _. ended ((lives, is_open, tt), quietly refl))
      (λ _. unchanged))))))
    where
      from-there : IsOpen pid fd s → (cloexec : Bool) → Allowed Can false (copy_from k fd arg cloexec)
      from-there is_open cloexec = either (nat_lt 1023 arg) (λ _. unchanged) (λ _. copied fd is_open arg cloexec (lowest_free k.caller.descs arg) refl)

  fcntl : (fd cmd : ℤ) (arg : ℕ) → Allowed Can false (fcntl_row k fd cmd arg)
  fcntl fd cmd arg = by-open pid s fd _ (λ n o e. maybe (descriptor_number cmd) (λ c _. fcntl-by c arg n o e) unchanged)

  close : (fd : ℤ) → Allowed Can false (close_row k fd)
  close fd = by-open pid s fd _ (λ n o e. ended ((lives, open-named pid s n o e, tt), quietly refl))

  piped : map.len s.files.pipes < most_pipes → (buf : ℕ) (cloexec : Bool) (o : Option (ℕ × ℕ)) → lowest_pair k.caller.descs ≡ o → Allowed Can false (pipe_under buf cloexec o)
  piped few buf cloexec None e = unchanged
  piped few buf cloexec (Some fds) e =
      let free = free-pair pid s lives fds e in
      tested (λ b. either b (λ _. wrote (ended ((lives, record { reader = free.0; writer = free.1; apart = free.2; few = few }, tt), quietly refl))) (λ _. unchanged))

  pipe2 : (buf flags : ℕ) → Allowed Can false (pipe2_row k buf flags)
  pipe2 buf flags = either (nat_le most_pipes k.pipes) (λ _. unchanged) (λ few. piped (not-most most_pipes k.pipes few) buf (has flags o_cloexec) (lowest_pair k.caller.descs) refl)

  sought : (fd : ℕ) → IsOpen pid fd s → (at : ℤ) → Allowed Can false (seek_to fd at)
  sought fd is_open (pos at) = either (nat_lt at 0x8000000000000000) (λ small. ended ((lives, (is_open, is-less at 0x8000000000000000 small), tt), quietly refl)) (λ _. unchanged)
  sought fd is_open (negsuc m) = unchanged

  sought-file : (off whence : ℤ) (fd : ℕ) → IsOpen pid fd s → (o : Opened (Unit {0})) → Allowed Can false (seek_file k off whence fd o)
  sought-file off (pos zero) fd is_open o = sought fd is_open off
  sought-file off (pos (suc zero)) fd is_open o = sought fd is_open (pos o.at +ℤ off)
  sought-file off (pos (suc (suc zero))) fd is_open o = sought fd is_open (pos (length (open_bytes k o)) +ℤ off)
  sought-file off (pos (suc (suc (suc n)))) fd is_open o = unchanged
  sought-file off (negsuc n) fd is_open o = unchanged

  sought-directory : (off whence : ℤ) (fd : ℕ) → IsOpen pid fd s → Allowed Can false (seek_directory off whence fd)
  sought-directory off (pos zero) fd is_open = sought fd is_open off
  sought-directory off (pos (suc n)) fd is_open = unchanged
  sought-directory off (negsuc n) fd is_open = unchanged

  sought-what : (off whence : ℤ) (fd : ℕ) → IsOpen pid fd s → (o : Opened (Unit {0})) (what : What) → Allowed Can false (seek_what k off whence fd o what)
  sought-what off whence fd is_open o File = sought-file off whence fd is_open o
  sought-what off whence fd is_open o Dir = sought-directory off whence fd is_open
  sought-what off whence fd is_open o In = unchanged
  sought-what off whence fd is_open o Out = unchanged
  sought-what off whence fd is_open o Err = unchanged
  sought-what off whence fd is_open o (PipeRead p) = unchanged
  sought-what off whence fd is_open o (PipeWrite p) = unchanged

  lseek : (fd off whence : ℤ) → Allowed Can false (lseek_row k fd off whence)
  lseek fd off whence = by-open pid s fd _ (λ n o e. sought-what off whence n (open-named pid s n o e) (without_mount o) o.what)

-- calls on descriptors
pub record AreDescriptorRowsAllowed {M : Type 0} (number : M → ℕ) (table : List Row) (mounts : Mounts M) (pid : ℕ) : Type 0 where
  pub dup : (fd : ℤ) → IsAllowed number table mounts pid (λ k. dup_row k fd)
  -- of two descriptors: decoding refuses one and the same
  pub dup3 : (old new : ℤ) (flags : ℕ) → old ≢ new → IsAllowed number table mounts pid (λ k. dup3_row k old new flags)
  pub fcntl : (fd cmd : ℤ) (arg : ℕ) → IsAllowed number table mounts pid (λ k. fcntl_row k fd cmd arg)
  pub close : (fd : ℤ) → IsAllowed number table mounts pid (λ k. close_row k fd)
  pub pipe2 : (buf flags : ℕ) → IsAllowed number table mounts pid (λ k. pipe2_row k buf flags)
  pub lseek : (fd off whence : ℤ) → IsAllowed number table mounts pid (λ k. lseek_row k fd off whence)

pub descriptor-rows : (M : Type 0) (number : M → ℕ) (table : List Row) (mounts : Mounts M) (pid : ℕ) → AreDescriptorRowsAllowed number table mounts pid
descriptor-rows M number table mounts pid = record {
  dup = λ fd. row-allowed number table mounts pid (λ t next. Unit {0}) (λ k. dup_row k fd) (λ s l lives rests. dup number table mounts pid s lives fd);
  dup3 = λ old new flags apart. row-allowed number table mounts pid (λ t next. Unit {0}) (λ k. dup3_row k old new flags) (λ s l lives rests. dup3 number table mounts pid s lives old new flags apart);
  fcntl = λ fd cmd arg. row-allowed number table mounts pid (λ t next. Unit {0}) (λ k. fcntl_row k fd cmd arg) (λ s l lives rests. fcntl number table mounts pid s lives fd cmd arg);
  close = λ fd. row-allowed number table mounts pid (λ t next. Unit {0}) (λ k. close_row k fd) (λ s l lives rests. close number table mounts pid s lives fd);
  pipe2 = λ buf flags. row-allowed number table mounts pid (λ t next. Unit {0}) (λ k. pipe2_row k buf flags) (λ s l lives rests. pipe2 number table mounts pid s lives buf flags);
  lseek = λ fd off whence. row-allowed number table mounts pid (λ t next. Unit {0}) (λ k. lseek_row k fd off whence) (λ s l lives rests. lseek number table mounts pid s lives fd off whence);
}
