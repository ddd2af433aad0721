-- The commands of fcntl(2) by their numbers.
use Rattle.std.specs.Prelude.{◌≡◌, ℕ, ◌==◌, false}
use Rattle.kr_rows.specs.declared.fcntl.Command.{Command}
use Rattle.kr_rows.specs.declared.fcntl.Command.TheVariants.{DupFd, DupFdCloexec, GetFd, SetFd, GetFl, SetFl}

abbrev pub number_of : Command → ℕ
number_of DupFd = 0
number_of DupFdCloexec = 1030
number_of GetFd = 1
number_of SetFd = 2
number_of GetFl = 3
number_of SetFl = 4

-- the number of no command
pub record IsUnknown (n : ℕ) : Type 0 where
  pub dup_fd : (n == 0) ≡ false
  pub dup_fd_cloexec : (n == 1030) ≡ false
  pub get_fd : (n == 1) ≡ false
  pub set_fd : (n == 2) ≡ false
  pub get_fl : (n == 3) ≡ false
  pub set_fl : (n == 4) ≡ false
