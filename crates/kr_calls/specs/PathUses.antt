-- A path of a call, and what its walk is for where the call's flags say so.
use Rattle.std.specs.Prelude.{ℕ, ◌||◌, ℤ, negsuc, List, if◌then◌else◌}
use Rattle.rv_mem.specs.pr_base.declared.path.WalkMode.{WalkMode}
use Rattle.rv_mem.specs.pr_base.declared.path.WalkMode.TheVariants as mode
use Rattle.kr_calls.specs.declared.paths.PathArg.{PathArg}
use Rattle.kr_calls.specs.Arguments.{has}

-- its descriptor, its text, what its walk is for, and the register that holds the text's address
pub record PathUse : Type 0 where
  pub dirfd : ℤ
  pub text : List ℕ
  pub mode : WalkMode
  pub register : ℕ

-- AT_SYMLINK_NOFOLLOW
abbrev pub look_mode : ℕ → WalkMode
look_mode flags = if has flags 0x100 then mode.LookLink else mode.Look

-- a file that is made: O_CREAT 0100 with O_EXCL 0200 or O_NOFOLLOW 0400000 doesn't follow a last link
abbrev pub make_mode : ℕ → WalkMode
make_mode flags = if has flags 0x80 || has flags 0x20000 then mode.Name else mode.Open

abbrev pub open_mode : ℕ → WalkMode
open_mode flags = if has flags 0x40 then make_mode flags else if has flags 0x20000 then mode.LookLink else mode.Look

-- AT_SYMLINK_FOLLOW
abbrev pub link_mode : ℕ → WalkMode
link_mode flags = if has flags 0x400 then mode.Look else mode.LookLink

-- AT_FDCWD
abbrev pub working_directory : ℤ
working_directory = negsuc 99

-- what the code gives
abbrev pub path_use : PathArg → PathUse
path_use arg = record { dirfd = arg.dirfd; text = arg.text.now; mode = arg.mode; register = arg.register }
