-- Which directories living processes use.
use Rattle.std.specs.FinMap as map
use Rattle.std.specs.Prelude.{ℕ, zero, suc, ◌==◌, Bool, false, ◌||◌, ◌&&◌, not, length, Option, None, if◌then◌else◌}
use Rattle.std.specs.List.{list_any}
use Rattle.std.specs.Option.{option_map, option_map_or, option_and_then}
use Rattle.kr_seen.specs.kr_tree.declared.place.Host.{Host}
use Rattle.kr_seen.specs.kr_tree.declared.place.Host.TheVariants.{Proc}
use Rattle.kr_seen.specs.kr_tree.declared.place.ProcAt.TheVariants.{Dir, FdDir}
use Rattle.kr_seen.specs.kr_files.declared.opened.Opened.{Opened}
use Rattle.kr_seen.specs.kr_files.Descriptors.{Meanings}
use Rattle.kr_seen.specs.kr_files.Files.{Table, file_at}
use Rattle.kr_seen.specs.kr_model.FileRows.{is_dir}
use Rattle.kr_seen.specs.kr_model.State.{Process, State}

module _ {M : Type 0} where
  -- ---- what is open

  -- a test of what is open under a descriptor
  abbrev pub passes_at : (Opened M → Bool) → Table M → Meanings → ℕ → Bool
  passes_at test files d fd = option_map_or test (option_and_then (λ x. file_at files x.number) (map.get d fd)) false

  -- whether what is open under one of the first `count` descriptors passes it; a process has 1,024
  unfoldable pub any_opened_below : ℕ → (Opened M → Bool) → Table M → Meanings → Bool
  any_opened_below zero test files d = false
  any_opened_below (suc fd) test files d = any_opened_below fd test files d || passes_at test files d fd

  abbrev pub any_opened : (Opened M → Bool) → Table M → Meanings → Bool
  any_opened test files d = any_opened_below 1024 test files d

  -- ---- directories in use

  -- what is open, where it is a directory
  abbrev pub directory_of : Opened M → Option Host
  directory_of o = if is_dir o.what then option_map (λ p. p.host) o.place else None

  abbrev pub open_directory : (Host → Bool) → Opened M → Bool
  open_directory test o = option_map_or test (directory_of o) false

  -- of what is open and remembers an entry, the directory of that
  abbrev pub remembered_directory : (ℕ → Bool) → Opened M → Bool
  remembered_directory test o = not (length o.name == 0) && test o.dir

module _ {M X : Type 0} where
  -- whether the working directory of a process, or a directory that it has open, passes a test
  abbrev pub process_uses : (Host → Bool) → Table M → Process M X → Bool
  process_uses test files p = test p.cwd.host || any_opened (open_directory test) files p.descs

  abbrev pub is_in_use : (Host → Bool) → State M X → Bool
  is_in_use test s = list_any (process_uses test s.files) s.living

  -- whether a directory passes a test that holds the name of the executable of a process, or of a file that it has open
  abbrev pub process_remembers : (ℕ → Bool) → Table M → Process M X → Bool
  process_remembers test files p = (not (length p.exe_name == 0) && test p.exe_dir) || any_opened (remembered_directory test) files p.descs

  abbrev pub is_remembered : (ℕ → Bool) → State M X → Bool
  is_remembered test s = list_any (process_remembers test s.files) s.living

-- ---- directories of processes

-- a process's own directory in the process directory, and `fd` in it
abbrev pub is_directory_of : ℕ → Host → Bool
is_directory_of pid (Proc i (Dir p)) = p == pid
is_directory_of pid (Proc i (FdDir p)) = p == pid
is_directory_of pid _ = false
