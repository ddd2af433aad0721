-- The places that a state's processes use, as plain data: working directories, executables, and what is open, by its number.
-- Descriptors aren't among them, since copies share what is open.
use Rattle.std.specs.Prelude.{◌≡◌, ◌||◌, ◌==◌, ℕ, Bool, true, false, not, List, [], length, Option, Some}
use Rattle.law_walks.specs.kr_tree.declared.place.Host.{Host}
use Rattle.law_walks.specs.kr_tree.declared.place.Host.TheVariants.{Node, Proc}
use Rattle.law_walks.specs.kr_tree.declared.place.Place.{Place}
use Rattle.law_walks.specs.kr_files.declared.opened.Opened.{Opened}
use Rattle.law_walks.specs.kr_files.Files.{file_at}
use Rattle.law_walks.specs.kr_view.Names.{is_file_source}
use Rattle.law_walks.specs.kr_view.View.{Row, row}
use Rattle.law_walks.specs.kr_model.FileRows.{is_dir}
use Rattle.law_walks.specs.kr_model.State.{Process, State, process}

-- a place in use, whether it is used as a directory, and the entry that is remembered of it; an empty name remembers none
pub record Use : Type 0 where
  pub place : Place ℕ
  pub is_directory : Bool
  pub dir : ℕ
  pub name : List ℕ

abbrev pub cwd_use : {X : Type 0} → Process ℕ X → Use
cwd_use p = record { place = p.cwd; is_directory = true; dir = 0; name = [] }

abbrev pub exe_use : {X : Type 0} → Process ℕ X → Use
exe_use p = record { place = p.exe; is_directory = false; dir = p.exe_dir; name = p.exe_name }

abbrev pub open_use : Opened ℕ → Place ℕ → Use
open_use o p = record { place = p; is_directory = is_dir o.what; dir = o.dir; name = o.name }

pub data IsUse {X : Type 0} (s : State ℕ X) : Use → Type 0 where
  is_cwd : (pid : ℕ) (p : Process ℕ X) → process pid s ≡ Some p → IsUse s (cwd_use p)
  is_exe : (pid : ℕ) (p : Process ℕ X) → process pid s ≡ Some p → IsUse s (exe_use p)
  is_open : (number : ℕ) (o : Opened ℕ) (p : Place ℕ) → file_at s.files number ≡ Some o → o.place ≡ Some p → IsUse s (open_use o p)

-- a directory, or what remembers an entry, as a file whose name wasn't taken away
abbrev pub has_name : Use → Bool
has_name x = x.is_directory || not (length x.name == 0)

-- whether a place is the source of its mount and no directory
abbrev pub is_source_object : Option Row → Host → Bool
is_source_object r (Node i) = is_file_source r i
is_source_object r (Proc i at) = false

abbrev pub is_source_place : List Row → Place ℕ → Bool
is_source_place table p = is_source_object (row table p.mount) p.host
