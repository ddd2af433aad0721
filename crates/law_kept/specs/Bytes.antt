-- A state of which all that calls read is made of bytes, and whose processes have 32 registers. Code has both by its types; definitions
-- have numbers and lists, and so runs need it as a law of their own.
use Rattle.std.specs.FinMap as map
use Rattle.std.specs.Prelude.{◌≡◌, ℕ, false, List, length, Some}
use Rattle.std.specs.List.{AllByRecursion}
use Rattle.kr_first.specs.rv_mem.Pages.{HoldsBytes}
use Rattle.kr_first.specs.kr_calls.PathTable.{PathUse, path_at}
use Rattle.kr_first.specs.kr_calls.declared.request.Request.{Request}
use Rattle.kr_first.specs.kr_calls.declared.request.Request.TheVariants as call
use Rattle.kr_first.specs.kr_tree.Lawful.{AreBytes, HasBytes as TreeHasBytes}
use Rattle.kr_first.specs.kr_view.View.{Row, row}
use Rattle.kr_first.specs.kr_files.declared.opened.Opened.{Opened}
use Rattle.kr_first.specs.kr_files.Files.{Table, file_at}
use Rattle.kr_first.specs.kr_model.State.{Image, Process, State}

-- names of bytes, as a text or a list of arguments has them
abbrev pub AreAllBytes : List (List ℕ) → Type 0
AreAllBytes names = AllByRecursion AreBytes names

-- ---- a state

-- the memory of a process, its registers, and the name that its executable remembers
pub record ProcessIsSized {M : Type 0} (p : Process M Image) : Type 0 where
  pub memory : HoldsBytes p.image.memory.pages
  pub registers : length p.image.regs.x ≡ 32
  pub exe_name : AreBytes p.exe_name

-- the names that open files remember, and what stands in pipes
pub record FilesHaveBytes {M : Type 0} (files : Table M) : Type 0 where
  pub names : (n : ℕ) (o : Opened M) → file_at files n ≡ Some o → AreBytes o.name
  pub pipes : (pipe : ℕ) (bytes : List ℕ) → map.get files.pipes pipe ≡ Some bytes → AreBytes bytes

pub record HasBytes {M : Type 0} (s : State M Image) : Type 0 where
  pub tree : TreeHasBytes s.tree
  pub processes : AllByRecursion (λ p. ProcessIsSized p) s.living
  pub files : FilesHaveBytes s.files
  pub input : AreBytes s.input

-- ---- what a call is given

-- the locations of mounts, and the names at which sources that are no directories were settled
pub record TableHasBytes (table : List Row) : Type 0 where
  pub locations : (k : ℕ) (r : Row) → row table k ≡ Some r → AreAllBytes r.text.location
  pub sources : (k : ℕ) (r : Row) → row table k ≡ Some r → r.is_dir ≡ false → AreBytes r.source_name

-- the text of a new link
abbrev pub HasByteText : Request → Type 0
HasByteText (call.Symlinkat text dirfd path) = AreBytes text
HasByteText _ = Unit {0}

-- the texts of a request, as decoding gives them of a memory that holds bytes
pub record GivesBytes (r : Request) : Type 0 where
  pub paths : (k : ℕ) (u : PathUse) → path_at r k ≡ Some u → AreBytes u.text
  pub text : HasByteText r
