-- What is asked of the rows of a table, and of the processes of a state, one question at a time.
use Rattle.std.specs.Prelude.{ℕ, ◌≡◌, ◌≢◌, ◌<◌, ◌^◌, ◌==◌, Bool, ◌&&◌, ◌||◌, not, length, List, Some}
use Rattle.std.specs.List.{list_any}
use Rattle.kr_seen.specs.kr_tree.Tree.{Tree}
use Rattle.kr_seen.specs.kr_tree.declared.place.Host.{Host}
use Rattle.kr_seen.specs.kr_view.View.{Point, Row, row}
use Rattle.kr_seen.specs.kr_files.declared.opened.Opened.{Opened}
use Rattle.kr_seen.specs.kr_files.Files.{Table}
use Rattle.kr_seen.specs.kr_model.State.{Process, State, inode_of}
use Rattle.kr_calm.specs.Above.{is_at_or_below}
use Rattle.kr_calm.specs.InUse.{any_opened, is_directory_of, open_directory, remembered_directory}
use Rattle.kr_calm.specs.Rules.{is_above_row, is_between, is_named, serves_row}
use Rattle.kr_calm.specs.declared.rows.RowQuestion.{RowQuestion}
use Rattle.kr_calm.specs.declared.rows.RowQuestion.TheVariants.{Between, Named, Above, Serves}
use Rattle.kr_calm.specs.declared.uses.UseQuestion.{UseQuestion}
use Rattle.kr_calm.specs.declared.uses.UseQuestion.TheVariants as use_

-- ---- rows

abbrev pub row_answers : RowQuestion → Tree → Row → Bool
row_answers (Between one other) t r = is_between t one other r
row_answers (Named dir name) t r = is_named dir name.now r
row_answers (Above i) t r = is_above_row t i r
row_answers (Serves i) t r = serves_row t i r

-- mount points stand in directories, whose numbers begin at 1
abbrev pub HasRealPoint : Row → Type 0
HasRealPoint r = (p : Point) → r.point ≡ Some p → p.dir ≢ 0

abbrev pub HaveRealPoints : List Row → Type 0
HaveRealPoints table = (k : ℕ) (r : Row) → row table k ≡ Some r → HasRealPoint r

pub record HaveFewPoints (table : List Row) : Type 0 where
  pub points : HaveRealPoints table
  pub few : length table < 2 ^ 32

-- ---- processes

module _ {M : Type 0} (t : Tree) where
  abbrev pub opened_answers : UseQuestion → Opened M → Bool
  opened_answers (use_.Above i) o = open_directory (λ host. is_at_or_below t i (inode_of host)) o
  opened_answers (use_.Of pid) o = open_directory (is_directory_of pid) o
  opened_answers (use_.Remembered i) o = remembered_directory (is_at_or_below t i) o

-- the working directory of a process, and the entry that its executable remembers
abbrev pub own_answers : Tree → UseQuestion → Host → ℕ → List ℕ → Bool
own_answers t (use_.Above i) cwd dir name = is_at_or_below t i (inode_of cwd)
own_answers t (use_.Of pid) cwd dir name = is_directory_of pid cwd
own_answers t (use_.Remembered i) cwd dir name = not (length name == 0) && is_at_or_below t i dir

module _ {M X : Type 0} (t : Tree) where
  abbrev pub process_answers : UseQuestion → Table M → Process M X → Bool
  process_answers q files p = own_answers t q p.cwd.host p.exe_dir p.exe_name || any_opened (opened_answers t q) files p.descs

abbrev pub use_answers : {M X : Type 0} → UseQuestion → State M X → Bool
use_answers q s = list_any (process_answers s.tree q s.files) s.living
