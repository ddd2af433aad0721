-- What holds of every table of open files, and of the descriptors of every process.
use Rattle.std.specs.FinMap as map
use Rattle.std.specs.Prelude.{◌≡◌, ◌↔◌, ◌<◌, ◌≤◌, ℕ, ◌||◌, List, length, Some, None, IsSome, IsTrue}
use Rattle.std.specs.Ordering.{nat_cmp}
use Rattle.kr_files.specs.declared.descs.Descriptor.{Descriptor}
use Rattle.kr_files.specs.declared.opened.Opened.{Opened}
use Rattle.kr_files.specs.declared.opened.What.TheVariants.{PipeRead, PipeWrite}
use Rattle.kr_files.specs.Descriptors.{Descriptors, meanings, named_count, lowest_free, lowest_pair, IsLowestFree, AllTaken}
use Rattle.kr_files.specs.Files.{Counted, Table, Kept, opened_at, has_reader, has_writer, takes_pipe}
use Rattle.kr_files.specs.Opened.{after_removal, after_rename}

-- ---- open files and pipes

module _ {M : Type 0} where
  -- open files and keys belong together: each key leads to an open file, and each open file has one key
  pub record HaveKeys (keys : map.FinMap nat_cmp ℕ) (files : map.FinMap nat_cmp (Counted M)) : Type 0 where
    pub leads : (k n : ℕ) → map.get keys k ≡ Some n → IsSome (map.get files n)
    pub has_key : (n : ℕ) (h : Counted M) → map.get files n ≡ Some h → (k : ℕ) × (map.get keys k ≡ Some n)
    pub one_key : (j k n : ℕ) → map.get keys j ≡ Some n → map.get keys k ≡ Some n → j ≡ k

  -- each open file is named by a descriptor at least
  abbrev pub AreCounted : map.FinMap nat_cmp (Counted M) → Type 0
  AreCounted files = (n : ℕ) (h : Counted M) → map.get files n ≡ Some h → 1 ≤ h.count

  -- what holds of every table
  pub record IsKept (f : Kept M) : Type 0 where
    pub keys : HaveKeys f.keys f.table.files
    pub counts : AreCounted f.table.files
    -- no number is above the last one, so the next one is fresh
    pub file_numbers : (n : ℕ) (h : Counted M) → map.get f.table.files n ≡ Some h → n ≤ f.table.last_file
    pub pipe_numbers : (p : ℕ) → IsSome (map.get f.table.pipes p) → p ≤ f.table.last_pipe
    -- an end of a pipe has its pipe
    pub reads : (p n : ℕ) (h : Counted M) → map.get f.table.files n ≡ Some h → h.opened.what ≡ PipeRead p → IsSome (map.get f.table.pipes p)
    pub writes : (p n : ℕ) (h : Counted M) → map.get f.table.files n ≡ Some h → h.opened.what ≡ PipeWrite p → IsSome (map.get f.table.pipes p)
    -- and no two open files are the same end
    pub one_reader : (p m n : ℕ) (g h : Counted M) → map.get f.table.files m ≡ Some g → map.get f.table.files n ≡ Some h
        → g.opened.what ≡ PipeRead p → h.opened.what ≡ PipeRead p → m ≡ n
    pub one_writer : (p m n : ℕ) (g h : Counted M) → map.get f.table.files m ≡ Some g → map.get f.table.files n ≡ Some h
        → g.opened.what ≡ PipeWrite p → h.opened.what ≡ PipeWrite p → m ≡ n
    -- a pipe has an open end
    pub ends : (p : ℕ) → IsSome (map.get f.table.pipes p) → IsTrue (has_reader f.table p || has_writer f.table p)
    -- and holds at most 65,536 bytes
    pub bytes : (p : ℕ) (bytes : List ℕ) → map.get f.table.pipes p ≡ Some bytes → length bytes ≤ 65536

  -- what a descriptor leads to is there exactly where the descriptor is open
  abbrev pub OpenHaveFiles : Kept M → Descriptors → Type 0
  OpenHaveFiles f d = (fd : ℕ) → IsSome (opened_at f d fd) ↔ IsSome (map.get d fd)

-- where an entry takes its own place, it is the one that is replaced: what remembers it gets nameless, and nothing
-- is renamed
abbrev pub RenamedOntoItself : Type 0 → Type 0
RenamedOntoItself M = (dir : ℕ) (name : List ℕ) (o : Opened M) → after_rename dir name dir name o ≡ after_removal dir name o

-- ---- descriptors

-- a process has at most 1,024 descriptors, and as many copies of one at most
pub record AreFew (d : Descriptors) : Type 0 where
  pub below : (fd : ℕ) (x : Descriptor) → map.get d fd ≡ Some x → fd < 1024
  pub copies : (n : ℕ) → named_count (meanings d) n ≤ 1024

-- `lowest_free` gives the least free number, and none where none is free
pub record LowestIsLeast (X : Type 0) : Type 0 where
  pub some : (d : map.FinMap nat_cmp X) (from fd : ℕ) → (lowest_free d from ≡ Some fd) ↔ IsLowestFree d from fd
  pub none : (d : map.FinMap nat_cmp X) (from : ℕ) → (lowest_free d from ≡ None) ↔ AllTaken d from

-- descriptors and their meanings have the same lowest free numbers, and take a pipe alike
pub record LowestByMeaning (M : Type 0) : Type 0 where
  pub one : (d : Descriptors) (from : ℕ) → lowest_free (meanings d) from ≡ lowest_free d from
  pub pair : (d : Descriptors) → lowest_pair (meanings d) ≡ lowest_pair d
  pub pipe : (t : Table M) (d : Descriptors) → takes_pipe t (meanings d) ≡ takes_pipe t d
