-- What ties the pipes as they are kept to the open files. No public clause cites this module.
use Rattle.std.specs.FinMap as map
use Rattle.std.specs.Prelude.{◌≡◌, ◌≤◌, ℕ, Bool, true, false, ◌||◌, length, Some, IsSome}
use Rattle.std.specs.Ordering.{nat_cmp}
use Rattle.kr_files.specs.declared.opened.What.{What}
use Rattle.kr_files.specs.Files.{Counted, Kept, has_kind}
use Rattle.kr_tree.specs.pr_base.Maps.{mapped}
use Rattle.kr_files.specs.OpenFiles.{Store}
use Rattle.kr_files.specs.Opened.{is_reader, is_writer}
use Rattle.kr_files.specs.StoredPipes.{Pipe, PipeTable}

-- one side of pipe p: the end for reading at `true`, that for writing at `false`
abbrev pub is_end : Bool → ℕ → What → Bool
is_end true p what = is_reader p what
is_end false p what = is_writer p what

-- whether that side is noted as open
abbrev pub is_noted : Bool → Pipe → Bool
is_noted true p = p.reader
is_noted false p = p.writer

module _ {M : Type 0} where
  pub record IsSound (files : map.FinMap nat_cmp (Counted M)) (pipes : PipeTable) (last_file last_pipe : ℕ) : Type 0 where
    -- no number is above the last one
    pub file_numbers : (n : ℕ) (h : Counted M) → map.get files n ≡ Some h → n ≤ last_file
    pub pipe_numbers : (p : ℕ) (q : Pipe) → map.get pipes p ≡ Some q → p ≤ last_pipe
    -- an end of a pipe has its pipe
    pub has_pipe : (side : Bool) (p n : ℕ) (h : Counted M) → map.get files n ≡ Some h → is_end side p h.opened.what ≡ true → IsSome (map.get pipes p)
    -- a pipe has an open end
    pub has_end : (p : ℕ) (q : Pipe) → map.get pipes p ≡ Some q → (q.reader || q.writer) ≡ true
    -- a pipe holds at most 65,536 bytes
    pub bounded : (p : ℕ) (q : Pipe) → map.get pipes p ≡ Some q → length q.bytes ≤ 65536
    -- a pipe's side is noted as open where some open file is that end
    pub noted : (side : Bool) (p : ℕ) (q : Pipe) → map.get pipes p ≡ Some q → is_noted side q ≡ has_kind (is_end side p) files
    -- and only one is
    pub single : (side : Bool) (p m n : ℕ) (g h : Counted M) → map.get files m ≡ Some g → map.get files n ≡ Some h
        → is_end side p g.opened.what ≡ true → is_end side p h.opened.what ≡ true → m ≡ n

  -- what a contract sees
  abbrev pub kept_of : Store M → PipeTable → ℕ → ℕ → Kept M
  kept_of open_ pipes last_file last_pipe = record {
    keys = open_.keys;
    table = record {
      files = open_.files;
      pipes = mapped (λ p q. q.bytes) pipes;
      last_file = last_file;
      last_pipe = last_pipe;
    };
  }
