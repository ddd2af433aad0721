-- Open files: what is remembered of them, and which of them are ends of pipes.
use Rattle.std.specs.Prelude.{ℕ, ◌==◌, Bool, true, false, ◌&&◌, not, List, [], length, bytes_eq, None, if◌then◌else◌}
use Rattle.kr_files.specs.declared.opened.Opened.{Opened}
use Rattle.kr_files.specs.declared.opened.What.{What}
use Rattle.kr_files.specs.declared.opened.What.TheVariants.{File, Dir, In, Out, Err, PipeRead, PipeWrite}

-- ---- ends of pipes

-- whether this is the end of pipe p that is read
abbrev pub is_reader : ℕ → What → Bool
is_reader p (PipeRead q) = q == p
is_reader p File = false
is_reader p Dir = false
is_reader p In = false
is_reader p Out = false
is_reader p Err = false
is_reader p (PipeWrite q) = false

-- whether this is the end of pipe p that is written
abbrev pub is_writer : ℕ → What → Bool
is_writer p (PipeWrite q) = q == p
is_writer p File = false
is_writer p Dir = false
is_writer p In = false
is_writer p Out = false
is_writer p Err = false
is_writer p (PipeRead q) = false

-- whether this is no end of a pipe
abbrev pub is_no_end : What → Bool
is_no_end (PipeRead p) = false
is_no_end (PipeWrite p) = false
is_no_end File = true
is_no_end Dir = true
is_no_end In = true
is_no_end Out = true
is_no_end Err = true

module _ {M : Type 0} where
  -- an end of a pipe as it is opened
  abbrev pub pipe_end : What → Bool → Bool → Opened M
  pipe_end what read write = record {
    place = None;
    dir = 0;
    name = [];
    what = what;
    read = read;
    write = write;
    append = false;
    at = 0;
  }

  -- ---- the entry that an open file remembers

  -- whether it remembers the entry of this name in this directory; an empty name remembers nothing
  abbrev pub remembers : ℕ → List ℕ → Opened M → Bool
  remembers dir name o = not (length o.name == 0) && (o.dir == dir && bytes_eq o.name name)

  -- with no entry remembered
  abbrev pub nameless : Opened M → Opened M
  nameless o = record o { dir = 0; name = [] }

  -- with this entry remembered, or none where the name is empty
  abbrev pub named_at : ℕ → List ℕ → Opened M → Opened M
  named_at dir name o = record o { dir = (if length name == 0 then 0 else dir); name = name }

  -- after this entry was removed or replaced
  abbrev pub after_removal : ℕ → List ℕ → Opened M → Opened M
  after_removal dir name o = if remembers dir name o then nameless o else o

  -- after the entry of `name` in `dir` took the place of that of `new` in `to`
  abbrev pub after_rename : ℕ → List ℕ → ℕ → List ℕ → Opened M → Opened M
  after_rename dir name to new o =
      let kept = after_removal to new o in
      if remembers dir name kept then named_at to new kept else kept
