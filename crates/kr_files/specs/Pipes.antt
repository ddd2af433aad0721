-- Pipes: what a read and a write of them do, by the bytes that they hold.
use Rattle.std.specs.Prelude.{ℕ, ◌-◌, ◌==◌, Bool, ◌&&◌, List, ◌++◌, length, take, min, nat_le, if◌then◌else◌}
use Rattle.kr_files.specs.declared.opened.Moved.{Moved}
use Rattle.kr_files.specs.declared.opened.Moved.TheVariants.{Bytes, NotReady as ReadNotReady}
use Rattle.kr_files.specs.declared.opened.Wrote.{Wrote}
use Rattle.kr_files.specs.declared.opened.Wrote.TheVariants.{Took, NotReady as WriteNotReady, NoReader}

-- whether a read waits: the pipe is empty, and has a writer
abbrev pub read_waits : List ℕ → Bool → Bool
read_waits bytes writer = length bytes == 0 && writer

-- what a read of n bytes answers: the oldest bytes, as many as there are up to n, and none of an empty
-- pipe without a writer
abbrev pub moved_of : List ℕ → Bool → ℕ → Moved
moved_of bytes writer n = if read_waits bytes writer then ReadNotReady else Bytes (take n bytes)

-- what a write answers: it takes as many bytes as there is room for in 65,536
abbrev pub wrote_of : List ℕ → Bool → List ℕ → Wrote
wrote_of bytes reader b =
    if reader
    then (if nat_le 65536 (length bytes) then WriteNotReady else Took (min (length b) (65536 - length bytes)))
    else NoReader

-- the bytes of a pipe after a write
abbrev pub after_write : List ℕ → Bool → List ℕ → List ℕ
after_write bytes reader b = if reader then bytes ++ take (65536 - length bytes) b else bytes
