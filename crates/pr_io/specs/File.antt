-- What contracts see of a source and of a sink over what the system opened.
use Rattle.std.specs.Prelude.{ℕ, Bool, List, Option, option_and_then}

-- the reader, where there is one, the count of faults, all bytes that were given, and whether the end was told
pub record ReaderState (T : Type 0) : Type 0 where
  pub file : Option T
  pub faults : ℕ
  pub given : List ℕ
  pub ended : Bool

-- the writer, where there is one, the count of faults, and all bytes that were taken
pub record WriterState (T : Type 0) : Type 0 where
  pub file : Option T
  pub faults : ℕ
  pub got : List ℕ

-- the bytes that a reader or writer tells, where there is one and it tells them
abbrev pub told : {T : Type 0} → (T → Option (List ℕ)) → Option T → Option (List ℕ)
told content file = option_and_then content file
