-- What is said of stopped processes, of what is done to them, and of watchers: kr_stops has most of it, and the crates above find it here.
use Rattle.std.specs.Prelude.{◌≡◌}
pub use Rattle.kr_stops.specs.Stopped.{IsEdited, IsThere, Stopped, lent}
pub use Rattle.kr_stops.specs.Editing.{after_peek, after_poke, after_request, decoded_at, memory_at, register_at, with_memory, with_register}
pub use Rattle.kr_stops.specs.Watching.{IsGraph, Watcher}
pub use Rattle.kr_stops.specs.Watching.{watching}

-- at most the process that is stopped was edited: all else stays
pub record OnlyEdits {Tracee Rest : Type 0} (stopped : Tracee → Stopped) (around : Tracee → Rest) (old new : Tracee) : Type 0 where
  pub edits : IsEdited (stopped old) (stopped new)
  pub rest : around new ≡ around old
