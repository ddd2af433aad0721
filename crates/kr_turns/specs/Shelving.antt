-- The shelf of a call, in the state of its kernel.
use Rattle.std.specs.Prelude.{ℕ, Bool}
use Rattle.kr_steps.specs.kr_model.State.{Image, State}
use Rattle.kr_calm.specs.Shelf.{lacks_shelf_by, shelved_by}
use Rattle.kr_steps.specs.Computing.{computed}
use Rattle.kr_steps.specs.kr_stops.Stopped.{image_in}

module _ {T : Type 0} (marks pid : ℕ) where
  -- a process that comes to a call with a path marks its shelf, where it has one
  abbrev pub shelved_in : State T Image → State T Image
  shelved_in s = let own = image_in pid s in computed pid own.regs (shelved_by marks own.regs own.memory) s

  -- whether its call has a path, and it has no shelf
  abbrev pub lacks_in : State T Image → Bool
  lacks_in s = let own = image_in pid s in lacks_shelf_by marks own.regs own.memory
