-- The shelf that the other machine marks is the one on which a tracer puts its texts.
use Rattle.std.specs.Prelude.{◌≡◌, true}
use Rattle.pt_tracer.specs.rv_mem.Memory.{Memory}
use Rattle.pt_tracer.specs.rv_mem.Pages.{IsWhole}
use Rattle.pt_tracer.specs.rv_mem.declared.regs.Regs.{Regs}
use Rattle.law_walks.specs.kr_calls.Arguments.{number}
use Rattle.kr_turns.specs.kr_calm.Shelf.{has_path, is_usable, shelved_by, stack_pointer}
use Rattle.law_edits.specs.Shelves.{HasMarkedShelf}

-- of a call with a path, where it can be used
abbrev pub ShelvesAreMarked : Type 0
ShelvesAreMarked =
    (regs : Regs) (m : Memory) → IsWhole m.pages → has_path (number regs) ≡ true → is_usable (stack_pointer regs) m.pages ≡ true → HasMarkedShelf (stack_pointer regs) (shelved_by 1 regs m).pages m.pages
