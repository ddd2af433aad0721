-- The shelf: the 65,536 bytes below the stack pointer of a process that makes a call with a path. There a tracer puts the texts
-- that it swaps, so a run on which the two machines agree reads none of these bytes. A kernel that keeps marks marks them.
use Rattle.std.specs.Prelude.{ℕ, ◌-◌, Bool, ◌&&◌, not, nat_eq, nat_le, slice_index, if◌then◌else◌}
use Rattle.kr_seen.specs.rv_mem.declared.regs.Regs.{Regs}
use Rattle.kr_seen.specs.rv_mem.declared.rights.Use.TheVariants.{Read, Write}
use Rattle.kr_seen.specs.rv_mem.Memory.{Memory, with_pages}
use Rattle.kr_seen.specs.rv_mem.Pages.{Pages, allows_all, marked}
use Rattle.kr_seen.specs.kr_calls.Arguments.{number}
pub use Rattle.kr_seen.specs.kr_calls.CallTable.{has_path}

-- ---- the range

abbrev pub shelf_size : ℕ
shelf_size = 65536

-- the stack pointer, x2
abbrev pub stack_pointer : Regs → ℕ
stack_pointer regs = slice_index regs.x 2

abbrev pub shelf_start : ℕ → ℕ
shelf_start sp = sp - shelf_size

-- each of its bytes can be read and written. Below a stack pointer that is too low there is no room for a shelf
abbrev pub is_usable : ℕ → Pages → Bool
is_usable sp m = nat_le shelf_size sp && (allows_all m (shelf_start sp) shelf_size Read && allows_all m (shelf_start sp) shelf_size Write)

-- ---- marks

abbrev pub with_shelf_marked : ℕ → Memory → Memory
with_shelf_marked sp m = with_pages m (marked m.pages (shelf_start sp) shelf_size)

-- what a call leaves of the caller's memory before it is decoded: a call with a path marks its shelf, where it has one
abbrev pub shelved : Regs → Memory → Memory
shelved regs m =
    if has_path (number regs) then (if is_usable (stack_pointer regs) m.pages then with_shelf_marked (stack_pointer regs) m else m)
    else m

-- a call with a path that has no shelf
abbrev pub lacks_shelf : Regs → Memory → Bool
lacks_shelf regs m = has_path (number regs) && not (is_usable (stack_pointer regs) m.pages)

-- a kernel that keeps no marks marks nothing and judges nothing
abbrev pub shelved_by : ℕ → Regs → Memory → Memory
shelved_by marks regs m = if nat_eq marks 0 then m else shelved regs m

abbrev pub lacks_shelf_by : ℕ → Regs → Memory → Bool
lacks_shelf_by marks regs m = not (nat_eq marks 0) && lacks_shelf regs m
