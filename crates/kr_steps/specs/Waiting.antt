-- Whether a process can go on: one that stays at a call that waited can where that call need not wait any more.
use Rattle.std.specs.Prelude.{ℕ, ◌%◌, ◌==◌, ◌&&◌, ◌||◌, not, Bool, false, List, length, slice_get, nat_le, Option, is_some, if◌then◌else◌, ℤ}
use Rattle.std.specs.List.{filter, find, list_any}
use Rattle.std.specs.Option.{option_and_then, option_map_or}
use Rattle.rv_cpu.specs.rv_mem.declared.regs.Regs.{Regs}
use Rattle.kr_perform.specs.kr_calls.Arguments.{int, number}
use Rattle.kr_perform.specs.kr_files.declared.opened.What.{What}
use Rattle.kr_perform.specs.kr_files.declared.opened.What.TheVariants.{PipeRead, PipeWrite}
use Rattle.kr_perform.specs.kr_model.Asking.{descriptor_number}
use Rattle.kr_perform.specs.kr_model.FileRows.{pipe_limit}
use Rattle.kr_perform.specs.kr_model.Known.{Known, known}
use Rattle.kr_perform.specs.kr_model.ProcessRows.{is_meant}
use Rattle.kr_perform.specs.kr_model.State.{Image, Process, State, image_layout}

-- a read of an empty pipe that has a writer
abbrev pub read_waits : Known → What → Bool
read_waits k (PipeRead pipe) = option_map_or (λ bytes. length bytes == 0) (k.pipe pipe) false && k.writer pipe
read_waits k what = false

-- a write into a full one that has a reader
abbrev pub write_waits : Known → What → Bool
write_waits k (PipeWrite pipe) = option_map_or (λ bytes. nat_le pipe_limit (length bytes)) (k.pipe pipe) false && k.reader pipe
write_waits k what = false

-- on what is open under a descriptor
abbrev pub open_waits : (What → Bool) → Known → Option ℕ → Bool
open_waits waits k fd = option_map_or (λ o. waits o.what) (option_and_then k.opened fd) false

-- a wait for a child of which none ended and one lives
abbrev pub child_waits : Known → ℕ → ℤ → Bool
child_waits k caller child =
    not (is_some (find (λ e. e.parent == caller && is_meant child e.pid) k.ended)) && list_any (λ p. p.parent == caller && is_meant child p.pid) k.living

-- the call by its number and its first argument
abbrev pub still_waits : Known → ℕ → Regs → Bool
still_waits k caller regs =
    if number regs == 63 || number regs == 65 then open_waits (read_waits k) k (descriptor_number (int regs 0))
    else if number regs == 64 || number regs == 66 then open_waits (write_waits k) k (descriptor_number (int regs 0))
    else if number regs == 260 then child_waits k caller (int regs 0)
    else false

module _ {T : Type 0} (s : State T Image) where
  -- a process that doesn't stay at a call that has to wait still
  abbrev pub goes_on : Process T Image → Bool
  goes_on p = not (p.waits && still_waits (known image_layout p.pid s) p.pid p.image.regs)

  -- the processes that can go on, in order of their numbers
  abbrev pub ready_processes : List (Process T Image)
  ready_processes = filter goes_on s.living

  -- the one that a turn runs by its pick, where one is ready
  abbrev pub picked_process : ℕ → Option (Process T Image)
  picked_process pick = slice_get ready_processes (pick % length ready_processes)
