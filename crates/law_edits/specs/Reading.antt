-- The lists of texts of execve(2) that a tracer reads by peeks are those that the kernel reads, from the same bytes.
use Rattle.std.specs.Prelude.{◌≡◌, ℕ, false, Result, Ok, Err}
use Rattle.pt_tracer.specs.pr_base.declared.errno.Errno.{Errno}
use Rattle.pt_tracer.specs.rv_mem.Actions.{AreEqualUnmarked, CarriedOut, carried_out}
use Rattle.pt_tracer.specs.rv_mem.Memory.{Memory}
use Rattle.pt_tracer.specs.rv_mem.Pages.{IsPlaced}
use Rattle.law_walks.specs.kr_calls.Expansion.{bytes_with_ends}
use Rattle.pt_tracer.specs.kr_exec.Lists as kernel
use Rattle.pt_tracer.specs.kr_exec.declared.lists.Lists.{Lists}
use Rattle.pt_tracer.specs.pt_faker.Reading as tracer
use Rattle.pt_tracer.specs.pt_faker.declared.lists.Handed.{Handed}

-- of an environment a tracer keeps how many bytes it has
abbrev pub handed : Lists → Handed
handed lists = record { args = lists.args; env_bytes = bytes_with_ends lists.env }

abbrev pub handed_or : Result Lists Errno → Result Handed Errno
handed_or (Ok lists) = Ok (handed lists)
handed_or (Err e) = Err e

abbrev pub handed_on : CarriedOut (Result Lists Errno) → CarriedOut (Result Handed Errno)
handed_on done = record { reply = handed_or done.reply; memory = done.memory }

module _ (args env : ℕ) where
  abbrev pub read_by_kernel : Memory → CarriedOut (Result Lists Errno)
  read_by_kernel m = carried_out (kernel.lists_at args env) m

  abbrev pub read_by_tracer : Memory → CarriedOut (Result Handed Errno)
  read_by_tracer m = carried_out (tracer.lists_at args env) m

-- no page lies so high that the address behind it has more than 64 bits, so both read byte after byte at the same addresses
abbrev pub ListsAreReadAlike : Type 0
ListsAreReadAlike = (args env : ℕ) (m : Memory) → IsPlaced m.pages → read_by_tracer args env m ≡ handed_on (read_by_kernel args env m)

-- of memories that are equal but for marked bytes, where none of these is read
abbrev pub ShownListsAreReadAlike : Type 0
ShownListsAreReadAlike =
    (args env : ℕ) (m w : Memory) → IsPlaced m.pages → AreEqualUnmarked m.pages w.pages → (read_by_kernel args env m).memory.read_marked ≡ false
    → ((read_by_tracer args env w).reply ≡ handed_or (read_by_kernel args env m).reply) × AreEqualUnmarked (read_by_kernel args env m).memory.pages (read_by_tracer args env w).memory.pages
