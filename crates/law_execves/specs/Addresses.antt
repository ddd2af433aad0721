-- The addresses of a script's arguments that a tracer keeps.
use Rattle.std.specs.Prelude.{◌≡◌, ◌-◌, ℕ, List, length, Ok}
use Rattle.law_programs.specs.rv_mem.Actions.{carried_out}
use Rattle.law_programs.specs.rv_mem.Memory.{Memory}
use Rattle.law_programs.specs.rv_mem.Pages.{IsPlaced}
use Rattle.law_programs.specs.kr_exec.declared.lists.Lists.{Lists}
use Rattle.law_stops.specs.pt_faker.Reading.{addresses_behind}
use Rattle.law_programs.specs.Executing.{read_by_kernel}

-- where both lists were read, the addresses of all arguments but the first can be read once more
abbrev pub KeptAddressesAreRead : Type 0
KeptAddressesAreRead =
    (args env : ℕ) (m w : Memory) (lists : Lists) → IsPlaced m.pages → (read_by_kernel args env m).reply ≡ Ok lists → w.pages ≡ m.pages
    → (bytes : List ℕ) × ((carried_out (addresses_behind args (length lists.args - 1)) w).reply ≡ Ok bytes)
