-- Actions that are carried out where their tests are met.
use Rattle.std.proofs.Common.{◌≡◌, ℕ, Bool, true, ◌&&◌, List, [], ◌∷◌, length, ap, ◌∙◌}
use Rattle.std.specs.Prelude.{if◌then◌else◌}
use Rattle.rv_cpu.specs.rv_mem.declared.rights.Use.{Use}
use Rattle.rv_cpu.specs.rv_mem.declared.rights.Use.TheVariants.{Write}
use Rattle.rv_cpu.specs.rv_mem.Pages.{allows_all, bytes_from, written}
use Rattle.rv_cpu.specs.rv_mem.Memory.{Memory, with_pages, after_read}
use Rattle.rv_cpu.specs.rv_mem.Actions.{Action, ReadBytes, WriteBytes, carried_out, allows_uses, read_if_allowed, write_if_allowed}
use Rattle.rv_cpu.specs.Step.{Stepped}

pub met : {b : Bool} → b ≡ true → (next other : Action Stepped) (m : Memory) → carried_out (if b then next else other) m ≡ carried_out next m
met e next other m = ap (λ b. carried_out (if b then next else other) m) e

pub read_is : (m : Memory) (at n : ℕ) (uses : List Use) (refused : Action Stepped) (next : List ℕ → Action Stepped) → allows_uses m.pages at n uses ≡ true
    → carried_out (read_if_allowed at n uses refused next) m ≡ carried_out (next (bytes_from m.pages at n)) (after_read m at n)
read_is m at n uses refused next allowed = met allowed (ReadBytes at n next) refused m

pub write_is : (m : Memory) (at : ℕ) (bytes : List ℕ) (refused next : Action Stepped) → allows_uses m.pages at (length bytes) (Write ∷ []) ≡ true
    → carried_out (write_if_allowed at bytes refused next) m ≡ carried_out next (with_pages m (written m.pages at bytes))
write_is m at bytes refused next allowed = met allowed (WriteBytes at bytes next) refused m
