-- The first stack of a program, and an identity that is shown on it: the values of AT_UID, AT_EUID, AT_GID and AT_EGID become the
-- identity's, each where the loader has put one, and all else stays.
use Rattle.std.specs.Prelude.{◌≡◌, ◌⊎◌, ℕ, ◌<◌, ◌≤◌, false, true, List}
use Rattle.pt_ident.specs.rv_mem.Actions.{carried_out}
use Rattle.pt_ident.specs.rv_mem.Memory.{Memory}
use Rattle.pt_ident.specs.rv_mem.Page.{grants}
use Rattle.pt_ident.specs.rv_mem.Pages.{IsWhole, Pages, allows, byte_at}
use Rattle.pt_ident.specs.rv_mem.declared.rights.Use.{Use}
use Rattle.kr_exec.specs.elf_read.declared.plan.Plan.{Plan}
use Rattle.elf_load.specs.FirstStack.{exceeds_arguments, pairs_of, stack_bytes, stack_pointer, stack_top}
use Rattle.elf_load.specs.Image.{image_memory, image_pages, stack_rights}
use Rattle.elf_load.specs.Placed.{HoldsBytes}
use Rattle.elf_load.specs.declared.stack.Pair.{Pair}
use Rattle.pt_ident.specs.Identity.{Identity}
use Rattle.pt_ident.specs.Showing.{auxiliary_values}
use Rattle.pt_faker.specs.Faking.{show_identity}

-- from the stack pointer to the top stand the bytes of a first stack, and each may be used as the rights of a stack say
pub record HasFirstStack (m : Pages) (pairs : List Pair) (args env : List (List ℕ)) : Type 0 where
  pub whole : IsWhole m
  pub holds : HoldsBytes m (stack_pointer args env) (stack_bytes pairs args env)
  pub usable : (a : ℕ) (what : Use) → stack_pointer args env ≤ a → a < stack_top → grants stack_rights what ≡ true → allows m a what ≡ true

-- two memories differ on the stack alone, and there in bytes alone
pub record DifferOnStack (args env : List (List ℕ)) (m n : Pages) : Type 0 where
  pub bytes : (a : ℕ) → (a < stack_pointer args env) ⊎ (stack_top ≤ a) → byte_at n a ≡ byte_at m a
  pub rights : (a : ℕ) (what : Use) → allows n a what ≡ allows m a what

-- an identity that is shown on a first stack leaves the one of its own four numbers
abbrev pub ArePut : Type 0
ArePut =
    (i : Identity) (plan : Plan) (ids : List ℕ) (args env : List (List ℕ)) (m : Memory) → exceeds_arguments args env ≡ false
    → HasFirstStack m.pages (pairs_of plan ids) args env
    → HasFirstStack (carried_out (show_identity i (stack_pointer args env)) m).memory.pages (pairs_of plan (auxiliary_values i)) args env
    × DifferOnStack args env m.pages (carried_out (show_identity i (stack_pointer args env)) m).memory.pages

-- what a file is loaded to has a first stack
abbrev pub BeginSo : Type 0
BeginSo =
    (file : List ℕ) (plan : Plan) (args env : List (List ℕ)) (ids : List ℕ) → exceeds_arguments args env ≡ false
    → HasFirstStack (image_pages file plan args env ids) (pairs_of plan ids) args env

-- so what is loaded with some numbers has the bytes then, and the rights, of what is loaded with the identity's
abbrev pub AreAsLoaded : Type 0
AreAsLoaded =
    (i : Identity) (file : List ℕ) (plan : Plan) (args env : List (List ℕ)) (ids : List ℕ) → exceeds_arguments args env ≡ false → (a : ℕ)
    → (byte_at (carried_out (show_identity i (stack_pointer args env)) (image_memory file plan args env ids)).memory.pages a ≡ byte_at (image_pages file plan args env (auxiliary_values i)) a)
    × ((what : Use) → allows (carried_out (show_identity i (stack_pointer args env)) (image_memory file plan args env ids)).memory.pages a what ≡ allows (image_pages file plan args env (auxiliary_values i)) a what)
