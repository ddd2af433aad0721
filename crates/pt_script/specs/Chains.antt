-- Scripts that lead to one another.
use Rattle.std.specs.Prelude.{◌≡◌, ℕ, zero, suc, true, List, Option, Ok}
use Rattle.pt_args.specs.pt_canon.TextWalk.{TextSurroundings}
use Rattle.pt_args.specs.kr_calls.Expansion.{is_script}
use Rattle.pt_script.specs.Expanding.{interpreted}
use Rattle.pt_script.specs.declared.command.Command.{Command}

-- a script leads to its interpreter with the new arguments
pub record LeadsTo (texts : TextSurroundings) (working : Option (List ℕ)) (env_bytes : ℕ) (script next : Command) : Type 0 where
  pub marked : is_script script.program.head ≡ true
  pub gives : interpreted texts working env_bytes script ≡ Ok next

-- n scripts lead from one command to another
abbrev pub Chain : TextSurroundings → Option (List ℕ) → ℕ → ℕ → Command → Command → Type 0
Chain texts working env_bytes zero first last = first ≡ last
Chain texts working env_bytes (suc n) first last = (next : Command) × LeadsTo texts working env_bytes first next × Chain texts working env_bytes n next last
