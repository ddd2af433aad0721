-- A process that stands at a stop of its call, in the state of its kernel, and what may be done to it there.
use Rattle.std.specs.Prelude.{◌≡◌, ℕ, Bool, true, false, None, [], IsSome}
use Rattle.std.specs.Option.{option_map_or}
use Rattle.law_lawful.specs.rv_mem.Memory.{Memory}
use Rattle.law_lawful.specs.rv_mem.declared.regs.Regs.{Regs}
use Rattle.law_lawful.specs.kr_model.Applied.{with_image, with_living}
use Rattle.law_lawful.specs.kr_model.State.{Image, State, image_layout, no_memory, process, with_process}
use Rattle.kr_stops.specs.declared.handed.Handed.{Handed}

-- a process with other registers and another memory
abbrev pub computed : {T : Type 0} → ℕ → Regs → Memory → State T Image → State T Image
computed pid regs memory s = with_living (with_process pid (with_image (λ (image : Image). record { regs = regs; memory = memory }))) s

pub record Stopped : Type 0 where
  -- the whole state; mounts are numbers of a view
  pub state : State ℕ Image
  pub pid : ℕ
  -- what the call handed on as it was carried out; nothing before
  pub handed : Handed

abbrev pub nothing_handed : Handed
nothing_handed = record { at_root = false; target = None }

-- of one that doesn't live; one that is stopped does
abbrev pub no_image : Image
no_image = record { regs = record { x = []; pc = 0 }; memory = no_memory }

-- what it computes on
abbrev pub image_in : {M : Type 0} → ℕ → State M Image → Image
image_in pid s = option_map_or (λ p. p.image) (process pid s) no_image

abbrev pub image_at : Stopped → Image
image_at t = image_in t.pid t.state

-- the same with other registers and another memory of that process
abbrev pub edited : Regs → Memory → Stopped → Stopped
edited regs memory t = record { state = computed t.pid regs memory t.state; pid = t.pid; handed = t.handed }

-- it lives, and its number is no other's: with its own registers and memory the state is the same
pub record IsThere (t : Stopped) : Type 0 where
  pub lives : IsSome (process t.pid t.state)
  pub one : edited (image_at t).regs (image_at t).memory t ≡ t

-- at most the registers were changed, but for the program counter, and the bytes of the memory, with their marks and what was
-- read of them: every page is where it was, with its rights, and all else is as before
pub record IsEdited (t u : Stopped) : Type 0 where
  pub becomes : u ≡ edited (image_at u).regs (image_at u).memory t
  pub behind : (image_at u).regs.pc ≡ (image_at t).regs.pc
  pub layout : image_layout (image_at u) ≡ image_layout (image_at t)

-- whether the process directory is unmet behind what may have met it
abbrev pub unmet_after : (met before : Bool) → Bool
unmet_after true before = false
unmet_after false before = before

-- what was lent for a stop, of which it is told beside it whether the process directory is unmet
abbrev pub lent : {Tracee Rest : Type 0} → (Tracee → Rest × Bool) → Tracee → Rest
lent around t = (around t).0
