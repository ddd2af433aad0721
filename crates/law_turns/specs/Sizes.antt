-- What processes compute on has its sizes: memories hold bytes, and there are 32 registers.
use Rattle.std.specs.Prelude.{◌≡◌, ℕ, length, Some}
use Rattle.law_places.specs.kr_model.State.{Image, Process, State, process}
use Rattle.kr_core.specs.law_allowed.Allowed.{HoldsBytes}

pub record IsSized (image : Image) : Type 0 where
  pub bytes : HoldsBytes image.memory.pages
  pub registers : length image.regs.x ≡ 32

abbrev pub AreSized : State ℕ Image → Type 0
AreSized s = (pid : ℕ) (p : Process ℕ Image) → process pid s ≡ Some p → IsSized p.image
