-- What a function that makes a change leaves.
use Rattle.std.specs.Prelude.{◌≡◌, ℕ}
use Rattle.law_lawful.specs.kr_model.Applied.{Mounts, applied, images}
use Rattle.law_lawful.specs.kr_model.Change.{Change}
use Rattle.kr_ops.specs.declared.state.State.{State}
use Rattle.kr_ops.specs.Meaning.{meaning}
use Rattle.kr_ops.specs.Sound.{IsServed}

-- the change of the definition, whatever the mounts of the call's path are: for changes that name none
abbrev pub Makes : {T : Type 0} {M : ℕ} → ℕ → Change → State T M → State T M → Type 0
Makes {T} pid c old new = (mounts : Mounts T) → meaning new ≡ applied images mounts pid c (meaning old)

-- a refusal leaves what a state means, and what the code keeps beside that
pub record IsAsBefore {T : Type 0} {M : ℕ} (old new : State T M) : Type 0 where
  pub same : meaning new ≡ meaning old
  pub served : IsServed new
