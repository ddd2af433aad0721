-- What is left where a place becomes the working directory of a process.
use Rattle.std.specs.Prelude.{◌≡◌, ℕ, [], ◌∷◌, Some}
use Rattle.kr_seen.specs.kr_tree.declared.place.Place.{Place}
use Rattle.kr_seen.specs.kr_model.Applied.{Mounts, mount_of}
use Rattle.kr_seen.specs.kr_model.Change.{ChangeDirectory, MountOf}
use Rattle.kr_seen.specs.kr_model.DirectoryRows.{if_entered}
use Rattle.kr_seen.specs.kr_model.Reply.{done}
use Rattle.kr_seen.specs.kr_model.declared.outcome.Outcome.{Outcome}
use Rattle.kr_seen.specs.kr_ops.declared.state.State.{State}
use Rattle.kr_seen.specs.kr_ops.Meaning.{meaning}
use Rattle.kr_seen.specs.Carrying.{CarriesOut}

-- the change that names the place's mount was carried out, or the directory may not be entered
abbrev pub Enters : {T : Type 0} {M : ℕ} → ℕ → Place T → State T M → State T M → Outcome → Type 0
Enters {T} pid place old new result =
    (mounts : Mounts T) (from : MountOf) → mount_of mounts pid (meaning old) from ≡ Some place.mount
    → CarriesOut mounts pid (λ k. if_entered k place.host (done 0 (ChangeDirectory from place.host ∷ []))) old new result
