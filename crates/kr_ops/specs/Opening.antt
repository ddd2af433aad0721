-- What changes that name a mount leave: the definition's, whatever path or descriptor the mount was taken of.
use Rattle.std.specs.Prelude.{◌≡◌, ℕ, Bool, false, List, Option, Some}
use Rattle.std.specs.Option.{option_and_then, option_map_or}
use Rattle.law_lawful.specs.kr_tree.declared.place.Place.{Place}
use Rattle.law_lawful.specs.kr_files.Descriptors.{lowest_free, lowest_pair}
use Rattle.law_lawful.specs.kr_files.Files.{takes_pipe}
use Rattle.law_lawful.specs.kr_files.declared.opened.Opened.{Opened}
use Rattle.law_lawful.specs.kr_model.Applied.{Mounts, applied, images, in_mount, mount_of}
use Rattle.law_lawful.specs.kr_model.Change.{MountOf, OpenFile, ChangeDirectory, ReplaceExecutable}
use Rattle.law_lawful.specs.kr_model.State as model
use Rattle.kr_ops.specs.declared.state.State.{State}
use Rattle.kr_ops.specs.Meaning.{meaning}

-- ---- free descriptors of a process

module _ {M X : Type 0} where
  abbrev pub lowest_of : ℕ → ℕ → model.State M X → Option ℕ
  lowest_of pid from s = option_and_then (λ p. lowest_free p.descs from) (model.process pid s)

  abbrev pub pair_of : ℕ → model.State M X → Option (ℕ × ℕ)
  pair_of pid s = option_and_then (λ p. lowest_pair p.descs) (model.process pid s)

  -- whether one more pipe is made
  abbrev pub takes_pipe_of : ℕ → model.State M X → Bool
  takes_pipe_of pid s = option_map_or (λ p. takes_pipe s.files p.descs) (model.process pid s) false

-- ---- changes that name a mount

module _ {T : Type 0} {M : ℕ} where
  -- this is open under a descriptor
  abbrev pub Opens : ℕ → ℕ → Bool → Opened T → State T M → State T M → Type 0
  Opens pid fd cloexec opened old new =
      (mounts : Mounts T) (from : MountOf) (m : T) (o : Opened (Unit {0})) → mount_of mounts pid (meaning old) from ≡ Some m → in_mount m o ≡ opened
      → meaning new ≡ applied images mounts pid (OpenFile fd cloexec from o) (meaning old)

  -- a process stands in this working directory
  abbrev pub MovesTo : ℕ → Place T → State T M → State T M → Type 0
  MovesTo pid place old new =
      (mounts : Mounts T) (from : MountOf) → mount_of mounts pid (meaning old) from ≡ Some place.mount
      → meaning new ≡ applied images mounts pid (ChangeDirectory from place.host) (meaning old)

  -- a process has this executable, with the entry that it remembers
  abbrev pub Executes : ℕ → Place T → ℕ → List ℕ → State T M → State T M → Type 0
  Executes pid place dir name old new =
      (mounts : Mounts T) (from : MountOf) → mount_of mounts pid (meaning old) from ≡ Some place.mount
      → meaning new ≡ applied images mounts pid (ReplaceExecutable from place.host dir name) (meaning old)
