-- What holds of every state of the code, whatever the view: the facts on which its changes rest.
use Rattle.std.specs.Prelude.{◌≡◌, ◌≤◌, ◌<◌, ℕ, List, Some, IsSome}
use Rattle.std.specs.List.{AllByRecursion}
use Rattle.law_lawful.specs.kr_files.Descriptors.{Named}
use Rattle.law_lawful.specs.kr_files.Files.{NamesOpenFiles, file_at}
use Rattle.law_lawful.specs.kr_view.View.{Row}
use Rattle.law_lawful.specs.kr_model.Known.{pages_in_all}
use Rattle.law_lawful.specs.kr_model.Lawful.{ArePids, IsLawful}
use Rattle.law_lawful.specs.kr_model.State.{image_layout, named, process}
use Rattle.law_lawful.specs.kr_model.Uses.{AreUses}
use Rattle.kr_ops.specs.declared.state.State.{State}
use Rattle.kr_ops.specs.declared.state.Process.{Process}
use Rattle.kr_ops.specs.Meaning.{meaning}

module _ {T : Type 0} {M : ℕ} where
  -- what the code keeps beside what a state means: each descriptor leads to its open file, and the room that is taken is the
  -- sum of the pages
  pub record IsServed (s : State T M) : Type 0 where
    pub files : AllByRecursion (λ (p : Process T M). NamesOpenFiles s.files p.descs) s.living.items
    pub room : s.room ≡ pages_in_all image_layout (meaning s).living

  pub record IsSound (s : State T M) : Type 0 where
    pub served : IsServed s
    pub pids : ArePids (meaning s)
    -- every descriptor is below 1,024 and names an open file
    pub descriptors : (pid fd : ℕ) (x : Named) → named pid fd (meaning s) ≡ Some x → (fd < 1024) × IsSome (file_at s.files.table x.number)
    -- each inode is held once for each descriptor, working directory and executable that stands there, and for some
    -- mounts at most once
    pub pins : ℕ → ℕ
    pub few : (i : ℕ) → pins i ≤ 1
    pub uses : AreUses pins (meaning s)

  -- a lawful state of some view, for changes that go through states between
  pub record IsOfView (s : State T M) : Type 0 where
    pub number : T → ℕ
    pub table : List Row
    pub lawful : IsLawful number table (meaning s)
    pub served : IsServed s

  -- ---- what calls of a process rest on: it lives, and the state is one of these

  pub record IsSoundFor (pid : ℕ) (s : State T M) : Type 0 where
    pub sound : IsSound s
    pub lives : IsSome (process pid (meaning s))

  pub record IsOfViewFor (pid : ℕ) (s : State T M) : Type 0 where
    pub view : IsOfView s
    pub lives : IsSome (process pid (meaning s))

module _ {T : Type 0} {M : ℕ} (number : T → ℕ) (table : List Row) where
  -- a lawful state of this view
  pub record IsLawfulIn (s : State T M) : Type 0 where
    pub lawful : IsLawful number table (meaning s)
    pub served : IsServed s

  -- and the process lives
  pub record IsLawfulFor (pid : ℕ) (s : State T M) : Type 0 where
    pub lawful : IsLawful number table (meaning s)
    pub served : IsServed s
    pub lives : IsSome (process pid (meaning s))
