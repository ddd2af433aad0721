-- A state of a plain kernel: all its places are in the host's one mount, so its walks are those over the host's own view.
use Rattle.std.specs.Prelude.{◌≡◌, ℕ, Some}
use Rattle.kr_mounts.specs.kr_tree.declared.place.Place.{Place}
use Rattle.kr_mounts.specs.kr_view.View.{plain}
use Rattle.kr_model.specs.kr_files.declared.opened.Opened.{Opened}
use Rattle.kr_model.specs.HostView.{host_around_of}
use Rattle.kr_model.specs.Lawful.{IsLawful}
use Rattle.kr_model.specs.ProcessDirectory.{around_of}
use Rattle.kr_model.specs.State.{Image, Process, State, opened, process}

pub record IsInOneMount {X : Type 0} (w : State ℕ X) : Type 0 where
  pub cwds : (pid : ℕ) (p : Process ℕ X) → process pid w ≡ Some p → p.cwd.mount ≡ 0
  pub exes : (pid : ℕ) (p : Process ℕ X) → process pid w ≡ Some p → p.exe.mount ≡ 0
  pub open_files : (pid fd : ℕ) (o : Opened ℕ) (p : Place ℕ) → opened pid fd w ≡ Some o → o.place ≡ Some p → p.mount ≡ 0

abbrev pub LawfulStatesAreInOneMount : Type 0
LawfulStatesAreInOneMount = (w : State ℕ Image) → IsLawful (λ m. m) plain w → IsInOneMount w

abbrev pub PlainWalksAreHostWalks : Type 0 → Type 0
PlainWalksAreHostWalks X = (w : State ℕ X) (caller : ℕ) → IsInOneMount w → around_of plain caller w ≡ host_around_of w caller
