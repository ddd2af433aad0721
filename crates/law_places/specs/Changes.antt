-- Changes that take nothing from what has a name: all places stand after them, where each new one stands before it comes into use.
use Rattle.std.specs.Prelude.{◌≡◌, ℕ, Bool, true, false, List, [], ◌∷◌, Some}
use Rattle.std.specs.List.{list_all}
use Rattle.law_walks.specs.kr_tree.declared.place.Place.{Place}
use Rattle.law_walks.specs.kr_view.View.{Row}
use Rattle.kr_calm.specs.law_lawful.Laws.{CanAllBeMade}
use Rattle.law_walks.specs.kr_model.Applied.{Mounts, all_applied, applied, images, in_mount, mount_of}
use Rattle.law_walks.specs.kr_model.Change.{Change, ChangeDirectory, End, MoveName, OpenFile, RemoveName, ReplaceExecutable, SetMode, SetOwner}
use Rattle.law_walks.specs.kr_model.Judged.{are_quiet}
use Rattle.law_walks.specs.kr_model.ProcessDirectory.{space_of}
use Rattle.law_walks.specs.kr_model.State.{Image, State}
use Rattle.law_places.specs.Standing.{PlacesStand, UseStands}
use Rattle.law_places.specs.Uses.{Use, open_use}

-- a change that takes nothing away: no name, no search and no process
abbrev pub takes_nothing : Change → Bool
takes_nothing (RemoveName dir name) = false
takes_nothing (MoveName dir name to new) = false
takes_nothing (SetMode inode mode) = false
takes_nothing (SetOwner inode uid gid) = false
takes_nothing (End status) = false
takes_nothing _ = true

abbrev pub take_nothing : List Change → Bool
take_nothing cs = list_all takes_nothing cs

-- ---- new places

-- a place that a change brings into use stands before it, in the mount of which the change speaks
abbrev pub NewPlaceStands : List Row → Mounts ℕ → ℕ → State ℕ Image → Change → Type 0
NewPlaceStands table mounts pid s (OpenFile fd cloexec from o) = (m : ℕ) (p : Place ℕ) → mount_of mounts pid s from ≡ Some m → (in_mount m o).place ≡ Some p → UseStands (space_of table s) (open_use (in_mount m o) p)
NewPlaceStands table mounts pid s (ChangeDirectory from host) =
    (m : ℕ) → mount_of mounts pid s from ≡ Some m → UseStands (space_of table s) (record { place = record { mount = m; host = host }; is_directory = true; dir = 0; name = [] })
NewPlaceStands table mounts pid s (ReplaceExecutable from host dir name) =
    (m : ℕ) → mount_of mounts pid s from ≡ Some m → UseStands (space_of table s) (record { place = record { mount = m; host = host }; is_directory = false; dir = dir; name = name })
NewPlaceStands table mounts pid s _ = Unit {0}

-- each of the changes of a call in its turn
abbrev pub NewPlacesStand : List Row → Mounts ℕ → ℕ → State ℕ Image → List Change → Type 0
NewPlacesStand table mounts pid s [] = Unit {0}
NewPlacesStand table mounts pid s (c ∷ cs) = NewPlaceStands table mounts pid s c × NewPlacesStand table mounts pid (applied images mounts pid c s) cs

-- ---- laws

-- changes that take nothing away keep all places standing
abbrev pub ChangesKeepPlaces : Type 0
ChangesKeepPlaces =
    (table : List Row) (mounts : Mounts ℕ) (pid : ℕ) (cs : List Change) (s : State ℕ Image) → take_nothing cs ≡ true → CanAllBeMade (λ m. m) table mounts pid s cs → NewPlacesStand table mounts pid s cs → PlacesStand table s
    → PlacesStand table (all_applied images mounts pid cs s)

-- so do quiet ones, which bring no place into use
abbrev pub QuietChangesKeepPlaces : Type 0
QuietChangesKeepPlaces =
    (table : List Row) (mounts : Mounts ℕ) (pid : ℕ) (cs : List Change) (s : State ℕ Image) → are_quiet cs ≡ true → CanAllBeMade (λ m. m) table mounts pid s cs → PlacesStand table s
    → PlacesStand table (all_applied images mounts pid cs s)

-- what stands stands after them, whether it is in use or not; so a place that a walk came to before them can come into use
abbrev pub ChangesKeepWhatStands : Type 0
ChangesKeepWhatStands =
    (table : List Row) (mounts : Mounts ℕ) (pid : ℕ) (cs : List Change) (s : State ℕ Image) (x : Use) → take_nothing cs ≡ true → CanAllBeMade (λ m. m) table mounts pid s cs → NewPlacesStand table mounts pid s cs → PlacesStand table s
    → UseStands (space_of table s) x → UseStands (space_of table (all_applied images mounts pid cs s)) x
