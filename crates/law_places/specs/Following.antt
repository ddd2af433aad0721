-- A state that follows from another by changes which lose no more than is said.
use Rattle.std.specs.Prelude.{◌≡◌, ℕ, List, Some, map as map_list}
use Rattle.law_walks.specs.kr_tree.declared.place.Place.{Place}
use Rattle.law_walks.specs.kr_files.declared.opened.Opened.{Opened}
use Rattle.law_walks.specs.kr_files.Files.{file_at}
use Rattle.law_walks.specs.kr_view.View.{Row}
use Rattle.law_walks.specs.kr_model.Lawful.{IsLawful}
use Rattle.law_walks.specs.kr_model.ProcessDirectory.{space_of}
use Rattle.law_walks.specs.kr_model.State.{Image, Process, State, process}
use Rattle.law_places.specs.Losses.{InodesStay, KeepsTable, KeepsUse, Losses, PidsStay}
use Rattle.law_places.specs.Standing.{PlacesStand, UseStands}
use Rattle.law_places.specs.Uses.{Use, cwd_use, exe_use, open_use}

abbrev pub pids_of : {X : Type 0} → State ℕ X → List ℕ
pids_of s = map_list (λ p. p.pid) s.living

-- what a state leaves of the one before it, and a property of each of its places in use
pub record Follows {X : Type 0} (lost : Losses) (P : Use → Type 0) (before s : State ℕ X) : Type 0 where
  pub user : s.user ≡ before.user
  pub inodes : InodesStay before.user lost before.tree.inodes s.tree.inodes
  pub pids : PidsStay lost (pids_of before) (pids_of s)
  pub cwds : (pid : ℕ) (p : Process ℕ X) → process pid s ≡ Some p → P (cwd_use p)
  pub exes : (pid : ℕ) (p : Process ℕ X) → process pid s ≡ Some p → P (exe_use p)
  pub opens : (number : ℕ) (o : Opened ℕ) (p : Place ℕ) → file_at s.files number ≡ Some o → o.place ≡ Some p → P (open_use o p)

-- a place in use that stood in the state before, and keeps that
pub record StoodAndStays {X : Type 0} (lost : Losses) (table : List Row) (before : State ℕ X) (x : Use) : Type 0 where
  pub stood : UseStands (space_of table before) x
  pub keeps : KeepsUse lost (space_of table before) x

-- what follows from a state in which all places stand is such a state, if each place in use stood and the table and the places
-- lose nothing of what they need
abbrev pub PlacesFollow : Type 0
PlacesFollow =
    (lost : Losses) (table : List Row) (before s : State ℕ Image) → PlacesStand table before → KeepsTable lost (space_of table before) → IsLawful (λ m. m) table s → Follows lost (StoodAndStays lost table before) before s
    → PlacesStand table s

-- what stood in a state, in use or not, stands in what follows from it
abbrev pub WhatStoodStands : Type 0
WhatStoodStands =
    (lost : Losses) (table : List Row) (before s : State ℕ Image) (x : Use) → PlacesStand table before → IsLawful (λ m. m) table s → Follows lost (λ x. Unit {0}) before s → StoodAndStays lost table before x
    → UseStands (space_of table s) x
