-- The match of a state of a kernel with mounts and one of a plain kernel whose processes are watched by a tracer.
use Rattle.std.specs.Prelude.{◌≡◌, ℕ, List, Some}
use Rattle.std.specs.Option.{option_map, option_map_or}
use Rattle.law_walks.specs.rv_mem.Actions.{AreEqualUnmarked}
use Rattle.law_walks.specs.pt_bind.Tags.{TagTable, tag_of}
use Rattle.law_walks.specs.pt_bind.declared.slot.Slot.TheVariants as slot
use Rattle.law_walks.specs.kr_tree.declared.place.Place.{Place}
use Rattle.law_walks.specs.kr_view.Living.{Each, HasSmallNumbers}
use Rattle.law_walks.specs.kr_view.View.{Row, plain, row}
use Rattle.law_walks.specs.kr_files.declared.opened.Opened.{Opened}
use Rattle.law_walks.specs.kr_model.Bare.{bare, pins_of}
use Rattle.law_walks.specs.kr_model.ProcessDirectory.{living_of}
use Rattle.law_walks.specs.kr_model.State.{Image, Process, State, image_layout, opened, process}
use Rattle.law_walks.specs.Scene.{IsMatched}
use Rattle.law_walks.specs.States.{ArePlaced, scene_of}
use Rattle.law_places.specs.Standing.{PlacesStand}

-- the index of a mount
abbrev pub index_at : List Row → ℕ → ℕ
index_at table k = option_map_or (λ r. r.text.index) (row table k) 0

-- each slot's tag is the index of the mount of its place. A slot without a place may have any
pub record AreTagged {X : Type 0} (table : List Row) (s : State ℕ X) (tags : TagTable) : Type 0 where
  pub cwds : (pid : ℕ) (p : Process ℕ X) → process pid s ≡ Some p → tag_of tags pid slot.Cwd ≡ index_at table p.cwd.mount
  pub exes : (pid : ℕ) (p : Process ℕ X) → process pid s ≡ Some p → tag_of tags pid slot.Exe ≡ index_at table p.exe.mount
  pub open_files : (pid fd : ℕ) (o : Opened ℕ) (p : Place ℕ) → opened pid fd s ≡ Some o → o.place ≡ Some p → tag_of tags pid (slot.Fd fd) ≡ index_at table p.mount

-- what processes compute on: equal registers, and memories that are equal but for marked bytes
pub record AreImagesAlike {M N : Type 0} (s : State M Image) (w : State N Image) : Type 0 where
  pub registers : (pid : ℕ) → option_map (λ p. p.image.regs) (process pid s) ≡ option_map (λ p. p.image.regs) (process pid w)
  pub memories : (pid : ℕ) (p : Process M Image) (q : Process N Image) → process pid s ≡ Some p → process pid w ≡ Some q → AreEqualUnmarked p.image.memory.pages q.image.memory.pages

pub record IsMatch {N : Type 0} (table : List Row) (tags : TagTable) (s : State ℕ Image) (w : State N Image) : Type 0 where
  -- all but mounts, their holds and what processes compute on is equal
  pub bares : bare image_layout (pins_of table) s ≡ bare image_layout (pins_of plain) w
  pub images : AreImagesAlike s w
  pub tagged : AreTagged table s tags
  -- all in the state with mounts stands where its texts say
  pub placed : PlacesStand table s

-- places that stand and are tagged are placed with their tags
abbrev pub TaggedPlacesArePlaced : Type 0
TaggedPlacesArePlaced = (table : List Row) (s : State ℕ Image) (tags : TagTable) → PlacesStand table s → AreTagged table s tags → ArePlaced table s tags

-- so where two states match, all that walks of a caller go by is matched
abbrev pub MatchesAreMatched : Type 0 → Type 0
MatchesAreMatched N =
    (table : List Row) (tags : TagTable) (s : State ℕ Image) (w : State N Image) (caller : ℕ) → IsMatch table tags s w → Each HasSmallNumbers (living_of s)
    → IsMatched (scene_of table s caller tags)
