-- The shelf of a script, once it is written.
use Rattle.std.specs.Prelude.{◌≡◌, ℕ, ◌+◌, ◌-◌, ◌*◌, ◌<◌, ◌≤◌, true, List, [], ◌∷◌, ◌++◌, length, Ok}
use Rattle.std.specs.List.{All}
use Rattle.kr_first.specs.pr_base.Paths.{text_limit}
use Rattle.kr_first.specs.rv_mem.Memory.{text_of}
use Rattle.kr_first.specs.rv_mem.Pages.{IsPlaced, IsWhole, Pages, allows, bytes_from}
use Rattle.kr_first.specs.rv_mem.declared.rights.Use.TheVariants.{Read}
use Rattle.law_edits.specs.pt_args.Laws.{IsPathText, poked}
use Rattle.law_edits.specs.pt_args.Shelving.{shelf_size, with_item, with_zero}
use Rattle.law_edits.specs.pt_args.declared.edit.Edit.TheVariants.{Swap}
use Rattle.law_edits.specs.pt_args.declared.shelf.Shelf.{Shelf}
use Rattle.law_edits.specs.pt_tracer.ScriptEdit.{empty_shelf, list_item, script_room, shelved_script, with_texts}
use Rattle.law_programs.specs.Lists.{AreEntries, IsList}

-- with the host text
abbrev pub host_shelf : ℕ → List ℕ → Shelf
host_shelf sp host = with_item (empty_shelf sp) (with_zero host)

-- with the texts and the list, too
abbrev pub script_shelf : ℕ → List ℕ → List (List ℕ) → List ℕ → Shelf
script_shelf sp host texts kept = with_item (with_texts (host_shelf sp host) texts) (list_item (host_shelf sp host).top texts kept)

-- what stands in a memory of which the shelf was written
pub record StandsOnShelf (w : Pages) (sp : ℕ) (host : List ℕ) (texts rest : List (List ℕ)) (kept : List ℕ) : Type 0 where
  pub edit : shelved_script sp host texts kept ≡ Swap ((10, (host_shelf sp host).top) ∷ (11, (script_shelf sp host texts kept).top) ∷ []) (script_shelf sp host texts kept).items
  pub low : sp ≤ (script_shelf sp host texts kept).top + script_room host texts kept
  pub path : text_of w (host_shelf sp host).top text_limit ≡ Ok host
  pub list : IsList w (script_shelf sp host texts kept).top (texts ++ rest)

-- where the kept addresses are those of a list that still stands
abbrev pub ShelvedScriptsStand : Type 0
ShelvedScriptsStand =
    (m : Pages) (sp from : ℕ) (host : List ℕ) (texts rest : List (List ℕ)) (kept : List ℕ) → IsWhole m → IsPlaced m → shelf_size ≤ sp → ((a : ℕ) → sp - shelf_size ≤ a → a < sp → allows m a Read ≡ true)
    → script_room host texts kept ≤ shelf_size → IsPathText host → All IsPathText texts
    → AreEntries (poked m (script_shelf sp host texts kept).items) from rest → bytes_from (poked m (script_shelf sp host texts kept).items) from (8 * length rest) ≡ kept
    → StandsOnShelf (poked m (script_shelf sp host texts kept).items) sp host texts rest kept
