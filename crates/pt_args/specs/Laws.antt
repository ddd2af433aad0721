-- Laws of edits and of the shelf.
use Rattle.std.specs.Prelude.{◌≡◌, ◌≢◌, ℕ, ◌+◌, ◌-◌, ◌%◌, ◌<◌, ◌≤◌, true, Bool, List, [], ◌∷◌, length, map, Some, None, Ok, ◌⊎◌}
use Rattle.std.specs.List.{All}
use Rattle.pt_canon.specs.pr_base.Paths.{text_limit}
use Rattle.kr_calls.specs.rv_mem.Memory.{text_of}
use Rattle.kr_calls.specs.rv_mem.Pages.{Pages, IsWhole, allows, written}
use Rattle.kr_calls.specs.rv_mem.declared.rights.Use.TheVariants.{Read}
use Rattle.pt_canon.specs.TextWalk.{TextSurroundings}
use Rattle.kr_calls.specs.PathTable.{PathUse, path_at}
use Rattle.kr_calls.specs.declared.request.Request.{Request}
use Rattle.pt_args.specs.Edits.{edit_of}
use Rattle.pt_args.specs.Shelving.{address_below, shelf_size, shelved, with_zero}
use Rattle.pt_args.specs.declared.edit.Edit.TheVariants.{Pass, Swap}

-- ---- the shelf

-- the room that items take at most: an address divisible by 8 is at most 7 bytes further down
abbrev pub room_of : List (List ℕ) → ℕ
room_of [] = 0
room_of (item ∷ items) = length item + 7 + room_of items

-- items stand one below the other between two addresses, each at an address divisible by 8
abbrev pub StandBetween : ℕ → ℕ → List (ℕ × List ℕ) → Type 0
StandBetween bottom top [] = Unit {0}
StandBetween bottom top (p ∷ items) = (bottom ≤ p.0) × (p.0 % 8 ≡ 0) × (p.0 + length p.1 ≤ top) × StandBetween bottom p.0 items

pub record ShelvesHoldTheirItems : Type 0 where
  -- no address divisible by 8 is higher that leaves an item below another
  pub highest : (top size at : ℕ) → at % 8 ≡ 0 → at + size ≤ top → at ≤ address_below top size
  -- so items don't overlap, and for which there is room don't pass the bottom
  pub stand : (bottom top : ℕ) (items : List (List ℕ)) → bottom + room_of items ≤ top → StandBetween bottom top (shelved top items)

-- ---- read back

-- the bytes of items written at their addresses
abbrev pub poked : Pages → List (ℕ × List ℕ) → Pages
poked m [] = m
poked m (p ∷ items) = poked (written m p.0 p.1) items

-- a text that a path can be: fewer bytes than a path has with its zero, none of them zero
pub record IsPathText (text : List ℕ) : Type 0 where
  pub short : length text < text_limit
  pub no_zero : All (λ b. b ≢ 0) text

-- at each address stands the text of its place, read as a path is
abbrev pub AreReadBack : Pages → List (ℕ × List ℕ) → List (List ℕ) → Type 0
AreReadBack m [] [] = Unit {0}
AreReadBack m [] (text ∷ texts) = ⊥
AreReadBack m (p ∷ items) [] = ⊥
AreReadBack m (p ∷ items) (text ∷ texts) = (text_of m p.0 text_limit ≡ Ok text) × AreReadBack m items texts

-- texts that were put where there is room for them, in memory that may be read, are read back
abbrev pub TextsAreReadBack : Type 0
TextsAreReadBack =
    (m : Pages) (bottom top : ℕ) (texts : List (List ℕ)) → IsWhole m → bottom + room_of (map with_zero texts) ≤ top
    → ((a : ℕ) → bottom ≤ a → a < top → allows m a Read ≡ true) → All IsPathText texts
    → AreReadBack (poked m (shelved top (map with_zero texts))) (shelved top (map with_zero texts)) texts

-- ---- edits

-- a register that holds the address of one of the call's paths
abbrev pub IsPathRegister : Request → ℕ → Type 0
IsPathRegister request register = (u : PathUse) × ((path_at request 0 ≡ Some u) ⊎ (path_at request 1 ≡ Some u)) × (u.register ≡ register)

pub record EditsKeepToPaths : Type 0 where
  -- a call without a path is passed
  pub passed : (texts : TextSurroundings) (pid sp : ℕ) (usable : Bool) (request : Request) → path_at request 0 ≡ None → edit_of texts pid sp usable request ≡ Pass
  -- no other register than those of the paths is changed
  pub registers : (texts : TextSurroundings) (pid sp : ℕ) (usable : Bool) (request : Request) (regs : List (ℕ × ℕ)) (pokes : List (ℕ × List ℕ))
      → edit_of texts pid sp usable request ≡ Swap regs pokes → All (λ r. IsPathRegister request r.0) regs
  -- texts are put only on a shelf that can be used
  pub used : (texts : TextSurroundings) (pid sp : ℕ) (usable : Bool) (request : Request) (regs : List (ℕ × ℕ)) (pokes : List (ℕ × List ℕ))
      → edit_of texts pid sp usable request ≡ Swap regs pokes → usable ≡ true
  -- no byte is written but in a shelf that can be used
  pub within : (texts : TextSurroundings) (pid sp : ℕ) (usable : Bool) (request : Request) (regs : List (ℕ × ℕ)) (pokes : List (ℕ × List ℕ))
      → shelf_size ≤ sp → edit_of texts pid sp usable request ≡ Swap regs pokes → (usable ≡ true) × StandBetween (sp - shelf_size) sp pokes
