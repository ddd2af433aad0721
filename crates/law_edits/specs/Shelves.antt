-- What a tracer writes where it swaps paths: the new texts on the shelf, and their addresses in the registers of the paths.
use Rattle.std.specs.Prelude.{◌≡◌, ◌≢◌, ℕ, ◌-◌, ◌≤◌, ◌<◌, true, List, [], ◌∷◌, length, map, Option, Some, None, slice_set}
use Rattle.pt_tracer.specs.rv_mem.Memory.{Memory, with_pages}
use Rattle.pt_tracer.specs.rv_mem.Pages.{Pages, allows}
use Rattle.pt_tracer.specs.rv_mem.declared.regs.Regs.{Regs}
use Rattle.pt_tracer.specs.rv_mem.declared.rights.Use.TheVariants.{Read}
use Rattle.pt_tracer.specs.pt_args.Laws.{IsPathText, poked}
use Rattle.pt_tracer.specs.pt_args.Shelving.{address_below, shelf_size, shelved, with_zero}
use Rattle.pt_tracer.specs.pt_args.declared.edit.Edit.{Edit}
use Rattle.pt_tracer.specs.pt_args.declared.edit.Edit.TheVariants.{Swap}
use Rattle.law_edits.specs.Requests.{NewText}
use Rattle.law_edits.specs.Swapped.{AreMarkedFrom}

-- the first before the second
abbrev pub new_texts : NewText → Option NewText → List NewText
new_texts first None = first ∷ []
new_texts first (Some second) = first ∷ second ∷ []

abbrev pub item_of : NewText → List ℕ
item_of n = with_zero n.text

-- each register with the address of its text
abbrev pub addresses_at : ℕ → List NewText → List (ℕ × ℕ)
addresses_at top [] = []
addresses_at top (n ∷ rest) = (n.register, address_below top (length (item_of n))) ∷ addresses_at (address_below top (length (item_of n))) rest

abbrev pub items_at : ℕ → List NewText → List (ℕ × List ℕ)
items_at top texts = shelved top (map item_of texts)

-- the edit, by the stack pointer
abbrev pub swap_edit : ℕ → NewText → Option NewText → Edit
swap_edit sp first second = Swap (addresses_at sp (new_texts first second)) (items_at sp (new_texts first second))

-- a text that a path can be, and that isn't empty
pub record CanBePath (n : NewText) : Type 0 where
  pub path : IsPathText n.text
  pub some : n.text ≢ []

abbrev pub CanSecondBePath : Option NewText → Type 0
CanSecondBePath None = Unit {0}
CanSecondBePath (Some n) = CanBePath n

-- ---- what it leaves

-- words in some of the registers
abbrev pub with_words : List (ℕ × ℕ) → List ℕ → List ℕ
with_words [] x = x
with_words (p ∷ ps) x = with_words ps (slice_set x p.0 p.1)

abbrev pub registers_behind : ℕ → NewText → Option NewText → Regs → Regs
registers_behind sp first second regs = record { x = with_words (addresses_at sp (new_texts first second)) regs.x; pc = regs.pc }

abbrev pub memory_behind : ℕ → NewText → Option NewText → Memory → Memory
memory_behind sp first second w = with_pages w (poked w.pages (items_at sp (new_texts first second)))

-- ---- where it can be done

abbrev pub bottom_of : ℕ → ℕ
bottom_of sp = sp - shelf_size

-- the shelf below a stack pointer can be read, and on the other machine its bytes are marked
pub record HasMarkedShelf (sp : ℕ) (m w : Pages) : Type 0 where
  pub room : shelf_size ≤ sp
  pub reads : (a : ℕ) → bottom_of sp ≤ a → a < sp → allows w a Read ≡ true
  pub marks : AreMarkedFrom (bottom_of sp) sp m
