-- The pages of a memory by their places in a list.
use Rattle.std.specs.FinMap as map
use Rattle.std.specs.Prelude.{◌≡◌, ◌≢◌, ◌<◌, ℕ, false, List, Some, length, slice_index, slice_index_or}
use Rattle.std.specs.Ordering.{nat_cmp}
use Rattle.rv_table.specs.pr_base.Maps.{mapped as each_mapped}
use Rattle.rv_mem.specs.Page.{PageState, fresh_page}
use Rattle.rv_mem.specs.Pages.{Pages}

-- the place of the page at each number
abbrev pub Places : Type 0
Places = map.FinMap nat_cmp ℕ

-- the places that a tree stores
abbrev pub places_of : List (ℕ × ℕ) → Places
places_of es = map.from_entries es

-- stands for what is past the end of a list
abbrev pub no_page : PageState
no_page = fresh_page (record { r = false; w = false; x = false })

abbrev pub page_at : List PageState → ℕ → PageState
page_at pages i = slice_index_or pages i no_page

unfoldable pub pages_at : Places → List PageState → Pages
pages_at places pages = each_mapped (λ _ i. page_at pages i) places

-- each number's place in a list of numbers, which has no others
pub record AreNumbered (places : Places) (numbers : List ℕ) : Type 0 where
  pub held : (k i : ℕ) → map.get places k ≡ Some i → (i < length numbers) × (slice_index numbers i ≡ k)
  pub known : (i : ℕ) → i < length numbers → map.get places (slice_index numbers i) ≡ Some i

-- the place of the number that stands at a place, if one does, noted, and no other changed
pub record IsSettled (old new : Places) (numbers : List ℕ) (i : ℕ) : Type 0 where
  pub told : i < length numbers → map.get new (slice_index numbers i) ≡ Some i
  pub others : (q : ℕ) → (i < length numbers → q ≢ slice_index numbers i) → map.get new q ≡ map.get old q
