-- What the plain kernel is shown of execve(2) of a script: the last interpreter's host text, the texts that scripts put before the
-- arguments, and a list of addresses, in which the texts that are kept have their old ones. All of it is put on the shelf.
use Rattle.std.specs.Prelude.{ℕ, ◌+◌, ◌-◌, ◌*◌, nat_lt, List, [], ◌∷◌, ◌++◌, length, take, if◌then◌else◌}
use Rattle.std.specs.Int.{to_le_bytes, w64}
use Rattle.law_steady.specs.pr_base.declared.errno.Errno.TheVariants.{E2BIG, ENAMETOOLONG}
use Rattle.pt_results.specs.pt_args.Edits.{longest_path}
use Rattle.pt_results.specs.pt_args.Shelving.{address_below, shelf_size, with_item, with_zero}
use Rattle.pt_results.specs.pt_args.declared.edit.Edit.{Edit}
use Rattle.pt_results.specs.pt_args.declared.edit.Edit.TheVariants.{Cancel, Swap}
use Rattle.pt_results.specs.pt_args.declared.shelf.Shelf.{Shelf}

-- the texts of a new list that stand before the kept ones
abbrev pub put_texts : ℕ → List (List ℕ) → List (List ℕ)
put_texts kept args = take (length args - kept) args

abbrev pub empty_shelf : ℕ → Shelf
empty_shelf sp = record { top = sp; items = [] }

abbrev pub with_texts : Shelf → List (List ℕ) → Shelf
with_texts shelf [] = shelf
with_texts shelf (text ∷ texts) = with_texts (with_item shelf (with_zero text)) texts

-- the addresses of texts that are put there, eight bytes each, the lowest first
abbrev pub addresses_of : ℕ → List (List ℕ) → List ℕ
addresses_of top [] = []
addresses_of top (text ∷ texts) =
    let at = address_below top (length (with_zero text)) in
    to_le_bytes w64 at ++ addresses_of at texts

-- the list of addresses ends with the address 0
abbrev pub list_item : ℕ → List (List ℕ) → List ℕ → List ℕ
list_item top texts kept = addresses_of top texts ++ kept ++ to_le_bytes w64 0

-- the room that texts take at most, with their zeros and where each begins at an address divisible by 8
abbrev pub texts_room : List (List ℕ) → ℕ
texts_room [] = 0
texts_room (text ∷ texts) = length text + 8 + texts_room texts

-- the same of all that is put there, the list with eight bytes for each address
abbrev pub script_room : List ℕ → List (List ℕ) → List ℕ → ℕ
script_room host texts kept = texts_room texts + (length host + 8) + (8 * length texts + length kept + 15)

-- a0 has the address of the path, a1 that of the list
abbrev pub shelved_script : ℕ → List ℕ → List (List ℕ) → List ℕ → Edit
shelved_script sp host texts kept =
    let first = with_item (empty_shelf sp) (with_zero host) in
    let put = with_texts first texts in
    let whole = with_item put (list_item first.top texts kept) in
    Swap ((10, first.top) ∷ (11, whole.top) ∷ []) whole.items

-- ENAMETOOLONG of a host text that is no path, and E2BIG of more than the shelf holds
abbrev pub script_edit : ℕ → List ℕ → List (List ℕ) → List ℕ → Edit
script_edit sp host texts kept =
    if nat_lt longest_path (length host) then Cancel ENAMETOOLONG
    else if nat_lt shelf_size (script_room host texts kept) then Cancel E2BIG
    else shelved_script sp host texts kept
