-- How much room texts and a list of addresses take.
use Rattle.std.proofs.Common.{◌≡◌, ◌+◌, ◌*◌, ◌≤◌, ℕ, List, [], ◌∷◌, length, arith, w64}
use Rattle.std.specs.Int.{to_le_bytes}
use Rattle.std.proofs.Common.{length-append}
use Rattle.std.proofs.SliceLists.{length_more}
use Rattle.pt_results.specs.pt_args.Shelving.{address_below, with_item, with_zero}
use Rattle.pt_results.specs.pt_args.declared.shelf.Shelf.{Shelf}
use Rattle.pt_tracer.specs.ScriptEdit.{addresses_of, texts_room, with_texts}

-- an address divisible by 8 is at most 7 bytes further down
pub near : (top size : ℕ) → top ≤ address_below top size + size + 7
near top size = omega arith

pub texts-top : (shelf : Shelf) (texts : List (List ℕ)) → shelf.top ≤ (with_texts shelf texts).top + texts_room texts
texts-top shelf [] = omega arith
texts-top shelf (text ∷ texts) =
    let here = near shelf.top (length (with_zero text)) in
    let rest = texts-top (with_item shelf (with_zero text)) texts in
    let long : length (with_zero text) ≡ length text + 1 = length_more text 0 in
    omega (arith, here, rest, long)

pub addresses-long : (top : ℕ) (texts : List (List ℕ)) → length (addresses_of top texts) ≡ 8 * length texts
addresses-long top [] = omega arith
addresses-long top (text ∷ texts) =
    let at = address_below top (length (with_zero text)) in
    let rest = addresses-long at texts in
    let both = length-append (to_le_bytes w64 at) (addresses_of at texts) in
    omega (arith, rest, both)
