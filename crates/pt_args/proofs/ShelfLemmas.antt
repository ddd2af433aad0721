-- Items on a shelf.
use Rattle.std.proofs.Common.{◌≡◌, ℕ, ◌+◌, ◌-◌, ◌/◌, ◌%◌, ◌≤◌, List, [], ◌∷◌, length, arith}
use Rattle.std.proofs.Math.Nat.{mul-mod_left}
use Rattle.pt_args.specs.Laws.{room_of, StandBetween, ShelvesHoldTheirItems}
use Rattle.pt_args.specs.Shelving.{address_below, shelved}

pub aligned : (top size : ℕ) → address_below top size % 8 ≡ 0
aligned top size = mul-mod_left ((top - size) / 8) 8

pub fits_below : (top size : ℕ) → size ≤ top → address_below top size + size ≤ top
fits_below top size room = omega arith

pub not_far_below : (top size : ℕ) → top ≤ address_below top size + size + 7
not_far_below top size = omega arith

pub highest : (top size at : ℕ) → at % 8 ≡ 0 → at + size ≤ top → at ≤ address_below top size
highest top size at even fits = omega arith

pub stand_between : (bottom top : ℕ) (items : List (List ℕ)) → bottom + room_of items ≤ top → StandBetween bottom top (shelved top items)
stand_between bottom top [] room = tt
stand_between bottom top (item ∷ items) room =
    let at : ℕ = address_below top (length item) in
    let far : top ≤ address_below top (length item) + length item + 7 = not_far_below top (length item) in
    (omega arith, aligned top (length item), fits_below top (length item) (omega arith), stand_between bottom (address_below top (length item)) items (omega arith))

pub shelves_hold_their_items : ShelvesHoldTheirItems
shelves_hold_their_items = record { highest = highest; stand = stand_between }
