-- A short program without branches, whose labels are all bound, has no fault.
use Rattle.std.proofs.Common.{◌≡◌, ℕ, ◌+◌, ◌-◌, ◌<◌, ◌≤◌, ◌^◌, true, List, [], ◌∷◌, All, Option, Some, None, length, arith, refl}
use Rattle.std.specs.Prelude.{ℤ, pos, negsuc, ◌+ℤ◌, ◌-ℤ◌, ◌*ℤ◌, ◌≤ℤ◌, IsSome, is_none, unwrap_or, if◌then◌else◌}
use Rattle.std.specs.Int.{int_div_euclid}
use Rattle.std.specs.Option.{option_or}
use Rattle.std.proofs.lemmas.Int.{ints}
use Rattle.std.proofs.lemmas.Bool.Decides.{nat_tests}
use Rattle.std.proofs.lemmas.List.Elements.{All-head, All-tail}
use Rattle.rv_asm.specs.declared.item.Item.{Item}
use Rattle.rv_asm.specs.declared.item.Item.TheVariants.{Plain, Jump, Branch, Address, Data}
use Rattle.rv_asm.specs.Program.{Program, place_of, label_of, size_of, total, IsProper, IsInside, IsSound}
use Rattle.rv_asm.specs.Assembly.{fits, upper, unbound_label, first_unbound, far_label, first_far, first_fault, IsNoBranch, IsNear}
use Rattle.rv_asm.proofs.Reach.{floor_below, floor_above, place_inside}

neither : {A : Type 0} (a b : Option A) → a ≡ None → b ≡ None → option_or a b ≡ None
neither a b no_a no_b = rw (no_a, no_b) refl

-- ---- labels

bound_label : (places : List (Option ℕ)) (label : ℕ) → label < length places → All IsSome places → unbound_label places (Some label) ≡ None
bound_label places label given bound = is_bound (place_of places label) label (bound label None given)
  where
    is_bound : (place : Option ℕ) (label : ℕ) → IsSome place → ◌≡◌ {A = Option ℕ} (if is_none place then Some label else None) None
    is_bound None label some = cc
    is_bound (Some place) label some = refl

none_unbound : (places : List (Option ℕ)) (items : List Item) → All (IsProper (length places)) items → All IsSome places → first_unbound places items ≡ None
none_unbound places [] proper bound = refl
none_unbound places (item ∷ rest) proper bound =
    neither (unbound_label places (label_of item)) (first_unbound places rest)
    (of_item places item (All-head (IsProper (length places)) item rest proper) bound)
    (none_unbound places rest (All-tail (IsProper (length places)) item rest proper) bound)
  where
    of_item : (places : List (Option ℕ)) (item : Item) → IsProper (length places) item → All IsSome places → unbound_label places (label_of item) ≡ None
    of_item places (Plain i) proper bound = refl
    of_item places (Jump rd to) proper bound = bound_label places to proper.1 bound
    of_item places (Branch i to) proper bound = bound_label places to proper.1 bound
    of_item places (Address rd of) proper bound = bound_label places of proper.1 bound
    of_item places (Data bytes) proper bound = refl

-- ---- distances

fits_jump : (d : ℤ) → negsuc (2 ^ 20 - 1) ≤ℤ d → d ≤ℤ pos (2 ^ 20 - 1) → fits 21 d ≡ true
fits_jump (pos n) above below = let few : n < 2 ^ 20 = omega (arith, ints) in grind (arith, nat_tests)
fits_jump (negsuc n) above below = let few : n < 2 ^ 20 = omega (arith, ints) in grind (arith, nat_tests)

fits_upper : (d : ℤ) → negsuc (2 ^ 21) ≤ℤ d → d ≤ℤ pos (2 ^ 21) → fits 32 d ≡ true
fits_upper (pos n) above below = let few : n < 2 ^ 31 = omega (arith, ints) in grind (arith, nat_tests)
fits_upper (negsuc n) above below = let few : n < 2 ^ 31 = omega (arith, ints) in grind (arith, nat_tests)

upper_fits : (d : ℤ) → negsuc (2 ^ 20) ≤ℤ d → d ≤ℤ pos (2 ^ 20) → fits 32 (upper d) ≡ true
upper_fits d above below =
    let low : (int_div_euclid (d +ℤ pos 2048) (pos 4096) *ℤ pos 4096) ≤ℤ (d +ℤ pos 2048) = floor_below (d +ℤ pos 2048) in
    let high : (d +ℤ pos 2048) ≤ℤ (int_div_euclid (d +ℤ pos 2048) (pos 4096) *ℤ pos 4096 +ℤ pos 4095) = floor_above (d +ℤ pos 2048) in
    fits_upper (upper d) (omega (arith, ints)) (omega (arith, ints))

place_within : (size : ℕ) (place : Option ℕ) → IsInside size place → unwrap_or place 0 ≤ size
place_within size None inside = omega arith
place_within size (Some place) inside = inside.1

-- a distance in a program of less than 2^20 bytes
far_none : (places : List (Option ℕ)) (at size : ℕ) (item : Item) → size < 2 ^ 20 → at ≤ size → All (IsInside size) places → IsNoBranch item → far_label places at item (label_of item) ≡ None
far_none places at size (Plain i) short here inside straight = refl
far_none places at size (Jump rd to) short here inside straight =
    let p : ℕ = unwrap_or (place_of places to) 0 in
    let within : p ≤ size = place_within size (place_of places to) (place_inside places size to inside) in
    let near : fits 21 (pos p -ℤ pos at) ≡ true = fits_jump (pos p -ℤ pos at) (omega (arith, ints)) (omega (arith, ints)) in
    rw near refl
far_none places at size (Branch i to) short here inside straight = absurd straight
far_none places at size (Address rd of) short here inside straight =
    let p : ℕ = unwrap_or (place_of places of) 0 in
    let within : p ≤ size = place_within size (place_of places of) (place_inside places size of inside) in
    let near : fits 32 (upper (pos p -ℤ pos at)) ≡ true = upper_fits (pos p -ℤ pos at) (omega (arith, ints)) (omega (arith, ints)) in
    rw near refl
far_none places at size (Data bytes) short here inside straight = refl

none_far : (places : List (Option ℕ)) (at size : ℕ) (items : List Item) → size < 2 ^ 20 → at + total items ≤ size → All (IsInside size) places → All IsNoBranch items → first_far places at items ≡ None
none_far places at size [] short here inside straight = refl
none_far places at size (item ∷ rest) short here inside straight =
    neither (far_label places at item (label_of item)) (first_far places (at + size_of item) rest)
    (far_none places at size item short (omega arith) inside (All-head IsNoBranch item rest straight))
    (none_far places (at + size_of item) size rest short (omega arith) inside (All-tail IsNoBranch item rest straight))

pub near_faultless : (p : Program) (size : ℕ) → IsSound p.items p.places size → IsNear p → first_fault p ≡ None
near_faultless p size sound near =
    let unbound : first_unbound p.places p.items ≡ None = none_unbound p.places p.items sound.proper near.bound in
    let far : first_far p.places 0 p.items ≡ None = none_far p.places 0 size p.items (omega (arith, sound.counted, near.short)) (omega (arith, sound.counted)) sound.inside near.straight in
    rw (unbound, far) refl
