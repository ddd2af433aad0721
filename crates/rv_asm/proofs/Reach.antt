-- The instructions of an item whose label is in reach have words.
use Rattle.std.proofs.Common.{◌≡◌, ℕ, ◌%◌, Bool, true, false, List, All, Option, Some, None, length, slice_index_or, arith, refl, inl, inr}
use Rattle.std.specs.Prelude.{ℤ, pos, negsuc, ◌+ℤ◌, ◌-ℤ◌, ◌*ℤ◌, ◌≤ℤ◌, unwrap_or, if◌then◌else◌}
use Rattle.std.specs.Int.{int_div_euclid}
use Rattle.std.proofs.lemmas.Int.{ints, unsigned_abs-mul}
use Rattle.std.proofs.lemmas.Bool.{cases_lt}
use Rattle.std.proofs.lemmas.Bool.Decides.{nat_tests}
use Rattle.std.proofs.lemmas.List.{get_or_past}
use Rattle.rv_table.specs.declared.instr.Instr.{Instr}
use Rattle.rv_table.specs.declared.instr.Instr.TheVariants.{Beq, Bne, Blt, Bge, Bltu, Bgeu}
use Rattle.rv_table.specs.Encoding.{IsValid, FitsWidth, IsMultiple}
use Rattle.rv_asm.specs.declared.item.Item.{Item}
use Rattle.rv_asm.specs.declared.item.Item.TheVariants.{Plain, Jump, Branch, Address, Data}
use Rattle.rv_asm.specs.Program.{place_of, label_of, IsBranch, IsProper, IsInside}
use Rattle.rv_asm.specs.Assembly.{distance, fits, upper, lower, far_label, aimed, HasWords}

-- ---- widths

FitsWidth-fits : (width : ℕ) (d : ℤ) → fits width d ≡ true → FitsWidth width d
FitsWidth-fits width (pos n) held = grind (arith, nat_tests)
FitsWidth-fits width (negsuc n) held = grind (arith, nat_tests)

FitsWidth-twelve : (d : ℤ) → negsuc 2047 ≤ℤ d → d ≤ℤ pos 2047 → FitsWidth 12 d
FitsWidth-twelve (pos n) above below = omega (arith, ints)
FitsWidth-twelve (negsuc n) above below = omega (arith, ints)

-- ---- the two parts of a distance

pub floor_below : (z : ℤ) → (int_div_euclid z (pos 4096) *ℤ pos 4096) ≤ℤ z
floor_below (pos n) = omega (arith, ints)
floor_below (negsuc n) = omega (arith, ints)

pub floor_above : (z : ℤ) → z ≤ℤ (int_div_euclid z (pos 4096) *ℤ pos 4096 +ℤ pos 4095)
floor_above (pos n) = omega (arith, ints)
floor_above (negsuc n) = omega (arith, ints)

pub lower_fits : (d : ℤ) → FitsWidth 12 (lower d)
lower_fits d =
    let below : (int_div_euclid (d +ℤ pos 2048) (pos 4096) *ℤ pos 4096) ≤ℤ (d +ℤ pos 2048) = floor_below (d +ℤ pos 2048) in
    let above : (d +ℤ pos 2048) ≤ℤ (int_div_euclid (d +ℤ pos 2048) (pos 4096) *ℤ pos 4096 +ℤ pos 4095) = floor_above (d +ℤ pos 2048) in
    FitsWidth-twelve (lower d) (omega (arith, ints)) (omega (arith, ints))

pub times_multiple : (q : ℤ) → IsMultiple 4096 (q *ℤ pos 4096)
times_multiple q = rw (unsigned_abs-mul q (pos 4096)) (omega arith)

-- ---- distances are even

distance_even : (p a : ℕ) → p % 4 ≡ 0 → a % 4 ≡ 0 → IsMultiple 2 (pos p -ℤ pos a)
distance_even p a p_even a_even = omega (arith, ints)

pub place_inside : (places : List (Option ℕ)) (size label : ℕ) → All (IsInside size) places → IsInside size (place_of places label)
place_inside places size label inside =
    elim (cases_lt label (length places)) [
      | inl given ↦ inside label None given
      | inr past ↦ let missing : slice_index_or places label None ≡ None = get_or_past places label None past in rw missing tt
    ]

place_even : (size : ℕ) (place : Option ℕ) → IsInside size place → unwrap_or place 0 % 4 ≡ 0
place_even size None inside = refl
place_even size (Some place) inside = inside.0

-- ---- items

in_reach : (b : Bool) (label : ℕ) → ◌≡◌ {A = Option ℕ} (if b then None else Some label) None → b ≡ true
in_reach true label none = refl
in_reach false label none = cc

IsValid-aimed : (i : Instr) (d : ℤ) → IsBranch i → FitsWidth 13 d → IsMultiple 2 d → IsValid (aimed i d)
IsValid-aimed (Beq rs1 rs2 imm) d branch fits even = (branch.0, branch.1, fits, even)
IsValid-aimed (Bne rs1 rs2 imm) d branch fits even = (branch.0, branch.1, fits, even)
IsValid-aimed (Blt rs1 rs2 imm) d branch fits even = (branch.0, branch.1, fits, even)
IsValid-aimed (Bge rs1 rs2 imm) d branch fits even = (branch.0, branch.1, fits, even)
IsValid-aimed (Bltu rs1 rs2 imm) d branch fits even = (branch.0, branch.1, fits, even)
IsValid-aimed (Bgeu rs1 rs2 imm) d branch fits even = (branch.0, branch.1, fits, even)
IsValid-aimed _ d branch fits even = absurd branch

pub has_words : (places : List (Option ℕ)) (at labels size : ℕ) (item : Item) → IsProper labels item → far_label places at item (label_of item) ≡ None → at % 4 ≡ 0 → All (IsInside size) places → HasWords places at item
has_words places at labels size (Plain i) proper near even inside = proper
has_words places at labels size (Jump rd to) proper near even inside = (
  proper.0,
  FitsWidth-fits 21 (distance places at to) (in_reach (fits 21 (distance places at to)) to near),
  distance_even (unwrap_or (place_of places to) 0) at (place_even size (place_of places to) (place_inside places size to inside)) even,
)
has_words places at labels size (Branch i to) proper near even inside =
    IsValid-aimed i (distance places at to) proper.0
    (FitsWidth-fits 13 (distance places at to) (in_reach (fits 13 (distance places at to)) to near))
    (distance_even (unwrap_or (place_of places to) 0) at (place_even size (place_of places to) (place_inside places size to inside)) even)
has_words places at labels size (Address rd of) proper near even inside = (
  (
    proper.0,
    FitsWidth-fits 32 (upper (distance places at of)) (in_reach (fits 32 (upper (distance places at of))) of near),
    times_multiple (int_div_euclid (distance places at of +ℤ pos 2048) (pos 4096)),
  ),
  (proper.0, proper.0, lower_fits (distance places at of)),
)
has_words places at labels size (Data bytes) proper near even inside = tt
