-- The code of a program, and its first fault.
use Rattle.std.specs.Prelude.{ℕ, ◌+◌, ◌<◌, ◌^◌, ◌-◌, Bool, true, nat_lt, if◌then◌else◌, ℤ, pos, negsuc, ◌+ℤ◌, ◌-ℤ◌, ◌*ℤ◌, List, [], ◌∷◌, ◌++◌, All, Option, Some, None, IsSome, is_none, unwrap_or}
use Rattle.std.specs.Int.{int_div_euclid, to_le_bytes, w32}
use Rattle.std.specs.Option.{option_map, option_or}
use Rattle.rv_table.specs.declared.instr.Instr.{Instr}
use Rattle.rv_table.specs.declared.instr.Instr.TheVariants.{Addi, Auipc, Jal, Beq, Bne, Blt, Bge, Bltu, Bgeu}
use Rattle.rv_table.specs.Encoding.{IsValid, encoded}
use Rattle.rv_asm.specs.declared.fault.AsmFault.{AsmFault}
use Rattle.rv_asm.specs.declared.fault.AsmFault.TheVariants.{Unbound, Far}
use Rattle.rv_asm.specs.declared.item.Item.{Item}
use Rattle.rv_asm.specs.declared.item.Item.TheVariants.{Plain, Jump, Branch, Address, Data}
use Rattle.rv_asm.specs.Program.{Program, place_of, label_of, size_of, total}

-- ---- distances

-- from an item that stands `at` bytes behind the start to a label
abbrev pub distance : List (Option ℕ) → ℕ → ℕ → ℤ
distance places at label = pos (unwrap_or (place_of places label) 0) -ℤ pos at

-- whether `width` bits hold a whole number in two's complement; `negsuc n` is - n - 1
abbrev pub fits : ℕ → ℤ → Bool
fits width (pos n) = nat_lt n (2 ^ (width - 1))
fits width (negsuc n) = nat_lt n (2 ^ (width - 1))

-- a distance in two parts: the multiple of 4096 that is nearest to it, and what is left, which twelve
-- bits hold
abbrev pub upper : ℤ → ℤ
upper d = int_div_euclid (d +ℤ pos 2048) (pos 4096) *ℤ pos 4096

abbrev pub lower : ℤ → ℤ
lower d = d -ℤ upper d

-- ---- the first fault

-- the label that an item uses, where it isn't bound
abbrev pub unbound_label : List (Option ℕ) → Option ℕ → Option ℕ
unbound_label places None = None
unbound_label places (Some label) = if is_none (place_of places label) then Some label else None

abbrev pub first_unbound : List (Option ℕ) → List Item → Option ℕ
first_unbound places [] = None
first_unbound places (item ∷ rest) = option_or (unbound_label places (label_of item)) (first_unbound places rest)

-- an item's instructions have room for the distance: 13 bits of a branch, 21 of a jump, and 32 of the
-- upper part of an address
abbrev pub reaches : Item → ℤ → Bool
reaches (Plain i) d = true
reaches (Jump rd to) d = fits 21 d
reaches (Branch i to) d = fits 13 d
reaches (Address rd of) d = fits 32 (upper d)
reaches (Data bytes) d = true

-- the label that an item uses, where it is out of reach
abbrev pub far_label : List (Option ℕ) → ℕ → Item → Option ℕ → Option ℕ
far_label places at item None = None
far_label places at item (Some label) = if reaches item (distance places at label) then None else Some label

abbrev pub first_far : List (Option ℕ) → ℕ → List Item → Option ℕ
first_far places at [] = None
first_far places at (item ∷ rest) =
    option_or (far_label places at item (label_of item)) (first_far places (at + size_of item) rest)

abbrev pub first_fault : Program → Option AsmFault
first_fault p =
    option_or (option_map Unbound (first_unbound p.places p.items)) (option_map Far (first_far p.places 0 p.items))

-- ---- the code

-- an instruction's word, its lowest byte first
abbrev pub word : Instr → List ℕ
word i = to_le_bytes w32 (encoded i)

-- a branch with this distance
abbrev pub aimed : Instr → ℤ → Instr
aimed (Beq rs1 rs2 imm) d = Beq rs1 rs2 d
aimed (Bne rs1 rs2 imm) d = Bne rs1 rs2 d
aimed (Blt rs1 rs2 imm) d = Blt rs1 rs2 d
aimed (Bge rs1 rs2 imm) d = Bge rs1 rs2 d
aimed (Bltu rs1 rs2 imm) d = Bltu rs1 rs2 d
aimed (Bgeu rs1 rs2 imm) d = Bgeu rs1 rs2 d
aimed i d = i

-- the bytes of an item that stands `at` bytes behind the start
abbrev pub bytes_of : List (Option ℕ) → ℕ → Item → List ℕ
bytes_of places at (Plain i) = word i
bytes_of places at (Jump rd to) = word (Jal rd (distance places at to))
bytes_of places at (Branch i to) = word (aimed i (distance places at to))
bytes_of places at (Address rd of) =
    word (Auipc rd (upper (distance places at of))) ++ word (Addi rd rd (lower (distance places at of)))
bytes_of places at (Data bytes) = bytes

-- its instructions have words
abbrev pub HasWords : List (Option ℕ) → ℕ → Item → Type 0
HasWords places at (Plain i) = IsValid i
HasWords places at (Jump rd to) = IsValid (Jal rd (distance places at to))
HasWords places at (Branch i to) = IsValid (aimed i (distance places at to))
HasWords places at (Address rd of) =
    IsValid (Auipc rd (upper (distance places at of))) × IsValid (Addi rd rd (lower (distance places at of)))
HasWords places at (Data bytes) = Unit {0}

abbrev pub code_from : List (Option ℕ) → ℕ → List Item → List ℕ
code_from places at [] = []
code_from places at (item ∷ rest) = bytes_of places at item ++ code_from places (at + size_of item) rest

abbrev pub code_of : Program → List ℕ
code_of p = code_from p.places 0 p.items

-- ---- programs that have no fault

abbrev pub IsNoBranch : Item → Type 0
IsNoBranch (Branch i to) = ⊥
IsNoBranch _ = Unit {0}

-- each label is bound, no item is a branch, and no distance is too long for a jump
pub record IsNear (p : Program) : Type 0 where
  pub bound : All IsSome p.places
  pub straight : All IsNoBranch p.items
  pub short : total p.items < 2 ^ 20
