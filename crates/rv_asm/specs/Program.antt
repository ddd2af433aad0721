-- A program: its items in order, and where its labels stand.
use Rattle.std.specs.Prelude.{◌≡◌, ℕ, ◌+◌, ◌-◌, ◌*◌, ◌%◌, ◌<◌, ◌≤◌, ◌^◌, List, [], ◌∷◌, ◌++◌, length, map, replicate, All, Option, Some, None, slice_index_or}
use Rattle.std.specs.Int.{div_ceil}
use Rattle.rv_table.specs.declared.instr.Instr.{Instr}
use Rattle.rv_table.specs.declared.instr.Instr.TheVariants.{Beq, Bne, Blt, Bge, Bltu, Bgeu}
use Rattle.rv_table.specs.Encoding.{IsValid}
use Rattle.rv_asm.specs.declared.item.Item.{Item}
use Rattle.rv_asm.specs.declared.item.Item.TheVariants.{Plain, Jump, Branch, Address, Data}

-- `places` has for each label how many bytes of code stand before it, once it is bound
pub record Program : Type 0 where
  pub items : List Item
  pub places : List (Option ℕ)

-- where a label stands, where it is given and bound
abbrev pub place_of : List (Option ℕ) → ℕ → Option ℕ
place_of places label = slice_index_or places label None

-- with one more item
abbrev pub with_item : Program → Item → Program
with_item p item = record { items = p.items ++ item ∷ []; places = p.places }

-- with instructions behind it
abbrev pub with_code : Program → List Instr → Program
with_code p is = record { items = p.items ++ map Plain is; places = p.places }

-- bytes, and zeros behind them up to a multiple of four
abbrev pub padded : List ℕ → List ℕ
padded bytes = bytes ++ replicate (div_ceil (length bytes) 4 * 4 - length bytes) 0

-- ---- items

-- how many bytes of code an item is
abbrev pub size_of : Item → ℕ
size_of (Plain i) = 4
size_of (Jump rd to) = 4
size_of (Branch i to) = 4
size_of (Address rd of) = 8
size_of (Data bytes) = length bytes

-- the label that an item uses
abbrev pub label_of : Item → Option ℕ
label_of (Plain i) = None
label_of (Jump rd to) = Some to
label_of (Branch i to) = Some to
label_of (Address rd of) = Some of
label_of (Data bytes) = None

abbrev pub total : List Item → ℕ
total [] = 0
total (item ∷ rest) = size_of item + total rest

-- ---- what the calls need

-- a conditional branch between two registers
abbrev pub IsBranch : Instr → Type 0
IsBranch (Beq rs1 rs2 imm) = (rs1 < 32) × (rs2 < 32)
IsBranch (Bne rs1 rs2 imm) = (rs1 < 32) × (rs2 < 32)
IsBranch (Blt rs1 rs2 imm) = (rs1 < 32) × (rs2 < 32)
IsBranch (Bge rs1 rs2 imm) = (rs1 < 32) × (rs2 < 32)
IsBranch (Bltu rs1 rs2 imm) = (rs1 < 32) × (rs2 < 32)
IsBranch (Bgeu rs1 rs2 imm) = (rs1 < 32) × (rs2 < 32)
IsBranch _ = ⊥

-- an item of a program with `labels` labels
abbrev pub IsProper : ℕ → Item → Type 0
IsProper labels (Plain i) = IsValid i
IsProper labels (Jump rd to) = (rd < 32) × (to < labels)
IsProper labels (Branch i to) = IsBranch i × (to < labels)
IsProper labels (Address rd of) = (rd < 32) × (of < labels)
IsProper labels (Data bytes) = length bytes % 4 ≡ 0

-- a label that is bound stands between words of a code of `size` bytes
abbrev pub IsInside : ℕ → Option ℕ → Type 0
IsInside size None = Unit {0}
IsInside size (Some place) = (place % 4 ≡ 0) × (place ≤ size)

-- what holds of every program: its size, its items and its labels
pub record IsSound (items : List Item) (places : List (Option ℕ)) (size : ℕ) : Type 0 where
  pub counted : size ≡ total items
  pub room : size ≤ 2 ^ 62
  pub proper : All (IsProper (length places)) items
  pub inside : All (IsInside size) places
