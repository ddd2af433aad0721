-- What the definitions of a program's code amount to.
use Rattle.std.specs.Prelude.{◌≡◌, ℤ, ◌+ℤ◌, List, ◌∷◌, ◌++◌, take, drop}
use Rattle.rv_table.specs.Encoding.{FitsWidth, IsMultiple}
use Rattle.rv_asm.specs.declared.item.Item.{Item}
use Rattle.rv_asm.specs.Program.{Program, size_of, total}
use Rattle.rv_asm.specs.Assembly.{upper, lower, bytes_of, code_of}

abbrev pub ItemsStandInOrder : Type 0
ItemsStandInOrder =
    (p : Program) (before after : List Item) (item : Item) → p.items ≡ before ++ item ∷ after
    → take (size_of item) (drop (total before) (code_of p)) ≡ bytes_of p.places (total before) item

abbrev pub PartsAddUp : Type 0
PartsAddUp = (d : ℤ) → (upper d +ℤ lower d ≡ d) × IsMultiple 4096 (upper d) × FitsWidth 12 (lower d)
