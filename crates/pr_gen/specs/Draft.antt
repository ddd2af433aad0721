-- The code of a probe while it is written, by its size and its labels.
use Rattle.std.specs.Prelude.{◌≡◌, ℕ, ◌+◌, ◌≤◌, List, ◌∷◌, All, Option, None, IsSome}
use Rattle.rv_asm.specs.Program.{Program, total}
use Rattle.rv_asm.specs.Assembly.{IsNoBranch}

-- how many bytes of code there are, and where the labels stand
pub record Draft : Type 0 where
  pub size : ℕ
  pub places : List (Option ℕ)

-- what holds of a code that is written: its size is counted, and no item is a branch to a label
pub record IsKept (p : Program) (size : ℕ) : Type 0 where
  pub counted : size ≡ total p.items
  pub straight : All IsNoBranch p.items

-- longer by `more` bytes
abbrev pub longer : ℕ → Draft → Draft
longer more d = record { size = d.size + more; places = d.places }

-- at most `more` bytes are added, and no label is added or bound
pub record Grows (more : ℕ) (old new : Draft) : Type 0 where
  pub kept : old.size ≤ new.size
  pub size : new.size ≤ old.size + more
  pub places : new.places ≡ old.places

-- the first three labels aren't bound yet, and all others are
pub record IsOpen (places : List (Option ℕ)) : Type 0 where
  pub others : List (Option ℕ)
  pub first : places ≡ None ∷ None ∷ None ∷ others
  pub bound : All IsSome others
