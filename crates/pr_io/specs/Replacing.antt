-- What contracts see of a sink that puts its bytes in the place of those that stand there.
use Rattle.std.specs.Prelude.{ℕ, Bool, true, false, List, [], Option, Some, option_and_then}
use Rattle.std.specs.Io.KnownBytes.{Keeps}

-- the writer, where there is one, the count of faults, all bytes that were taken, and whether what stood there was taken away
pub record ReplacingState (T : Type 0) : Type 0 where
  pub file : Option T
  pub faults : ℕ
  pub got : List ℕ
  pub is_cut : Bool

-- no known byte stays
abbrev pub Cuts : Option (List ℕ) → Option (List ℕ) → Type 0
Cuts old new = Keeps (option_and_then (λ _. Some []) old) new

-- what the bytes of a put come behind: nothing where that put took away what stood there, and else what stood there
abbrev pub put_behind : Bool → Bool → Option (List ℕ) → Option (List ℕ)
put_behind false true held = option_and_then (λ _. Some []) held
put_behind false false held = held
put_behind true _ held = held
