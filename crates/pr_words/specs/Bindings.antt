-- Bindings with their indices.
use Rattle.std.specs.Prelude.{ℕ, ◌+◌, Bool, List, [], ◌∷◌, ◌++◌, length}
use Rattle.pr_base.specs.declared.bind.Bind.{Bind}

-- a binding with the next index, from 1
abbrev pub with_bind : List ℕ → List ℕ → Bool → List Bind → List Bind
with_bind host guest keep binds = binds ++ record { index = length binds + 1; host = host; guest = guest; keep = keep } ∷ []
