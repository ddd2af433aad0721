-- Descriptors as they are kept: a list of slots. No public clause cites this module.
use Rattle.std.specs.FinMap as map
use Rattle.std.specs.Prelude.{ℕ, ◌+◌, Bool, List, [], ◌∷◌, Option, Some, None}
use Rattle.std.specs.Ordering.{nat_cmp}
use Rattle.kr_files.specs.declared.descs.Descriptor.{Descriptor}

-- a descriptor that is taken, and names nothing yet
abbrev pub unnamed : Bool → Descriptor
unnamed cloexec = record { key = 0; number = 0; cloexec = cloexec }

module _ {X : Type 0} where
  -- the values of slots, by their indexes, where the first slot has this index
  abbrev pub slots_from : ℕ → List (Option X) → map.FinMap nat_cmp X
  slots_from k [] = map.empty
  slots_from k (None ∷ rest) = slots_from (k + 1) rest
  slots_from k (Some x ∷ rest) = map.insert (slots_from (k + 1) rest) k x

  abbrev pub slots : List (Option X) → map.FinMap nat_cmp X
  slots xs = slots_from 0 xs
