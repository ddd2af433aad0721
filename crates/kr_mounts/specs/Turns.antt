-- How the order of bindings is found. No public clause cites this module.
use Rattle.std.specs.Prelude.{◌≡◌, ◌≤◌, ◌||◌, ◌++◌, ℕ, Bool, not, is_some, length, map, List, Vec}
use Rattle.std.specs.BTreeMap.{BTreeMap, get_by, values}
use Rattle.std.specs.Cmp.Lexicographic.{slice_cmp}
use Rattle.std.specs.List.{All, AllByRecursion, list_any}
use Rattle.std.specs.Ordering.{nat_cmp, ordering_then}
use Rattle.std.specs.Str.{bytes_eq}
use Rattle.std.specs.declared.cmp.Ordering.{Ordering}
use Rattle.pt_bind.specs.Binding.{names_of}
use Rattle.kr_mounts.specs.Found.{HasTexts, located_told}
use Rattle.kr_mounts.specs.MountTable.{counting, in_order}
use Rattle.kr_mounts.specs.declared.order.Located.{Located}
use Rattle.kr_mounts.specs.declared.order.Turn.{Turn}

-- whether a location was noted
abbrev pub was_seen : {Z : Type 0} → BTreeMap (Vec ℕ Z) ℕ → List ℕ → Bool
was_seen seen bytes = is_some (get_by (λ key. slice_cmp nat_cmp bytes key.items) seen)

-- a location is noted, and whether it wasn't before
pub record IsNoted {Z : Type 0} (old : BTreeMap (Vec ℕ Z) ℕ) (location : List ℕ) (new : BTreeMap (Vec ℕ Z) ℕ) (is_new : Bool) : Type 0 where
  pub fresh : is_new ≡ not (was_seen old location)
  pub noted : (bytes : List ℕ) → was_seen new bytes ≡ (bytes_eq location bytes || was_seen old bytes)

-- turns go by the number of names, and where that is the same by their own
abbrev pub turn_cmp : Turn → Turn → Ordering
turn_cmp x y = ordering_then (nat_cmp x.names y.names) (nat_cmp x.number y.number)

-- the turn of a binding of which those in front of it are fewer than its number
pub record HasTurn (left : ℕ) (e : Turn × Located) : Type 0 where
  pub names : e.0.names ≡ length (names_of e.1.location)
  pub number : left ≤ e.0.number
  pub texts : HasTexts e.1

-- the bindings behind those that are left have their turns
pub record HaveTurns {Z : Type 0} (all left : List Located) (seen : BTreeMap (Vec ℕ Z) ℕ) (turns : BTreeMap Turn Located) : Type 0 where
  pub done : List Located
  pub parted : all ≡ left ++ done
  pub noted : (bytes : List ℕ) → was_seen seen bytes ≡ list_any (λ (o : Located). bytes_eq o.location bytes) done
  pub ordered : map located_told (values turns) ≡ in_order (counting (map located_told done))
  pub each : AllByRecursion (HasTurn (length left)) turns.entries
  pub texts_done : AllByRecursion HasTexts done
  pub texts_left : All HasTexts left
