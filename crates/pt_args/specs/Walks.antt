-- Where a path of a call leads, by the tracer's walk over guest texts.
use Rattle.std.specs.Prelude.{ℕ, ◌&&◌, Bool, IsTrue, List, [], ◌∷◌, Option, Some, None, Result, Ok, Err}
use Rattle.pt_canon.specs.pr_base.Paths.{is_absolute}
use Rattle.pt_canon.specs.pr_base.declared.errno.Errno.{Errno}
use Rattle.pt_canon.specs.pt_bind.Binding.{IsWritten, names_of}
use Rattle.pt_canon.specs.Canon.{canon_of}
use Rattle.pt_canon.specs.LookedPaths.{is_steady_walk}
use Rattle.pt_canon.specs.TextWalk.{TextSurroundings}
use Rattle.pt_canon.specs.declared.canon.Canon.{Canon}
use Rattle.kr_calls.specs.PathTable.{PathUse}
use Rattle.pt_args.specs.Bases.{base_of}
use Rattle.pt_args.specs.Purposes.{purpose_of}
use Rattle.pt_args.specs.declared.reached.Reached.{Reached}

-- what comes of a value, or its error
abbrev pub and_then : {A B : Type 0} → Result A Errno → (A → Result B Errno) → Result B Errno
and_then (Ok x) next = next x
and_then (Err e) next = Err e

abbrev pub reached_at : PathUse → Bool → Canon → Reached
reached_at u opening canon = record { register = u.register; purpose = purpose_of opening u.mode; canon = canon }

-- from a base; without one the path stays as it is
abbrev pub walked_from : TextSurroundings → Bool → PathUse → Option (List ℕ) → Result (Option Reached) Errno
walked_from texts opening u None = Ok None
walked_from texts opening u (Some base) =
    and_then (canon_of texts u.mode (names_of base) u.text) (λ canon. Ok (Some (reached_at u opening canon)))

-- an empty path stands for a descriptor, and stays as it is too
abbrev pub walked_along : TextSurroundings → ℕ → Bool → PathUse → List ℕ → Result (Option Reached) Errno
walked_along texts pid opening u [] = Ok None
walked_along texts pid opening u (b ∷ path) = and_then (base_of texts pid u) (walked_from texts opening u)

abbrev pub walked : TextSurroundings → ℕ → Bool → PathUse → Result (Option Reached) Errno
walked texts pid opening u = walked_along texts pid opening u u.text

-- ---- whether the process directory is unmet still, by whether it was before: each walk that is made has to be steady

abbrev pub unmet_from : TextSurroundings → PathUse → Option (List ℕ) → Bool → Bool
unmet_from texts u None unmet = unmet
unmet_from texts u (Some base) unmet = unmet && is_steady_walk texts u.mode (names_of base) u.text

abbrev pub unmet_by_base : TextSurroundings → PathUse → Result (Option (List ℕ)) Errno → Bool → Bool
unmet_by_base texts u (Ok base) unmet = unmet_from texts u base unmet
unmet_by_base texts u (Err e) unmet = unmet

abbrev pub unmet_along : TextSurroundings → ℕ → PathUse → List ℕ → Bool → Bool
unmet_along texts pid u [] unmet = unmet
unmet_along texts pid u (b ∷ path) unmet = unmet_by_base texts u (base_of texts pid u) unmet

abbrev pub walked_unmet : TextSurroundings → ℕ → PathUse → Bool → Bool
walked_unmet texts pid u unmet = unmet_along texts pid u u.text unmet

-- ---- what is reached

-- a guest text was reached, and a host text
pub record IsReached (reached : Reached) : Type 0 where
  pub guest : IsWritten reached.canon.guest
  pub host : IsTrue (is_absolute reached.canon.host)
