-- The numbers of requests with paths.
use Rattle.std.proofs.Common.{◌≡◌, ℕ, Bool, true, false, List, [], ◌∷◌, Some, refl, subst, ◌∙◌}
use Rattle.law_walks.specs.kr_calls.CallTable.{line, paths_of}
use Rattle.law_walks.specs.kr_calls.PathTable.{PathUse, path_from}
use Rattle.law_walks.specs.kr_calls.declared.request.Request.{Request}
use Rattle.law_walks.specs.kr_calls.declared.request.Request.TheVariants as call
use Rattle.kr_turns.specs.kr_calm.Shelf.{has_path}
use Rattle.law_walks.proofs.kr_calls.DecodingLemmas.{decoded_are_numbered}
use Rattle.law_edits.specs.CallShelves.{PathsHaveNumbers}

abbrev has_any : List PathUse → Bool
has_any [] = false
has_any (u ∷ us) = true

-- a line has paths where its number is one of a call with a path
lines_are_numbered : (r : Request) → has_path (line r).number ≡ has_any (paths_of (line r).told)
lines_are_numbered (call.Dup fd) = refl
lines_are_numbered _ = refl

some_path : (us : List PathUse) (k : ℕ) (u : PathUse) → path_from 0 us k ≡ Some u → has_any us ≡ true
some_path [] k u e = absurd cc
some_path (v ∷ us) k u e = refl

pub paths_have_numbers : PathsHaveNumbers
paths_have_numbers regs m r k u e path =
    subst (λ n. has_path n ≡ true) (decoded_are_numbered regs m r e) (lines_are_numbered r ∙ some_path (paths_of (line r).told) k u path)
