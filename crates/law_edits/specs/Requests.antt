-- Requests whose paths are swapped for other texts: all else of a request is the same.
use Rattle.std.specs.Prelude.{◌≡◌, ℕ, List, Option, Some, None}
use Rattle.std.specs.Option.{option_map}
pub use Rattle.law_walks.specs.kr_calls.CallTable.{with_first, with_second}
use Rattle.law_walks.specs.kr_calls.PathTable.{path_at}
use Rattle.law_walks.specs.kr_calls.declared.request.Request.{Request}

-- a text in place of a path, and the number of the register that holds the path's address
pub record NewText : Type 0 where
  pub register : ℕ
  pub text : List ℕ

-- what a tracer swaps: the first path alone, or both
abbrev pub with_swaps : NewText → Option NewText → Request → Request
with_swaps first None r = with_first first.text r
with_swaps first (Some second) r = with_second second.text (with_first first.text r)

-- the register that holds the address of path k
abbrev pub path_register : Request → ℕ → Option ℕ
path_register r k = option_map (λ u. u.register) (path_at r k)

abbrev pub IsOfSecond : Request → Option NewText → Type 0
IsOfSecond r None = Unit {0}
IsOfSecond r (Some second) = path_register r 1 ≡ Some second.register

-- swapped texts are for the paths of a request, by the registers of these
pub record AreOfPaths (r : Request) (first : NewText) (second : Option NewText) : Type 0 where
  pub one : path_register r 0 ≡ Some first.register
  pub two : IsOfSecond r second
