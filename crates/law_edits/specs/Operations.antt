-- What a request with other texts has in common with the one that was made.
use Rattle.std.specs.Prelude.{◌≡◌, ◌≢◌, ℕ, List, [], Option, Some, None}
use Rattle.std.specs.Option.{option_map}
use Rattle.law_walks.specs.kr_calls.PathTable.{PathUse, path_at}
use Rattle.law_walks.specs.kr_calls.declared.request.Request.{Request}
use Rattle.law_walks.specs.kr_model.Known.{Known}
use Rattle.law_walks.specs.kr_model.Operation.{IsNoExec, operation}
use Rattle.law_walks.specs.kr_model.Seen.{Seen}
use Rattle.law_edits.specs.Requests.{NewText, with_swaps}

abbrev pub with_path : List ℕ → PathUse → PathUse
with_path text u = record { dirfd = u.dirfd; text = text; mode = u.mode; register = u.register }

abbrev pub with_path_if_any : Option NewText → PathUse → PathUse
with_path_if_any None u = u
with_path_if_any (Some n) u = with_path n.text u

-- its paths have these texts, and are walked as before
pub record PathsAreSwapped : Type 0 where
  pub one : (r : Request) (first : NewText) (second : Option NewText) → path_at (with_swaps first second r) 0 ≡ option_map (with_path first.text) (path_at r 0)
  pub two : (r : Request) (first : NewText) (second : Option NewText) → path_at (with_swaps first second r) 1 ≡ option_map (with_path_if_any second) (path_at r 1)

-- an empty path stands for a descriptor, and is never swapped
abbrev pub HasFirst : Request → Type 0
HasFirst r = (u : PathUse) → path_at r 0 ≡ Some u → u.text ≢ []

-- so where the same is told of the paths, a call other than execve comes to the same
abbrev pub OperationsAreSame : Type 0
OperationsAreSame =
    (pid : ℕ) (r : Request) (first : NewText) (second : Option NewText) (seen : Seen) (k : Known) → IsNoExec r → HasFirst r → first.text ≢ [] → operation pid (with_swaps first second r) seen k ≡ operation pid r seen k
