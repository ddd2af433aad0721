-- Which edit comes of the walks of a call's paths, where each of them leads somewhere.
use Rattle.std.specs.Prelude.{◌≡◌, ℕ, false, true, ◌≤◌, List, Some, None, Ok, length}
use Rattle.law_walks.specs.pt_canon.TextWalk.{TextSurroundings}
use Rattle.law_walks.specs.kr_calls.PathTable.{PathUse, path_at}
use Rattle.law_walks.specs.kr_calls.declared.request.Request.{Request}
use Rattle.pt_tracer.specs.pt_args.Edits.{edit_of, longest_path}
use Rattle.pt_tracer.specs.pt_args.Points.{both_are_busy, one_is_busy}
use Rattle.pt_tracer.specs.pt_args.Purposes.{opens, swap_for}
use Rattle.pt_tracer.specs.pt_args.Walks.{walked}
use Rattle.pt_tracer.specs.pt_args.declared.reached.Reached.{Reached}
use Rattle.law_edits.specs.Requests.{AreOfPaths, NewText}
use Rattle.law_edits.specs.Shelves.{swap_edit}

-- a path of a call is walked, and this text takes its place
pub record IsReplaced (texts : TextSurroundings) (pid : ℕ) (r : Request) (k : ℕ) (u : PathUse) (reached : Reached) (text : List ℕ) : Type 0 where
  pub path : path_at r k ≡ Some u
  pub leads : walked texts pid (opens r) u ≡ Ok (Some reached)
  pub takes : swap_for texts.bindings reached.purpose reached.canon ≡ Ok text
  pub short : length text ≤ longest_path

abbrev pub new_text : PathUse → List ℕ → NewText
new_text u text = record { register = u.register; text = text }

-- the only path of a call, the first of two where the second stays, and both
pub record WalksAreSwapped : Type 0 where
  pub only : (texts : TextSurroundings) (pid sp : ℕ) (r : Request) (u : PathUse) (reached : Reached) (text : List ℕ) → IsReplaced texts pid r 0 u reached text → path_at r 1 ≡ None → one_is_busy texts.bindings r reached.canon ≡ false
      → edit_of texts pid sp true r ≡ swap_edit sp (new_text u text) None
  pub first : (texts : TextSurroundings) (pid sp : ℕ) (r : Request) (u v : PathUse) (reached : Reached) (text : List ℕ) → IsReplaced texts pid r 0 u reached text → path_at r 1 ≡ Some v → walked texts pid (opens r) v ≡ Ok None
      → edit_of texts pid sp true r ≡ swap_edit sp (new_text u text) None
  pub both : (texts : TextSurroundings) (pid sp : ℕ) (r : Request) (u v : PathUse) (reached other : Reached) (text more : List ℕ) → IsReplaced texts pid r 0 u reached text → IsReplaced texts pid r 1 v other more
      → both_are_busy texts.bindings r reached.canon other.canon ≡ false → edit_of texts pid sp true r ≡ swap_edit sp (new_text u text) (Some (new_text v more))
  -- and these texts are for the paths
  pub of_one : (r : Request) (u : PathUse) (text : List ℕ) → path_at r 0 ≡ Some u → AreOfPaths r (new_text u text) None
  pub of_both : (r : Request) (u v : PathUse) (text more : List ℕ) → path_at r 0 ≡ Some u → path_at r 1 ≡ Some v → AreOfPaths r (new_text u text) (Some (new_text v more))
