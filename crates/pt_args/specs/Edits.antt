-- What a tracer makes of a call before the plain kernel sees it, by what that kernel tells, the bindings and the tags.
use Rattle.std.specs.Prelude.{ℕ, Bool, false, nat_lt, List, [], ◌∷◌, length, map, Option, Some, None, Result, Ok, Err, if◌then◌else◌}
use Rattle.std.specs.List.{list_any}
use Rattle.pt_canon.specs.pr_base.declared.errno.Errno.{Errno}
use Rattle.pt_canon.specs.pr_base.declared.errno.Errno.TheVariants.{EFAULT, ENAMETOOLONG}
use Rattle.pt_canon.specs.TextWalk.{TextSurroundings}
use Rattle.kr_calls.specs.declared.request.Request.{Request}
use Rattle.kr_calls.specs.PathTable.{PathUse, path_at}
use Rattle.pt_args.specs.Plans.{plan_of}
use Rattle.pt_args.specs.Purposes.{opens}
use Rattle.pt_args.specs.Shelving.{address_below, shelved, with_zero}
use Rattle.pt_args.specs.Walks.{walked}
use Rattle.pt_args.specs.declared.edit.Edit.{Edit}
use Rattle.pt_args.specs.declared.edit.Edit.TheVariants.{Pass, Swap, Cancel}
use Rattle.pt_args.specs.declared.plan.Plan.{Plan}
use Rattle.pt_args.specs.declared.plan.Plan.TheVariants.{Passes, Swaps}
use Rattle.pt_args.specs.declared.plan.Swapped.{Swapped}
use Rattle.pt_args.specs.declared.reached.Reached.{Reached}

-- the swapped texts, the first before the second
abbrev pub both : Swapped → Option Swapped → List Swapped
both first None = first ∷ []
both first (Some second) = first ∷ second ∷ []

-- ---- the shelf

-- a path has at most that many bytes, and a zero
abbrev pub longest_path : ℕ
longest_path = 4095

abbrev pub is_long : Swapped → Bool
is_long s = nat_lt longest_path (length s.text)

abbrev pub is_second_long : Option Swapped → Bool
is_second_long None = false
is_second_long (Some s) = is_long s

abbrev pub item_of : Swapped → List ℕ
item_of s = with_zero s.text

-- each register with the address of its text
abbrev pub registers_at : ℕ → List Swapped → List (ℕ × ℕ)
registers_at top [] = []
registers_at top (s ∷ swaps) = (s.register, address_below top (length (item_of s))) ∷ registers_at (address_below top (length (item_of s))) swaps

abbrev pub put_edit : ℕ → List Swapped → Edit
put_edit sp swaps = Swap (registers_at sp swaps) (shelved sp (map item_of swaps))

-- ENAMETOOLONG before EFAULT, which is due where something is to be put and the shelf can't be used
abbrev pub shelve : ℕ → Bool → Swapped → Option Swapped → Edit
shelve sp usable first second =
    if list_any is_long (both first second) then Cancel ENAMETOOLONG
    else if usable then put_edit sp (both first second)
    else Cancel EFAULT

-- ---- the edit

abbrev pub edit_by : ℕ → Bool → Result Plan Errno → Edit
edit_by sp usable (Ok Passes) = Pass
edit_by sp usable (Ok (Swaps first second)) = shelve sp usable first second
edit_by sp usable (Err e) = Cancel e

-- of a process's call, by its stack pointer and whether the shelf below that may be read and written
abbrev pub edit_of : TextSurroundings → ℕ → ℕ → Bool → Request → Edit
edit_of texts pid sp usable request = edit_by sp usable (plan_of texts pid request)

-- ---- where the first path led

abbrev pub reached_by : Result (Option Reached) Errno → Option Reached
reached_by (Ok o) = o
reached_by (Err e) = None

abbrev pub first_reached : TextSurroundings → ℕ → Bool → Option PathUse → Option Reached
first_reached texts pid opening None = None
first_reached texts pid opening (Some u) = reached_by (walked texts pid opening u)

-- none where there is no path, where it stays as it is, and where its walk fails
abbrev pub first_of : TextSurroundings → ℕ → Request → Option Reached
first_of texts pid request = first_reached texts pid (opens request) (path_at request 0)
