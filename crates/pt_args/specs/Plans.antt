-- What becomes of the paths of a call, or the error that cancels it: the walks, the first path before the second, then the
-- texts in place of the paths, then the mount points.
use Rattle.std.specs.Prelude.{ℕ, Bool, true, false, List, Option, Some, None, Result, Ok, Err}
use Rattle.pt_canon.specs.pr_base.MountText.{MountText}
use Rattle.pt_canon.specs.pr_base.declared.errno.Errno.{Errno}
use Rattle.pt_canon.specs.pr_base.declared.errno.Errno.TheVariants.{EBUSY}
use Rattle.pt_canon.specs.TextWalk.{TextSurroundings}
use Rattle.kr_calls.specs.PathTable.{PathUse, path_at}
use Rattle.kr_calls.specs.declared.request.Request.{Request}
use Rattle.pt_args.specs.Points.{one_is_busy, both_are_busy}
use Rattle.pt_args.specs.Purposes.{opens, swap_for}
use Rattle.pt_args.specs.Walks.{and_then, walked, walked_unmet}
use Rattle.pt_args.specs.declared.plan.Plan.{Plan}
use Rattle.pt_args.specs.declared.plan.Plan.TheVariants.{Passes, Swaps}
use Rattle.pt_args.specs.declared.plan.Swapped.{Swapped}
use Rattle.pt_args.specs.declared.reached.Reached.{Reached}

-- what a path is swapped for
abbrev pub swap_of : List MountText → Reached → Result Swapped Errno
swap_of bindings reached =
    and_then (swap_for bindings reached.purpose reached.canon) (λ text. Ok (record { register = reached.register; text = text }))

abbrev pub unless_busy : Bool → Plan → Result Plan Errno
unless_busy true plan = Err EBUSY
unless_busy false plan = Ok plan

-- the only path of a call
abbrev pub plan_one : List MountText → Request → Reached → Result Plan Errno
plan_one bindings request only =
    and_then (swap_of bindings only) (λ s. unless_busy (one_is_busy bindings request only.canon) (Swaps s None))

-- the first path, where the second stays as it is: the plain kernel refuses the call, so no mount point is at stake
abbrev pub plan_first : List MountText → Reached → Result Plan Errno
plan_first bindings first = and_then (swap_of bindings first) (λ s. Ok (Swaps s None))

abbrev pub plan_both : List MountText → Request → Reached → Reached → Result Plan Errno
plan_both bindings request old new =
    and_then (swap_of bindings old)
    (λ s. and_then (swap_of bindings new) (λ t. unless_busy (both_are_busy bindings request old.canon new.canon) (Swaps s (Some t))))

-- behind the walk of a second path
abbrev pub plan_behind : List MountText → Request → Reached → Option Reached → Result Plan Errno
plan_behind bindings request first None = plan_first bindings first
plan_behind bindings request first (Some second) = plan_both bindings request first second

abbrev pub second_walked : TextSurroundings → ℕ → Request → Reached → Option PathUse → Result Plan Errno
second_walked texts pid request first None = plan_one texts.bindings request first
second_walked texts pid request first (Some u) = and_then (walked texts pid (opens request) u) (plan_behind texts.bindings request first)

abbrev pub plan_second : TextSurroundings → ℕ → Request → Reached → Result Plan Errno
plan_second texts pid request first = second_walked texts pid request first (path_at request 1)

-- and whether the process directory is unmet still, by whether it was before
abbrev pub unmet_on_second : TextSurroundings → ℕ → Option PathUse → Bool → Bool
unmet_on_second texts pid None unmet = unmet
unmet_on_second texts pid (Some u) unmet = walked_unmet texts pid u unmet

abbrev pub second_unmet : TextSurroundings → ℕ → Request → Bool → Bool
second_unmet texts pid request unmet = unmet_on_second texts pid (path_at request 1) unmet

-- behind the walk of the first path: where it stays as it is, the second one does
abbrev pub plan_from : TextSurroundings → ℕ → Request → Option Reached → Result Plan Errno
plan_from texts pid request None = Ok Passes
plan_from texts pid request (Some first) = plan_second texts pid request first

abbrev pub first_walked : TextSurroundings → ℕ → Request → Option PathUse → Result Plan Errno
first_walked texts pid request None = Ok Passes
first_walked texts pid request (Some u) = and_then (walked texts pid (opens request) u) (plan_from texts pid request)

abbrev pub plan_of : TextSurroundings → ℕ → Request → Result Plan Errno
plan_of texts pid request = first_walked texts pid request (path_at request 0)

-- a second path is walked where the first one led somewhere
abbrev pub unmet_behind_first : TextSurroundings → ℕ → Request → Result (Option Reached) Errno → Bool → Bool
unmet_behind_first texts pid request (Ok None) unmet = unmet
unmet_behind_first texts pid request (Ok (Some first)) unmet = second_unmet texts pid request unmet
unmet_behind_first texts pid request (Err e) unmet = unmet

abbrev pub unmet_on_first : TextSurroundings → ℕ → Request → Option PathUse → Bool → Bool
unmet_on_first texts pid request None unmet = unmet
unmet_on_first texts pid request (Some u) unmet = unmet_behind_first texts pid request (walked texts pid (opens request) u) (walked_unmet texts pid u unmet)

abbrev pub plan_unmet : TextSurroundings → ℕ → Request → Bool → Bool
plan_unmet texts pid request unmet = unmet_on_first texts pid request (path_at request 0) unmet
