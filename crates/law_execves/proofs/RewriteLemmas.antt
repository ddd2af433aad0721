-- The path of execve(2) as a tracer rewrites it.
use Rattle.std.proofs.Common.{◌≡◌, ◌≢◌, ℕ, Bool, true, false, List, [], ◌∷◌, Option, Some, None, Result, Ok, Err, refl}
use Rattle.std.specs.Bool.{if◌then◌else◌}
use Rattle.law_programs.specs.pr_base.Paths.{is_absolute, slash}
use Rattle.law_programs.specs.pr_base.declared.errno.Errno.{Errno}
use Rattle.law_stops.specs.pt_args.Bases as bases
use Rattle.law_stops.specs.pt_args.Bases.{working_text}
use Rattle.law_stops.specs.pt_args.Edits.{edit_by, edit_of}
use Rattle.law_stops.specs.pt_args.Plans.{plan_from}
use Rattle.law_stops.specs.pt_args.Walks.{and_then, reached_at, walked_from}
use Rattle.law_plans.specs.pt_canon.TextWalk.{TextSurroundings}
use Rattle.law_plans.specs.pt_canon.declared.canon.Canon.{Canon}
use Rattle.law_stops.specs.pt_script.Programs as programs
use Rattle.law_stops.specs.pt_script.Programs.{canon_from}
use Rattle.law_programs.specs.pr_base.declared.path.WalkMode.TheVariants.{Look}
use Rattle.law_stops.specs.kr_calls.PathTable.{PathUse, working_directory}
use Rattle.law_stops.specs.kr_calls.declared.request.Request.{Request}
use Rattle.law_stops.specs.kr_calls.declared.request.Request.TheVariants as call
use Rattle.law_programs.specs.Refusing.{canon_along}
use Rattle.law_execves.specs.Rewriting.{ExecvesAreRewritten, edit_along}

module _ (texts : TextSurroundings) (pid sp : ℕ) (usable : Bool) (path : List ℕ) (args env : ℕ) where
  abbrev r : Request
  r = call.Execve path args env

  abbrev u : PathUse
  u = record { dirfd = working_directory; text = path; mode = Look; register = 10 }

  by-canon : (x : Result Canon Errno) → edit_by sp usable (and_then (and_then x (λ canon. Ok (Some (reached_at u false canon)))) (plan_from texts pid r)) ≡ edit_along sp usable x
  by-canon (Ok canon) = refl
  by-canon (Err e) = refl

  by-base : (absolute : Bool) (working : Option (List ℕ))
      → edit_by sp usable (and_then (and_then (if absolute then Ok (Some (slash ∷ [])) else bases.or_lost working) (walked_from texts false u)) (plan_from texts pid r))
      ≡ edit_along sp usable (and_then (if absolute then Ok (slash ∷ []) else programs.or_lost working) (canon_from texts path))
  by-base true working = by-canon (canon_from texts path (slash ∷ []))
  by-base false (Some text) = by-canon (canon_from texts path text)
  by-base false None = refl

rewritten : (texts : TextSurroundings) (pid sp : ℕ) (usable : Bool) (path : List ℕ) (args env : ℕ) → path ≢ [] → edit_of texts pid sp usable (call.Execve path args env) ≡ edit_along sp usable (canon_along texts (working_text texts pid) path)
rewritten texts pid sp usable [] args env some = absurd (some refl)
rewritten texts pid sp usable (b ∷ path) args env some = by-base texts pid sp usable (b ∷ path) args env (is_absolute (b ∷ path)) (working_text texts pid)

pub execves_are_rewritten : ExecvesAreRewritten
execves_are_rewritten = record { some = rewritten; none = λ texts pid sp usable args env. refl }
