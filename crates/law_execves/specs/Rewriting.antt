-- What a tracer makes of the path of execve(2), before it reads the lists.
use Rattle.std.specs.Prelude.{◌≡◌, ◌≢◌, ℕ, Bool, List, [], None, Result, Ok, Err}
use Rattle.law_programs.specs.pr_base.declared.errno.Errno.{Errno}
use Rattle.law_stops.specs.pt_args.Bases.{working_text}
use Rattle.law_stops.specs.pt_args.Edits.{edit_of, shelve}
use Rattle.law_stops.specs.pt_args.declared.edit.Edit.{Edit}
use Rattle.law_stops.specs.pt_args.declared.edit.Edit.TheVariants.{Cancel, Pass}
use Rattle.law_plans.specs.pt_canon.TextWalk.{TextSurroundings}
use Rattle.law_plans.specs.pt_canon.declared.canon.Canon.{Canon}
use Rattle.law_stops.specs.kr_calls.declared.request.Request.TheVariants as call
use Rattle.law_programs.specs.Refusing.{canon_along}

-- the host text of where it leads takes its place, or the call is cancelled with the error of the walk
abbrev pub edit_along : ℕ → Bool → Result Canon Errno → Edit
edit_along sp usable (Ok canon) = shelve sp usable (record { register = 10; text = canon.host }) None
edit_along sp usable (Err e) = Cancel e

pub record ExecvesAreRewritten : Type 0 where
  pub some : (texts : TextSurroundings) (pid sp : ℕ) (usable : Bool) (path : List ℕ) (args env : ℕ) → path ≢ [] → edit_of texts pid sp usable (call.Execve path args env) ≡ edit_along sp usable (canon_along texts (working_text texts pid) path)
  -- an empty one stays
  pub none : (texts : TextSurroundings) (pid sp : ℕ) (usable : Bool) (args env : ℕ) → edit_of texts pid sp usable (call.Execve [] args env) ≡ Pass
