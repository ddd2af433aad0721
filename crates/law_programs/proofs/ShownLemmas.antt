-- A plain kernel plans of its own state what is planned in the host's own view of a state that is shown alike.
use Rattle.std.proofs.Common.{◌≡◌, ℕ, List, Option, Some, None, Result, Ok, Err, refl, ap, ◌∙◌}
use Rattle.std.specs.Bool.{if◌then◌else◌}
use Rattle.std.specs.Prelude.{take}
use Rattle.kr_first.specs.pr_base.declared.errno.Errno.{Errno}
use Rattle.kr_first.specs.pr_base.declared.errno.Errno.TheVariants.{E2BIG, EACCES}
use Rattle.kr_first.specs.pr_base.declared.path.WalkMode.TheVariants.{Look}
use Rattle.kr_first.specs.kr_calls.Expansion.{Expanded, Finding, bytes_with_ends, expanded, most_scripts}
use Rattle.kr_first.specs.kr_tree.declared.place.Place.{Place}
use Rattle.kr_first.specs.kr_view.Answers.{told}
use Rattle.kr_first.specs.kr_view.Component.{Surroundings}
use Rattle.kr_first.specs.kr_view.View.{plain}
use Rattle.kr_first.specs.kr_view.Walk.{PlaceTarget, place_walk}
use Rattle.kr_first.specs.kr_view.declared.target.Target.{Target}
use Rattle.kr_first.specs.kr_exec.Exec.{after_scripts, are_too_big, exec_plan, file_plan, plan_at, unless_broken}
use Rattle.kr_first.specs.kr_exec.Finding.{if_program, is_program_found, program_at}
use Rattle.kr_first.specs.kr_exec.Interpreters.{head_of, programs, told_program}
use Rattle.law_edits.specs.kr_model.HostView.{host_around_of}
use Rattle.law_edits.specs.kr_model.ProcessDirectory.{around_of}
use Rattle.law_edits.specs.kr_model.State.{Image, State}
use Rattle.law_edits.specs.kr_model.Walks.{and_then}
use Rattle.kr_first.specs.elf_read.Plans.{plan_of}
use Rattle.kr_first.specs.elf_read.Rules.{first_broken}
use Rattle.law_programs.specs.Planning.{planned}
use Rattle.law_programs.specs.Executing.{IsShownAlike}

module _ (s w : State ℕ Image) (caller : ℕ) (shown : IsShownAlike s w caller) where
  abbrev own : Surroundings
  own = around_of plain caller w

  abbrev host : Surroundings
  host = host_around_of s caller

  found-program : (o : Option (Place ℕ)) → is_program_found w.tree w.user o ≡ is_program_found s.tree s.user o
  found-program None = refl
  found-program (Some p) = shown.programs p.host

  if-same : (r : Result PlaceTarget Errno) → if_program w.tree w.user r ≡ if_program s.tree s.user r
  if-same (Err e) = refl
  if-same (Ok target) = ap (λ b. if b then Ok target else Err EACCES) (found-program target.found)

  pub program-same : (base : Place ℕ) (path : List ℕ) → program_at own base path ≡ program_at host base path
  program-same base path = ap (if_program w.tree w.user) (shown.walks base path) ∙ if-same (place_walk host Look base path).answer

  head-same : (o : Option (Place ℕ)) → head_of w.tree o ≡ head_of s.tree o
  head-same None = refl
  head-same (Some p) = ap (take 256) (shown.files p.host)

  programs-same : (base : Place ℕ) → programs own base ≡ programs host base
  programs-same base = λ i. record { find = λ path. told_program (program-same base path i); head = λ (target : Target ℕ). head-same target.found i }

  -- ---- plans

  module _ (args env : List (List ℕ)) where
    file-same : (target : Target ℕ) (o : Option (Place ℕ)) → file_plan plain w.tree target args env o ≡ file_plan plain s.tree target args env o
    file-same target None = refl
    file-same target (Some place) = λ i. unless_broken (first_broken (shown.files place.host i)) (record (plan_at plain s.tree target args env place) { plan = plan_of (shown.files place.host i) })

  scripts-same : (env : List (List ℕ)) (r : Result (Expanded (Target ℕ)) Errno) → after_scripts own env r ≡ after_scripts host env r
  scripts-same env (Ok x) = file-same x.args env x.file x.file.found
  scripts-same env (Err e) = refl

  plan-same : (base : Place ℕ) (target : Target ℕ) (path : List ℕ) (args env : List (List ℕ)) → exec_plan own base target path args env ≡ exec_plan host base target path args env
  plan-same base target path args env =
      ap (λ r. if are_too_big args env then Err E2BIG else r)
      (ap (λ (f : Finding (Target ℕ)). after_scripts own env (expanded f (bytes_with_ends env) most_scripts target path args)) (programs-same base)
      ∙ scripts-same env (expanded (programs host base) (bytes_with_ends env) most_scripts target path args))

  pub planned-same : (base : Place ℕ) (path : List ℕ) (args env : List (List ℕ)) → planned own base path args env ≡ planned host base path args env
  planned-same base path args env = ap (λ r. and_then r (λ target. exec_plan own base (told target) path args env)) (program-same base path) ∙ by (program_at host base path)
    where
      by : (r : Result PlaceTarget Errno) → and_then r (λ target. exec_plan own base (told target) path args env) ≡ and_then r (λ target. exec_plan host base (told target) path args env)
      by (Ok target) = plan-same base (told target) path args env
      by (Err e) = refl
