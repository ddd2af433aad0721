-- Scripts lead to the same programs on both machines.
use Rattle.std.proofs.Common.{◌≡◌, ◌≤◌, ℕ, zero, suc, Bool, true, false, List, [], ◌∷◌, Option, Some, None, Result, Ok, Err, refl, sym, subst, arith}
use Rattle.std.specs.Bool.{if◌then◌else◌}
use Rattle.pr_start.specs.pr_base.declared.errno.Errno.{Errno}
use Rattle.pr_start.specs.pr_base.declared.errno.Errno.TheVariants.{E2BIG, ELOOP, ENOEXEC}
use Rattle.pr_start.specs.pt_script.Programs as texts
use Rattle.pr_start.specs.pt_script.declared.program.Program.{Program}
use Rattle.pr_start.specs.kr_calls.Expansion.{Finding, by_interpreter, by_line, expanded, is_script, is_too_big, most_scripts, new_args, runs}
use Rattle.pr_start.specs.kr_calls.Scripts.{script_of}
use Rattle.pr_start.specs.kr_exec.Finding.{program_walk}
use Rattle.pr_start.specs.kr_exec.Interpreters.{head_of, if_args_fit, interpreters, paths_behind, paths_by_line, programs, walks_reach}
use Rattle.law_programs.specs.kr_first.Starting.{around}
use Rattle.pr_start.specs.kr_tree.declared.place.Place.{Place}
use Rattle.pr_start.specs.kr_view.Component.{Surroundings}
use Rattle.pr_start.specs.kr_view.Reach.{reach_after}
use Rattle.pr_start.specs.kr_view.declared.target.Reach.{Reach}
use Rattle.pr_start.specs.kr_view.declared.target.Target.{Target}
use Rattle.pr_start.proofs.kr_view.ReachLemmas.{covers_after}
use Rattle.pr_start.specs.pt_first.Laws.{first_texts}
use Rattle.law_starts.specs.Programs.{IsSameProgram}
use Rattle.law_starts.specs.Scripts.{ScriptsAgree}
use Rattle.law_starts.proofs.ProgramLemmas.{programs-agree}
use Rattle.law_programs.specs.Ending.{ResultsAlike}
use Rattle.law_programs.proofs.EndLemmas.{FindsAlike, IsShort, each-mapped, scripts-end, walks-short}

pub scripts-agree : ScriptsAgree
scripts-agree table tree user tags base working most env_bytes target program path args r set at same within =
    let one = programs (around table tree user) base in
    let other = texts.programs (first_texts table tree user tags) (Some working) in
    let R : Target ℕ → Program → Type 0 = IsSameProgram table tree user most in
    let paths = interpreters one env_bytes most_scripts target path args in
    let finds = each-mapped (IsShort (around table tree user) base most) (FindsAlike one other R heads env_bytes) (λ p s. programs-agree table tree user tags base working p most s.0 set at s.1) paths (walks-short (around table tree user) base most paths r within) in
    scripts-end one other R heads env_bytes most_scripts target program path args same finds
  where
    heads : (f : Target ℕ) (g : Program) → IsSameProgram table tree user most f g → g.head ≡ head_of tree f.found
    heads f g same = same.head
