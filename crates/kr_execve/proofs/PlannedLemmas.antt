-- What is known of a file that was planned: it was found as all interpreters are, and it breaks no rule of ELF files.
use Rattle.std.proofs.Common.{◌≡◌, ℕ, zero, suc, Bool, true, false, cond, List, Option, Some, None, refl, subst}
use Rattle.std.specs.Prelude.{Result, Ok, Err}
use Rattle.elf_load.specs.pr_base.declared.errno.Errno.{Errno}
use Rattle.elf_load.specs.pr_base.declared.errno.Errno.TheVariants.{E2BIG, ELOOP}
use Rattle.elf_load.specs.elf_read.Plans.{plan_of}
use Rattle.elf_load.specs.elf_read.Rules.{first_broken}
use Rattle.elf_load.specs.elf_read.declared.fault.ElfFault.{ElfFault}
use Rattle.kr_exec.specs.kr_tree.declared.place.Place.{Place}
use Rattle.kr_exec.specs.kr_tree.Tree.{Tree}
use Rattle.kr_exec.specs.kr_view.declared.target.Target.{Target}
use Rattle.kr_exec.specs.kr_view.Component.{Surroundings}
use Rattle.kr_exec.specs.kr_view.View.{Row}
use Rattle.kr_exec.specs.kr_calls.Expansion.{Expanded, Finding, Onward, by_interpreter, by_line, bytes_with_ends, expanded, is_script, is_too_big, most_scripts, new_args, runs}
use Rattle.kr_exec.specs.kr_calls.Scripts.{script_of}
use Rattle.kr_exec.specs.Exec.{after_scripts, are_too_big, entry_of, exec_plan, file_plan, plan_at, target_plan, unless_broken}
use Rattle.kr_exec.specs.Interpreters.{bytes_at, programs}
use Rattle.kr_exec.specs.declared.plan.ExecPlan.{ExecPlan}

-- ---- scripts

module _ {F : Type 0} (P : F → Type 0) (x : Expanded F) (again : Onward F) (goes : (found : F) (path : List ℕ) (args : List (List ℕ)) → P found → again found path args ≡ Ok x → P x.file) (env_bytes : ℕ) where
  fitting : (b : Bool) (found : F) (path : List ℕ) (args : List (List ℕ)) → P found → cond b (Err E2BIG) (again found path args) ≡ Ok x → P x.file
  fitting true found path args good e = absurd cc
  fitting false found path args good e = goes found path args good e

  by-interpreter : (r : Result F Errno) (path : List ℕ) (args : List (List ℕ)) → ((found : F) → r ≡ Ok found → P found) → by_interpreter again env_bytes path args r ≡ Ok x → P x.file
  by-interpreter (Err e) path args good is = absurd cc
  by-interpreter (Ok found) path args good is = fitting (is_too_big env_bytes args) found path args (good found refl) is

  by-line : (finding : Finding F) (path : List ℕ) (args : List (List ℕ)) (o : Option (List ℕ × List ℕ)) → ((found : F) (line : List ℕ × List ℕ) → o ≡ Some line → finding.find line.0 ≡ Ok found → P found)
      → by_line finding again env_bytes path args o ≡ Ok x → P x.file
  by-line finding path args None good is = absurd cc
  by-line finding path args (Some line) good is = by-interpreter (finding.find line.0) line.0 (new_args line.0 line.1 path args) (λ found finds. good found line refl finds) is

-- the file itself runs
itself : {F : Type 0} (P : F → Type 0) (left : ℕ) (file : F) (args : List (List ℕ)) (x : Expanded F) → P file → runs left file args ≡ Ok x → P x.file
itself {F} P left file args x own e = by (runs left file args) refl e
  where
    by : (r : Result (Expanded F) Errno) → runs left file args ≡ r → r ≡ Ok x → P x.file
    by (Err why) is e = absurd cc
    by (Ok y) is e =
        let same : y ≡ x = cc in
        let file_is : file ≡ y.file = cc in
        subst (λ (x : Expanded F). P x.file) same (subst P file_is own)

-- what holds of a file, and of each interpreter that the line of such a file names, holds of the file that runs in the end
module _ {F : Type 0} (finding : Finding F) (P : F → Type 0) (named : (file found : F) (line : List ℕ × List ℕ) → P file → script_of (finding.head file) ≡ Some line → finding.find line.0 ≡ Ok found → P found) (env_bytes : ℕ) where
  runs-in-the-end : (left : ℕ) (file : F) (path : List ℕ) (args : List (List ℕ)) (x : Expanded F) → P file → expanded finding env_bytes left file path args ≡ Ok x → P x.file
  unfolding expanded
  runs-in-the-end zero file path args x own e = by (is_script (finding.head file)) e
    where
      by : (b : Bool) → cond b (Err ELOOP) (runs zero file args) ≡ Ok x → P x.file
      by true e = absurd cc
      by false e = itself P zero file args x own e
  runs-in-the-end (suc left) file path args x own e = by (is_script (finding.head file)) (λ found path args good e. runs-in-the-end left found path args x good e) e
    where
      by : (b : Bool) → ((found : F) (path : List ℕ) (args : List (List ℕ)) → P found → expanded finding env_bytes left found path args ≡ Ok x → P x.file)
          → cond b (by_line finding (expanded finding env_bytes left) env_bytes path args (script_of (finding.head file))) (runs (suc left) file args) ≡ Ok x → P x.file
      by true goes e = by-line P x (expanded finding env_bytes left) goes env_bytes finding path args (script_of (finding.head file)) (λ found line is finds. named file found line own is finds) e
      by false goes e = itself P (suc left) file args x own e

-- ---- the plan

-- of what was found last
pub record IsPlannedOf (table : List Row) (tree : Tree) (target : Target ℕ) (plan : ExecPlan ℕ) : Type 0 where
  pub found : target.found ≡ Some plan.place
  pub accepted : first_broken (bytes_at tree plan.place.host) ≡ None
  pub read : plan.plan ≡ plan_of (bytes_at tree plan.place.host)
  pub name : plan.name ≡ (entry_of table target plan.place).1

target-planned : (table : List Row) (tree : Tree) (env : List (List ℕ)) (target : Target ℕ) (args : List (List ℕ)) (plan : ExecPlan ℕ) → target_plan table tree env target args ≡ Ok plan → IsPlannedOf table tree target plan
target-planned table tree env target args plan e = by target.found refl e
  where
    at : (place : Place ℕ) → target.found ≡ Some place → (o : Option ElfFault) → first_broken (bytes_at tree place.host) ≡ o → unless_broken o (plan_at table tree target args env place) ≡ Ok plan → IsPlannedOf table tree target plan
    at place found (Some why) broken e = absurd cc
    at place found None broken e =
        let same : plan_at table tree target args env place ≡ plan = cc in
        subst (λ (p : ExecPlan ℕ). IsPlannedOf table tree target p) same (record { found = found; accepted = broken; read = refl; name = refl })

    by : (o : Option (Place ℕ)) → target.found ≡ o → file_plan table tree target args env o ≡ Ok plan → IsPlannedOf table tree target plan
    by None found e = absurd cc
    by (Some place) found e = at place found (first_broken (bytes_at tree place.host)) refl e

module _ (around : Surroundings) (base : Place ℕ) (P : Target ℕ → Type 0) (named : (file found : Target ℕ) (line : List ℕ × List ℕ) → P file → script_of ((programs around base).head file) ≡ Some line → (programs around base).find line.0 ≡ Ok found → P found) where
  -- a plan is of a file that was found so
  pub planned-of : (found : Target ℕ) (path : List ℕ) (args env : List (List ℕ)) (plan : ExecPlan ℕ) → P found → exec_plan around base found path args env ≡ Ok plan → (target : Target ℕ) × P target × IsPlannedOf around.space.table around.space.tree target plan
  planned-of found path args env plan own e = fits (are_too_big args env) e
    where
      ended : (r : Result (Expanded (Target ℕ)) Errno) → expanded (programs around base) (bytes_with_ends env) most_scripts found path args ≡ r → after_scripts around env r ≡ Ok plan
          → (target : Target ℕ) × P target × IsPlannedOf around.space.table around.space.tree target plan
      ended (Err why) is e = absurd cc
      ended (Ok x) is e = (x.file, runs-in-the-end (programs around base) P named (bytes_with_ends env) most_scripts found path args x own is, target-planned around.space.table around.space.tree env x.file x.args plan e)

      fits : (b : Bool) → cond b (Err E2BIG) (after_scripts around env (expanded (programs around base) (bytes_with_ends env) most_scripts found path args)) ≡ Ok plan
          → (target : Target ℕ) × P target × IsPlannedOf around.space.table around.space.tree target plan
      fits true e = absurd cc
      fits false e = ended (expanded (programs around base) (bytes_with_ends env) most_scripts found path args) refl e
