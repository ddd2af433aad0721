-- The plain kernel plans, of what a tracer hands over, what a kernel with mounts plans.
use Rattle.std.proofs.Common.{◌≡◌, ℕ, zero, suc, ◌-◌, Bool, true, false, ◌||◌, cond, List, Option, Some, None, Result, Ok, Err, nat_lt, length, refl, sym, ap, subst, ◌∙◌, []}
use Rattle.std.specs.Bool.{if◌then◌else◌}
use Rattle.std.specs.Option.{option_map_or}
use Rattle.kr_first.specs.pr_base.declared.errno.Errno.{Errno}
use Rattle.kr_first.specs.pr_base.declared.errno.Errno.TheVariants.{EACCES, E2BIG, ELOOP, ENOEXEC}
use Rattle.kr_first.specs.pr_base.declared.path.WalkMode.TheVariants.{Look}
use Rattle.kr_first.specs.pt_bind.Tags.{TagTable}
use Rattle.law_edits.specs.pt_script.Expanding.{shown_result}
use Rattle.law_edits.specs.pt_script.Programs as tracer
use Rattle.law_edits.specs.pt_script.declared.program.Program.{Program}
use Rattle.law_edits.specs.pt_args.Walks as texts
use Rattle.kr_first.specs.elf_read.Rules.{first_broken}
use Rattle.kr_first.specs.elf_read.declared.fault.ElfFault.{ElfFault}
use Rattle.kr_first.specs.kr_calls.Expansion.{Expanded, Finding, Onward, by_interpreter, by_line, bytes_with_ends, expanded, is_script, is_too_big, most_scripts, new_args, runs}
use Rattle.kr_first.specs.kr_calls.Scripts.{script_of}
use Rattle.kr_first.specs.kr_tree.declared.place.Host.{Host}
use Rattle.kr_first.specs.kr_tree.declared.place.Host.TheVariants.{Node, Proc}
use Rattle.kr_first.specs.kr_tree.declared.place.Place.{Place}
use Rattle.kr_first.specs.kr_view.Answers.{told}
use Rattle.kr_first.specs.kr_view.Component.{Surroundings, is_directory_at}
use Rattle.kr_first.specs.kr_view.HostReach.{host_place}
use Rattle.kr_first.specs.kr_view.View.{Row, plain, source}
use Rattle.kr_first.specs.kr_view.Walk.{PlaceTarget}
use Rattle.kr_first.specs.kr_view.declared.target.Target.{Target}
use Rattle.kr_first.specs.kr_exec.Exec.{after_scripts, are_too_big, entry_of, exec_plan, file_plan, inode_at, plan_at, target_plan, unless_broken}
use Rattle.kr_first.specs.kr_exec.Finding.{if_program, is_program_found, program_at}
use Rattle.kr_first.specs.kr_exec.Interpreters.{bytes_at, head_of}
use Rattle.kr_first.specs.kr_exec.Interpreters as kernel
use Rattle.kr_first.specs.kr_exec.declared.plan.ExecPlan.{ExecPlan}
use Rattle.kr_first.proofs.kr_exec.RunningLemmas.{program_ends}
use Rattle.law_edits.specs.kr_model.HostView.{host_around_of}
use Rattle.law_edits.specs.kr_model.ProcessDirectory.{around_of}
use Rattle.law_edits.specs.kr_model.State.{State, inode_of}
use Rattle.law_edits.specs.kr_model.Walks.{and_then}
use Rattle.law_edits.specs.law_walks.Handed.{LeadsToFound}
use Rattle.law_edits.specs.law_walks.Scene.{IsMatched}
use Rattle.law_edits.specs.law_walks.States.{IsInUse, remembered_of}
use Rattle.law_programs.specs.Expanding.{EndsAlike, ExpandedAlike, IsSameTold, both_fail, both_run}
use Rattle.law_programs.specs.Finding.{IsSameProgram, ProgramsAlike, WorksAt, no_program, one_program, scene_here, space_here, texts_here}
use Rattle.law_programs.specs.Planning.{IsSamePlan, PlannedAlike, PlansAlike, ProgramsArePlannedAlike, no_plan, one_plan, planned}
use Rattle.law_programs.proofs.ExpandLemmas.{expansions_agree}
use Rattle.law_programs.proofs.FindLemmas.{no-program, programs_are_found_alike}

either : (a b : Bool) → (a || b) ≡ false → (a ≡ false) × (b ≡ false)
either true b e = absurd cc
either false b e = (refl, e)

-- ---- what runs in the end

-- it is no script, and its arguments are within the limits
module _ {F : Type 0} (one : Finding F) (env_bytes : ℕ) where
  abbrev pub EndsWell : Result (Expanded F) Errno → Type 0
  EndsWell r = (x : Expanded F) → r ≡ Ok x → (is_script (one.head x.file) ≡ false) × (is_too_big env_bytes x.args ≡ false)

  refused-well : (e : Errno) → EndsWell (Err e)
  refused-well e x is = absurd cc

  runs-well : (left : ℕ) (f : F) (args : List (List ℕ)) → is_script (one.head f) ≡ false → is_too_big env_bytes args ≡ false → EndsWell (runs left f args)
  runs-well left f args plain fits x is = let same : record { file = f; args = args; scripts = most_scripts - left } ≡ x = cc in subst (λ (x : Expanded F). (is_script (one.head x.file) ≡ false) × (is_too_big env_bytes x.args ≡ false)) same (plain, fits)

  module _ (again : Onward F) (later : (f : F) (path : List ℕ) (args : List (List ℕ)) → is_too_big env_bytes args ≡ false → EndsWell (again f path args)) where
    with-well : (path : List ℕ) (args : List (List ℕ)) (f : F) (b : Bool) → is_too_big env_bytes args ≡ b → EndsWell (cond b (Err E2BIG) (again f path args))
    with-well path args f true big = refused-well E2BIG
    with-well path args f false fits = later f path args fits

    interpreter-well : (path : List ℕ) (args : List (List ℕ)) (r : Result F Errno) → EndsWell (by_interpreter again env_bytes path args r)
    interpreter-well path args (Err e) = refused-well e
    interpreter-well path args (Ok f) = with-well path args f (is_too_big env_bytes args) refl

    line-well : (path : List ℕ) (args : List (List ℕ)) (line : Option (List ℕ × List ℕ)) → EndsWell (by_line one again env_bytes path args line)
    line-well path args None = refused-well ENOEXEC
    line-well path args (Some line) = interpreter-well line.0 (new_args line.0 line.1 path args) (one.find line.0)

  pub expanded-well : (left : ℕ) (f : F) (path : List ℕ) (args : List (List ℕ)) → is_too_big env_bytes args ≡ false → EndsWell (expanded one env_bytes left f path args)
  unfolding expanded
  expanded-well zero f path args fits = by (is_script (one.head f)) refl
    where
      by : (b : Bool) → is_script (one.head f) ≡ b → EndsWell (cond b (Err ELOOP) (runs zero f args))
      by true is = refused-well ELOOP
      by false is = runs-well zero f args is fits
  expanded-well (suc left) f path args fits = by (is_script (one.head f)) refl (line-well (expanded one env_bytes left) (expanded-well left) path args (script_of (one.head f)))
    where
      by : (b : Bool) → is_script (one.head f) ≡ b → EndsWell (by_line one (expanded one env_bytes left) env_bytes path args (script_of (one.head f)))
          → EndsWell (cond b (by_line one (expanded one env_bytes left) env_bytes path args (script_of (one.head f))) (runs (suc left) f args))
      by true is later = later
      by false is later = runs-well (suc left) f args is fits

-- ---- one program

module _ {X : Type 0} (table : List Row) (s : State ℕ X) (caller : ℕ) (tags : TagTable) where
  abbrev around : Surroundings
  around = around_of table caller s

  abbrev host : Surroundings
  host = host_around_of s caller

  module _ (target : PlaceTarget) (program : Program) (is : IsSameProgram table s caller tags target program) (other : Place ℕ) (args env : List (List ℕ)) where
    abbrev leads : LeadsToFound (scene_here table s caller tags) Look other target is.place is.text
    leads = is.handed other

    abbrev on_host : PlaceTarget
    on_host = leads.target

    -- the plain kernel finds it by its host text
    found-on-host : program_at host other program.host ≡ Ok on_host
    found-on-host =
        ap (program_at host other) is.host
        ∙ ap (if_program s.tree s.user) leads.answer
        ∙ ap (λ o. if is_program_found s.tree s.user o then Ok on_host else Err EACCES) leads.found
        ∙ ap (λ b. if b then Ok on_host else Err EACCES) is.runs

    same-head : head_of s.tree on_host.found ≡ program.head
    same-head = ap (head_of s.tree) leads.found ∙ sym (ap (head_of s.tree) is.found) ∙ sym is.head

    -- and plans it by itself
    planned-on-host : is_script program.head ≡ false → are_too_big args env ≡ false → planned host other program.host args env ≡ target_plan plain s.tree env (told on_host) args
    planned-on-host plain-file fits =
        ap (λ r. and_then r (λ t. exec_plan host other (told t) program.host args env)) found-on-host
        ∙ ap (λ b. if b then Err E2BIG else after_scripts host env (expanded (kernel.programs host other) (bytes_with_ends env) most_scripts (told on_host) program.host args)) fits
        ∙ ap (after_scripts host env) (program_ends (kernel.programs host other) (bytes_with_ends env) most_scripts (record { file = told on_host; path = program.host; args = args }) (ap is_script same-head ∙ plain-file))

    no-directory : is_directory_at s.tree is.place.host ≡ false
    no-directory = by (is_directory_at s.tree is.place.host) refl
      where
        by : (b : Bool) → is_directory_at s.tree is.place.host ≡ b → b ≡ false
        by false e = refl
        by true e = absurd (differ (sym is.runs ∙ no-program s.tree s.user is.place.host e))
          where
            differ : true ≡ false → ⊥
            differ e = cc

    -- the entry that is remembered
    entry-by : (o : Option (ℕ × List ℕ)) → source table is.place.mount ≡ o
        → option_map_or (λ e. e) o (inode_at target.dir.host, target.name) ≡ (inode_at on_host.dir.host, on_host.name)
    entry-by None none = let e = leads.entry no-directory none in λ i. (inode_at (sym e.0 i).host, sym e.1 i)
    entry-by (Some at) is-at = let e = leads.settled at no-directory is-at in λ i. (inode_at (sym e.0 i).host, sym e.1 i)

    same-entry : entry_of table (told target) is.place ≡ (inode_at on_host.dir.host, on_host.name)
    same-entry = entry-by (source table is.place.mount) refl

    inode-same : (x : Host) → inode_of x ≡ inode_at x
    inode-same (Node i) = refl
    inode-same (Proc i at) = refl

    remembered-same : remembered_of table s.tree target is.place ≡ entry_of table (told target) is.place
    remembered-same =
        ap (λ b. if b then (0, []) else option_map_or (λ e. e) (source table is.place.mount) (inode_of target.dir.host, target.name)) no-directory
        ∙ ap (λ n. option_map_or (λ e. e) (source table is.place.mount) (n, target.name)) (inode-same target.dir.host)

    abbrev Alike : Result (ExecPlan ℕ) Errno → Result (ExecPlan ℕ) Errno → Type 0
    Alike = PlansAlike table s caller tags program.index

    same-plan : IsSamePlan (plan_at table s.tree (told target) args env is.place) (plan_at plain s.tree (told on_host) args env (host_place is.place.host))
    same-plan = record {
      file = refl;
      host = refl;
      mount = refl;
      dir = ap (λ (e : ℕ × List ℕ). e.0) same-entry;
      name = ap (λ (e : ℕ × List ℕ). e.1) same-entry;
      plan = refl;
      args = refl;
      env = refl;
    }

    used : IsInUse (space_here table s caller tags) is.place (entry_of table (told target) is.place).0 (entry_of table (told target) is.place).1 program.index
    used = subst (λ (e : ℕ × List ℕ). IsInUse (space_here table s caller tags) is.place e.0 e.1 program.index) remembered-same is.in_use

    unless-alike : (o : Option ElfFault) → Alike (unless_broken o (plan_at table s.tree (told target) args env is.place)) (unless_broken o (plan_at plain s.tree (told on_host) args env (host_place is.place.host)))
    unless-alike None = one_plan same-plan used
    unless-alike (Some fault) = no_plan ENOEXEC

    pub target-planned : Alike (target_plan table s.tree env (told target) args) (target_plan plain s.tree env (told on_host) args)
    target-planned =
        subst (λ o. Alike (file_plan table s.tree (told target) args env o) (file_plan plain s.tree (told on_host) args env on_host.found)) (sym is.found)
        (subst (λ o. Alike (file_plan table s.tree (told target) args env (Some is.place)) (file_plan plain s.tree (told on_host) args env o)) (sym leads.found)
        (unless-alike (first_broken (bytes_at s.tree is.place.host))))

  -- ---- a path

  module _ (base : Place ℕ) (working : Option (List ℕ)) (path : List ℕ) (args env : List (List ℕ)) (m : IsMatched (scene_here table s caller tags)) (works : WorksAt table s caller tags base working) (fits : are_too_big args env ≡ false) where
    abbrev many : Bool
    many = nat_lt 4096 (length env)

    few : many ≡ false
    few = (either many (is_too_big (bytes_with_ends env) args) fits).0

    fit : is_too_big (bytes_with_ends env) args ≡ false
    fit = (either many (is_too_big (bytes_with_ends env) args) fits).1

    abbrev Comes : Result (ExecPlan ℕ) Errno → Result (Expanded Program) Errno → Type 0
    Comes plan ended = PlannedAlike table s caller tags env plan (shown_result ended)

    ran-alike : (a : Expanded (Target ℕ)) (b : Expanded Program) → (is_script b.file.head ≡ false) × (is_too_big (bytes_with_ends env) b.args ≡ false) → EndsAlike (IsSameTold table s caller tags) a b
        → Comes (target_plan table s.tree env a.file a.args) (Ok b)
    ran-alike a b well same other =
        let t = same.file.target in
        let fits : are_too_big b.args env ≡ false = ap (λ c. c || is_too_big (bytes_with_ends env) b.args) few ∙ well.1 in
        subst (λ plan. PlansAlike table s caller tags b.file.index plan (planned host other b.file.host b.args env)) (λ i. target_plan table s.tree env (sym same.file.told i) (sym same.args i))
        (subst (λ plan. PlansAlike table s caller tags b.file.index (target_plan table s.tree env (told t) b.args) plan) (sym (planned-on-host t b.file same.file.same other b.args env well.0 fits))
        (target-planned t b.file same.file.same other b.args env))

    ended-alike : (program : Program) (x : Result (Expanded (Target ℕ)) Errno) (y : Result (Expanded Program) Errno)
        → expanded (tracer.programs (texts_here table s caller tags) working) (bytes_with_ends env) most_scripts program path args ≡ y → ExpandedAlike (IsSameTold table s caller tags) x y → Comes (after_scripts around env x) y
    ended-alike program _ _ is (both_fail e) = refl
    ended-alike program _ _ is (both_run {a} {b} same) =
        ran-alike a b (expanded-well (tracer.programs (texts_here table s caller tags) working) (bytes_with_ends env) most_scripts program path args fit b is) same

    found-planned : (x : Result PlaceTarget Errno) (y : Result Program Errno) → ProgramsAlike table s caller tags x y
        → PlannedAlike table s caller tags env (and_then x (λ target. exec_plan around base (told target) path args env))
        (texts.and_then y (λ program. shown_result (expanded (tracer.programs (texts_here table s caller tags) working) (bytes_with_ends env) most_scripts program path args)))
    found-planned _ _ (no_program e) = refl
    found-planned _ _ (one_program {target} {program} same) =
        subst (λ b. Comes (if b then Err E2BIG else after_scripts around env (expanded (kernel.programs around base) (bytes_with_ends env) most_scripts (told target) path args))
        (expanded (tracer.programs (texts_here table s caller tags) working) (bytes_with_ends env) most_scripts program path args)) (sym fits)
        (ended-alike program _ _ refl (expansions_agree X table s caller tags base working (bytes_with_ends env) most_scripts target program path args m works same))

pub programs_are_planned_alike : (X : Type 0) → ProgramsArePlannedAlike X
programs_are_planned_alike X table s caller tags base working path args env m works fits =
    found-planned table s caller tags base working path args env m works fits _ _ (programs_are_found_alike X table s caller tags base working path m works)
