-- What the definition of a start comes to, step by step.
use Rattle.std.proofs.Common.{◌≡◌, ℕ, Bool, true, false, cond, List, Option, Some, sym, ap, ◌∙◌}
use Rattle.std.specs.Prelude.{OnOk, Result, Ok, Err}
use Rattle.std.specs.Option.{option_map_or}
use Rattle.kr_start.specs.pr_base.declared.errno.Errno.{Errno}
use Rattle.kr_start.specs.pr_base.declared.errno.Errno.TheVariants.{ENOENT, ENOMEM}
use Rattle.kr_start.specs.pr_base.declared.path.WalkMode.TheVariants.{Look}
use Rattle.kr_start.specs.kr_inode.declared.user.User.{User}
use Rattle.kr_start.specs.kr_tree.declared.place.Place.{Place}
use Rattle.kr_start.specs.kr_tree.Tree.{Tree}
use Rattle.kr_execve.specs.kr_view.declared.target.Reach.{Reach}
use Rattle.kr_execve.specs.kr_view.declared.target.Target.{Target}
use Rattle.kr_execve.specs.kr_view.declared.target.WalkFault.{WalkFault}
use Rattle.kr_execve.specs.kr_view.Answers.{told}
use Rattle.kr_execve.specs.kr_view.Reach.{reach_after}
use Rattle.kr_execve.specs.kr_view.View.{Row}
use Rattle.kr_execve.specs.kr_view.Walk.{PlaceTarget}
use Rattle.kr_start.specs.kr_model.Walks.{and_then}
use Rattle.kr_execve.specs.kr_exec.Answers.{Reaches}
use Rattle.kr_execve.specs.kr_exec.Exec.{exec_plan, exec_reach}
use Rattle.kr_execve.specs.kr_exec.Finding.{program_at, program_walk}
use Rattle.kr_execve.specs.kr_exec.Lists.{at_least_one}
use Rattle.kr_execve.specs.kr_exec.declared.plan.ExecPlan.{ExecPlan}
use Rattle.kr_start.specs.Start.{started}
use Rattle.kr_first.specs.declared.starting.First.{First}
use Rattle.kr_first.specs.Starting.{around, directory_at, directory_walk, exceeds, found_reach, idle_state, is_walked, path_errno, plan_of, plan_reach, process_of, start_from, start_of, start_reach, started_with}

-- what was reached where something came of it
pub reached-on : {A : Type 0} (r : Result A WalkFault) (whole old new : Reach) {other : Reach} → Reaches whole old new r → whole ≡ other → OnOk r (new ≡ other)
reached-on (Ok x) whole old new reached same = reached ∙ same
reached-on (Err why) whole old new reached same = tt

module _ (table : List Row) (tree : Tree) (user : User) where
  -- ---- a plan

  module _ (base : Place ℕ) (path : List ℕ) (args env : List (List ℕ)) where
    abbrev plans : PlaceTarget → Result (ExecPlan ℕ) Errno
    plans t = exec_plan (around table tree user) base (told t) path args env

    abbrev walked : Reach → Reach
    walked r = reach_after (around table tree user) Look (program_walk (around table tree user) base path) r

    pub not-walked : is_walked path ≡ false → plan_of table tree user base path args env ≡ Err (path_errno path)
    not-walked is = ap (λ b. and_then (cond b (program_at (around table tree user) base path) (Err (path_errno path))) plans) is

    module _ (walks : is_walked path ≡ true) where
      found-is : (r : Result PlaceTarget Errno) → program_at (around table tree user) base path ≡ r → plan_of table tree user base path args env ≡ and_then r plans
      found-is r is = λ i. and_then (cond (walks i) (is i) (Err (path_errno path))) plans

      pub not-found : (e : Errno) → program_at (around table tree user) base path ≡ Err e → plan_of table tree user base path args env ≡ Err e
      not-found e is = found-is (Err e) is

      module _ (t : PlaceTarget) (target : Target ℕ) (is : program_at (around table tree user) base path ≡ Ok t) (same : told t ≡ target) where
        pub planned-is : plan_of table tree user base path args env ≡ exec_plan (around table tree user) base target path args env
        planned-is = found-is (Ok t) is ∙ ap (λ (x : Target ℕ). exec_plan (around table tree user) base x path args env) same

        pub reach-is : (r : Reach) → plan_reach table tree user base path args env r ≡ exec_reach (around table tree user) base target path args env (walked r)
        reach-is r =
            (λ i. cond (walks i) (found_reach table tree user base path args env (is i) (walked r)) r)
            ∙ ap (λ (x : Target ℕ). exec_reach (around table tree user) base x path args env (walked r)) same

  -- ---- a start

  module _ (input : List ℕ) (first : First) (base : Place ℕ) (cwd : directory_at table tree user first.cwd ≡ Some base) (args : List (List ℕ)) (given : args ≡ at_least_one first.args) where
    begun : (r : Result (ExecPlan ℕ) Errno) → plan_of table tree user base first.path args first.env ≡ r → start_of table tree user input first ≡ and_then r (started_with table tree user input first.ids base)
    begun r is =
        ap (λ (o : Option (Place ℕ)). option_map_or (start_from table tree user input first) o (Err ENOENT)) cwd
        ∙ ap (λ (args : List (List ℕ)). and_then (plan_of table tree user base first.path args first.env) (started_with table tree user input first.ids base)) (sym given)
        ∙ ap (λ (r : Result (ExecPlan ℕ) Errno). and_then r (started_with table tree user input first.ids base)) is

    pub not-planned : (e : Errno) → plan_of table tree user base first.path args first.env ≡ Err e → start_of table tree user input first ≡ Err e
    not-planned e is = begun (Err e) is

    pub loaded-is : (plan : ExecPlan ℕ) → plan_of table tree user base first.path args first.env ≡ Ok plan → (b : Bool) → exceeds tree first.ids plan ≡ b
        → start_of table tree user input first ≡ cond b (Err ENOMEM) (Ok (started (process_of tree first.ids base plan) (idle_state table tree user input)))
    loaded-is plan is b exceed =
        begun (Ok plan) is
        ∙ ap (λ b. cond b (Err ENOMEM) (Ok (started (process_of tree first.ids base plan) (idle_state table tree user input)))) exceed

    pub start-reach-is : (walked reached : Reach) → walked ≡ reach_after (around table tree user) Look (directory_walk table tree user first.cwd) first.reach → reached ≡ plan_reach table tree user base first.path args first.env walked
        → reached ≡ start_reach table tree user first
    start-reach-is walked reached one two =
        two
        ∙ (λ i. plan_reach table tree user base first.path (given i) first.env (one i))
        ∙ sym (ap (λ (o : Option (Place ℕ)). let r = reach_after (around table tree user) Look (directory_walk table tree user first.cwd) first.reach in option_map_or (λ base. plan_reach table tree user base first.path (at_least_one first.args) first.env r) o r) cwd)
