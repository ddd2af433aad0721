-- What is found before a process lives: the working directory is a directory of the view, and the file of a plan stands there and can be
-- loaded.
use Rattle.std.proofs.Common.{◌≡◌, ℕ, Bool, true, false, cond, List, Option, Some, None, refl, subst, ap}
use Rattle.std.specs.Prelude.{IfOk, Result, Ok, Err}
use Rattle.std.specs.List.{All}
use Rattle.std.specs.Option.{option_and_then, option_map, option_map_or}
use Rattle.std.proofs.lemmas.Option.{same_Some}
use Rattle.kr_start.specs.pr_base.declared.errno.Errno.{Errno}
use Rattle.kr_start.specs.pr_base.declared.path.WalkMode.TheVariants.{Look}
use Rattle.kr_start.specs.kr_inode.declared.user.User.{User}
use Rattle.kr_start.specs.kr_tree.declared.place.Host.TheVariants.{Node}
use Rattle.kr_start.specs.kr_tree.declared.place.Place.{Place}
use Rattle.kr_start.specs.kr_tree.declared.place.ProcAt.{ProcAt}
use Rattle.kr_start.specs.kr_tree.Lawful.{IsKept}
use Rattle.kr_start.specs.kr_tree.Tree.{Inode, Tree, inode, is_directory}
use Rattle.kr_start.proofs.kr_tree.CountLemmas.{there}
use Rattle.kr_execve.specs.kr_view.declared.procs.Lead.TheVariants.{Text}
use Rattle.kr_execve.specs.kr_view.declared.target.WalkFault.{WalkFault}
use Rattle.kr_execve.specs.kr_view.Answers.{told}
use Rattle.kr_execve.specs.kr_view.Component.{is_directory_at}
use Rattle.kr_execve.specs.kr_view.InTree.{IsPlaceOf, StandsAround}
use Rattle.kr_execve.specs.kr_view.Processes.{no_leads}
use Rattle.kr_execve.specs.kr_view.View.{Row, StandsIn, is_there, root_place, root_source}
use Rattle.kr_execve.specs.kr_view.Walk.{PlaceTarget}
use Rattle.kr_execve.proofs.kr_view.PlaceLemmas.{walks_keep_places}
use Rattle.kr_execve.proofs.kr_view.ProcessLemmas.{no_processes}
use Rattle.kr_execve.proofs.kr_view.TableLemmas.{laws_of_places}
use Rattle.kr_start.specs.law_allowed.Texts.{LinksHaveTexts}
use Rattle.kr_start.specs.kr_model.Lawful.{IsNameOrNone, is_file_at}
use Rattle.kr_start.specs.kr_model.Walks.{and_then}
use Rattle.kr_start.specs.law_allowed.Told.{SourcesAreNamed}
use Rattle.kr_execve.proofs.kr_perform.TextLemmas.{IsTextByte}
use Rattle.kr_execve.specs.kr_exec.Answers.{plan_numbered, Answers}
use Rattle.kr_execve.specs.kr_exec.Exec.{are_too_big, exec_plan}
use Rattle.kr_execve.specs.kr_exec.Finding.{program_at}
use Rattle.kr_execve.specs.kr_exec.declared.plan.ExecPlan.{ExecPlan}
use Rattle.kr_execve.specs.Executing.{IsLoadable}
use Rattle.kr_execve.proofs.PlannedLemmas.{planned-of}
use Rattle.kr_execve.proofs.ProgramLemmas.{planned-stands, program-stands}
use Rattle.kr_first.specs.Starting.{around, directory_at, directory_found, directory_walk, found_from, if_directory, is_walked, path_errno, plan_of}

-- where paths begin
pub root-stands : (t : Tree) (table : List Row) → StandsIn t table → IsPlaceOf t table (root_place table) × (is_directory_at t (root_place table).host ≡ true)
root-stands t table stands =
    let laws = laws_of_places t table stands in
    let own = by (inode t (root_source table)) laws.root_kind in
    (record { mounted = ap (λ (o : Option Row). is_there o) laws.root_stands.there; object = own.0 }, own.1)
  where
    by : (o : Option Inode) → option_map is_directory (option_map (λ (x : Inode). x.node.body) o) ≡ Some true → (is_there o ≡ true) × (option_map_or (λ (x : Inode). is_directory x.node.body) o false ≡ true)
    by None e = absurd cc
    by (Some x) e = (refl, same_Some (is_directory x.node.body) true e)

-- ---- a directory

module _ (tree : Tree) where
  chosen : (o : Option (Place ℕ)) (p : Place ℕ) → option_and_then (if_directory tree) o ≡ Some p → (o ≡ Some p) × (is_directory_at tree p.host ≡ true)
  chosen None p is = absurd cc
  chosen (Some q) p is = by (is_directory_at tree q.host) refl is
    where
      by : (d : Bool) → is_directory_at tree q.host ≡ d → cond d (Some q) None ≡ Some p → (Some q ≡ Some p) × (is_directory_at tree p.host ≡ true)
      by true d is = (is, subst (λ (p : Place ℕ). is_directory_at tree p.host ≡ true) (same_Some q p is) d)
      by false d is = absurd cc

  -- it was found
  found-there : (a : Result PlaceTarget Errno) (p : Place ℕ) → directory_found tree a ≡ Some p → (t : PlaceTarget) × (a ≡ Ok t) × (t.found ≡ Some p) × (is_directory_at tree p.host ≡ true)
  found-there (Err e) p is = absurd cc
  found-there (Ok t) p is = let own = chosen t.found p is in (t, refl, own.0, own.1)

module _ (table : List Row) (tree : Tree) (user : User) where
  -- ---- the program

  module _ (base : Place ℕ) (path : List ℕ) (args env : List (List ℕ)) where
    -- a plan is of a target that was found
    found-first : (plan : ExecPlan ℕ) → plan_of table tree user base path args env ≡ Ok plan
        → (t : PlaceTarget) × (program_at (around table tree user) base path ≡ Ok t) × (exec_plan (around table tree user) base (told t) path args env ≡ Ok plan)
    found-first plan is = by (found_from table tree user base path) refl is
      where
        walked : (b : Bool) (t : PlaceTarget) → cond b (program_at (around table tree user) base path) (Err (path_errno path)) ≡ Ok t → program_at (around table tree user) base path ≡ Ok t
        walked true t is = is
        walked false t is = absurd cc

        by : (r : Result PlaceTarget Errno) → found_from table tree user base path ≡ r → and_then r (λ target. exec_plan (around table tree user) base (told target) path args env) ≡ Ok plan
            → (t : PlaceTarget) × (program_at (around table tree user) base path ≡ Ok t) × (exec_plan (around table tree user) base (told t) path args env ≡ Ok plan)
        by (Err e) found is = absurd cc
        by (Ok t) found is = (t, walked (is_walked path) t found, is)

    -- the file of a plan can be loaded
    pub plan-loadable : {T : Type 0} (number : T → ℕ) (plan : ExecPlan T) → plan_of table tree user base path args env ≡ Ok (plan_numbered number plan) → plan.place.host ≡ Node plan.file → are_too_big plan.args plan.env ≡ false
        → IsLoadable tree plan
    plan-loadable number plan is node fit =
        let own = found-first (plan_numbered number plan) is in
        let kind = planned-of (around table tree user) base (λ target. Unit {0}) (λ script found line own is finds. tt) (told own.0) path args env (plan_numbered number plan) tt own.2 in
        record { file = node; accepted = kind.2.accepted; read = kind.2.read; fit = fit }

    pub loadable-on : {T : Type 0} (number : T → ℕ) (r : Result (ExecPlan T) WalkFault) → Answers (plan_numbered number) (plan_of table tree user base path args env) r → IfOk r (λ plan. plan.place.host ≡ Node plan.file)
        → IfOk r (λ plan. are_too_big plan.args plan.env ≡ false) → IfOk r (λ plan. IsLoadable tree plan)
    loadable-on number (Ok plan) is node fit = plan-loadable number plan is node fit
    loadable-on number (Err why) is node fit = tt

  module _ (kept : IsKept tree) (stands : StandsIn tree table) where
    around-stands : (p : Place ℕ) → IsPlaceOf tree table p → StandsAround (around table tree user) p
    around-stands p place = record {
      sound = kept.sound;
      inodes = there tree kept.sound kept.counted;
      mounts = stands;
      leads = no_processes.places tree table;
      begins = place;
    }

    pub directory-stands : (path : List ℕ) (p : Place ℕ) → directory_at table tree user path ≡ Some p → IsPlaceOf tree table p × (is_directory_at tree p.host ≡ true)
    directory-stands path p is =
        let own = found-there tree (directory_walk table tree user path).answer p is in
        let root = around-stands (root_place table) (root-stands tree table stands).0 in
        ((walks_keep_places (around table tree user) Look (root_place table) path own.0 root own.1).found p own.2, own.3)

    no-texts : (at : ProcAt) (text : List ℕ) → no_leads at ≡ Text text → All IsTextByte text
    no-texts at text is = absurd cc

    -- and stands in the view
    pub plan-stands : LinksHaveTexts tree → SourcesAreNamed table → (base : Place ℕ) → IsPlaceOf tree table base → (path : List ℕ) (args env : List (List ℕ)) (plan : ExecPlan ℕ) → All IsTextByte path
        → plan_of table tree user base path args env ≡ Ok plan → is_file_at tree plan.place.host ≡ true → IsPlaceOf tree table plan.place × IsNameOrNone plan.name
    plan-stands links sources base place path args env plan text is file =
        let own = found-first base path args env plan is in
        let stand = around-stands base place in
        let found = program-stands (around table tree user) base stand kept.bytes links no-texts path own.0 text own.1 in
        planned-stands (around table tree user) base stand kept.bytes links no-texts sources (told own.0) path args env plan found own.2 file
