-- Execve(2) comes to the same on both kernels.
use Rattle.std.proofs.Common.{◌≡◌, ℕ, Bool, true, false, List, Option, Some, Result, Ok, Err, refl, sym, ap, subst, ◌∙◌}
use Rattle.std.specs.Bool.{if◌then◌else◌}
use Rattle.std.specs.Option.{option_map_or}
use Rattle.kr_first.specs.pr_base.declared.errno.Errno.{Errno}
use Rattle.kr_first.specs.pr_base.declared.errno.Errno.TheVariants.{ENOENT, ENOMEM}
use Rattle.kr_first.specs.rv_mem.Actions.{CarriedOut, Done, carried_out}
use Rattle.kr_first.specs.rv_mem.Memory.{Memory}
use Rattle.kr_first.specs.elf_load.Image.{first_regs, image_exceeds, image_memory, program_break}
use Rattle.kr_first.specs.pt_bind.Tags.{TagTable}
use Rattle.law_edits.specs.pt_script.declared.expansion.Expanded.{Expanded}
use Rattle.kr_first.specs.kr_tree.declared.place.Place.{Place}
use Rattle.kr_first.specs.kr_view.View.{Row, plain}
use Rattle.kr_first.specs.kr_view.Walk.{PlaceTarget}
use Rattle.kr_first.specs.kr_exec.Lists.{Trying, and_then, lists_at}
use Rattle.kr_first.specs.kr_exec.Interpreters.{bytes_at}
use Rattle.kr_first.specs.kr_exec.declared.lists.Lists.{Lists}
use Rattle.kr_first.specs.kr_exec.declared.plan.ExecPlan.{ExecPlan}
use Rattle.kr_first.proofs.kr_exec.ListLemmas.{and_then_is, on_reply}
use Rattle.kr_first.specs.kr_execve.Execution.{Program, exceeds, execution, execution_from, found_from, ids_of, image_of, loaded, planned_from, program_of}
use Rattle.law_edits.specs.kr_model.Applied.{cwd_of}
use Rattle.law_edits.specs.kr_model.HostView.{host_around_of}
use Rattle.law_edits.specs.kr_model.ProcessDirectory.{around_of}
use Rattle.law_edits.specs.kr_model.State.{Image, State}
use Rattle.law_edits.specs.kr_model.Walks as results
use Rattle.law_programs.specs.Planning.{IsSamePlan, PlannedAlike, PlansAlike, no_plan, one_plan, planned}
use Rattle.law_programs.proofs.LimitLemmas.{lists_fit}
use Rattle.law_programs.proofs.PlanLemmas.{programs_are_planned_alike}
use Rattle.law_programs.specs.Executing.{ExecutionsAgree, IsCalled, IsShownAlike, LoadedAlike, RefusedExecutionsAgree, done_with_mounts, ended_by_tracer, none_loaded, one_loaded, read_by_kernel}
use Rattle.law_programs.proofs.ShownLemmas.{planned-same}

-- ---- what one kernel answers

-- once the lists are read it is told by the plan alone
module _ (table : List Row) (pid : ℕ) (s : State ℕ Image) (path : List ℕ) (args env : ℕ) (m : Memory) (lists : Lists) (read : (read_by_kernel args env m).reply ≡ Ok lists) (base : Place ℕ) where
  abbrev behind_lists : PlaceTarget → Lists → Trying Program
  behind_lists target lists = Done (results.and_then (planned_from table pid s path args env base target lists) (loaded s))

  target-told : (target : PlaceTarget) → (carried_out (and_then (lists_at args env) (behind_lists target)) m).reply ≡ results.and_then (planned_from table pid s path args env base target lists) (loaded s)
  target-told target =
      ap (λ (d : CarriedOut (Result Program Errno)). d.reply) (and_then_is (lists_at args env) (behind_lists target) m)
      ∙ ap (λ (r : Result Lists Errno). (on_reply (behind_lists target) r (carried_out (lists_at args env) m).memory).reply) read

  found-told : (r : Result PlaceTarget Errno) → (carried_out (and_then (Done r) (λ target. and_then (lists_at args env) (behind_lists target))) m).reply
      ≡ results.and_then (results.and_then r (λ target. planned_from table pid s path args env base target lists)) (loaded s)
  found-told (Ok target) = target-told target
  found-told (Err e) = refl

  pub execution-told : cwd_of pid s ≡ Some base → (carried_out (execution table pid s path args env) m).reply ≡ results.and_then (planned (around_of table pid s) base path lists.args lists.env) (loaded s)
  execution-told at =
      ap (λ o. (carried_out (option_map_or (execution_from table pid s path args env) o (Done (Err ENOENT))) m).reply) at
      ∙ found-told (found_from table pid s path args env base)

-- ---- loading

module _ (table : List Row) (s w : State ℕ Image) (pid : ℕ) (tags : TagTable) (shown : IsShownAlike s w pid) (index : ℕ) where
  abbrev Alike : Result Program Errno → Result Program Errno → Type 0
  Alike = LoadedAlike table s pid tags index

  module _ (p q : ExecPlan ℕ) (same : IsSamePlan p q) where
    same-bytes : bytes_at s.tree p.place.host ≡ bytes_at w.tree q.place.host
    same-bytes = ap (bytes_at s.tree) same.host ∙ sym (shown.files q.place.host)

    same-image : image_of s.tree s.user p ≡ image_of w.tree w.user q
    same-image = λ i. record {
      regs = first_regs (same.plan i) (same.args i) (same.env i);
      memory = image_memory (same-bytes i) (same.plan i) (same.args i) (same.env i) (ids_of (sym shown.user i));
    }

    same-exceeds : exceeds s p ≡ exceeds w q
    same-exceeds = λ i. image_exceeds (sym shown.pages i) (same-bytes i) (same.plan i) (same.args i) (same.env i) (ids_of (sym shown.user i))

  loaded-alike : (x y : Result (ExecPlan ℕ) Errno) → PlansAlike table s pid tags index x y → Alike (results.and_then x (loaded s)) (results.and_then y (loaded w))
  loaded-alike _ _ (no_plan e) = none_loaded e
  loaded-alike _ _ (one_plan {p} {q} same used) =
      subst (λ b. Alike (loaded s p) (if b then Err ENOMEM else Ok (program_of w.tree w.user q))) (same-exceeds p q same) (by (exceeds s p))
    where
      by : (b : Bool) → Alike (if b then Err ENOMEM else Ok (program_of s.tree s.user p)) (if b then Err ENOMEM else Ok (program_of w.tree w.user q))
      by true = none_loaded ENOMEM
      by false = one_loaded (record { image = same-image p q same; brk = ap program_break same.plan; host = same.host; mount = same.mount; dir = same.dir; name = same.name }) used

-- ---- both kernels

module _ (table : List Row) (s w : State ℕ Image) (pid : ℕ) (tags : TagTable) (path : List ℕ) (args env : ℕ) (m : Memory) (working : Option (List ℕ)) (lists : Lists) (is : IsCalled table s w pid tags path args env m working lists) where
  abbrev plan : Result (ExecPlan ℕ) Errno
  plan = planned (around_of table pid s) is.base path lists.args lists.env

  with-mounts : (done_with_mounts table s w pid tags path args env m).reply ≡ results.and_then plan (loaded s)
  with-mounts = execution-told table pid s path args env m lists is.read is.base is.at

  planned-alike : PlannedAlike table s pid tags lists.env plan (ended_by_tracer table s w pid tags path args env m working lists)
  planned-alike = programs_are_planned_alike Image table s pid tags is.base working path lists.args lists.env is.matched is.works (lists_fit args env m lists is.read)

  refused : (e : Errno) → ended_by_tracer table s w pid tags path args env m working lists ≡ Err e → (done_with_mounts table s w pid tags path args env m).reply ≡ Err e
  refused e ended = with-mounts ∙ ap (λ r. results.and_then r (loaded s)) (subst (λ r. PlannedAlike table s pid tags lists.env plan r) ended planned-alike)

  module _ (x : Expanded) (put : ℕ) (n : Memory) (ended : ended_by_tracer table s w pid tags path args env m working lists ≡ Ok x) (read : (read_by_kernel put env n).reply ≡ Ok (record { args = x.args; env = lists.env })) where
    on-plain : (carried_out (execution plain pid w x.host put env) n).reply ≡ results.and_then (planned (host_around_of s pid) is.other x.host x.args lists.env) (loaded w)
    on-plain =
        execution-told plain pid w x.host put env n (record { args = x.args; env = lists.env }) read is.other is.also_at
        ∙ ap (λ r. results.and_then r (loaded w)) (planned-same s w pid is.shown is.other x.host x.args lists.env)

    alike : LoadedAlike table s pid tags x.index (done_with_mounts table s w pid tags path args env m).reply (carried_out (execution plain pid w x.host put env) n).reply
    alike =
        let plans = subst (λ r. PlannedAlike table s pid tags lists.env plan r) ended planned-alike in
        subst (λ a. LoadedAlike table s pid tags x.index a (carried_out (execution plain pid w x.host put env) n).reply) (sym with-mounts)
        (subst (λ b. LoadedAlike table s pid tags x.index (results.and_then plan (loaded s)) b) (sym on-plain)
        (loaded-alike table s w pid tags is.shown x.index plan (planned (host_around_of s pid) is.other x.host x.args lists.env) (plans is.other)))

pub executions_agree : ExecutionsAgree
executions_agree table s w pid tags path args env m working lists x put n is ended read = alike table s w pid tags path args env m working lists is x put n ended read

pub refused_executions_agree : RefusedExecutionsAgree
refused_executions_agree table s w pid tags path args env m working lists e is ended = refused table s w pid tags path args env m working lists is e ended
