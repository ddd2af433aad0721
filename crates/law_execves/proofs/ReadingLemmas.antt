-- Execve(2) writes nothing into its caller's memory before it is replaced.
use Rattle.std.proofs.Common.{ℕ, List, Option, Some, None, Err, refl}
use Rattle.std.specs.Option.{option_map_or}
use Rattle.law_programs.specs.pr_base.declared.errno.Errno.TheVariants.{ENOENT}
use Rattle.law_programs.specs.rv_mem.Actions.{Done}
use Rattle.law_programs.specs.kr_tree.declared.place.Place.{Place}
use Rattle.law_stops.specs.kr_view.View.{Row}
use Rattle.law_programs.specs.kr_exec.Lists.{and_then, lists_at}
use Rattle.law_programs.specs.kr_execve.Execution.{execution, execution_from, found_from, loaded, planned_from}
use Rattle.law_stops.specs.kr_model.Applied.{cwd_of}
use Rattle.law_stops.specs.kr_model.State.{Image, State}
use Rattle.law_stops.specs.kr_model.Walks as results
use Rattle.law_stops.proofs.law_edits.ListKeepLemmas.{Keeps, keeps-then, lists-keep}

pub execution-keeps : (table : List Row) (pid : ℕ) (s : State ℕ Image) (path : List ℕ) (args env : ℕ) → Keeps (execution table pid s path args env)
execution-keeps table pid s path args env = by (cwd_of pid s)
  where
    from : (base : Place ℕ) → Keeps (execution_from table pid s path args env base)
    from base =
        keeps-then (Done (found_from table pid s path args env base)) (λ target. and_then (lists_at args env) (λ lists. Done (results.and_then (planned_from table pid s path args env base target lists) (loaded s)))) (λ m. refl)
        (λ target. keeps-then (lists_at args env) (λ lists. Done (results.and_then (planned_from table pid s path args env base target lists) (loaded s))) (lists-keep args env) (λ lists m. refl))

    by : (o : Option (Place ℕ)) → Keeps (option_map_or (execution_from table pid s path args env) o (Done (Err ENOENT)))
    by None = λ m. refl
    by (Some base) = from base
