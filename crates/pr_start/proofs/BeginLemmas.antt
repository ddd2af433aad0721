-- A start in its steps, and the kernel that begins by it.
use Rattle.std.proofs.Common.{◌≡◌, ℕ, List, Option, Some, sym, ap, ◌∙◌}
use Rattle.std.specs.Prelude.{Result, Ok, Err}
use Rattle.pt_tracer.specs.pr_base.declared.errno.Errno.{Errno}
use Rattle.pt_tracer.specs.kr_inode.declared.user.User.{User}
use Rattle.kr_core.specs.kr_tree.Tree.{Tree}
use Rattle.kr_core.specs.kr_view.declared.target.Reach.{Reach}
use Rattle.kr_core.specs.kr_view.View.{Row}
use Rattle.kr_core.specs.kr_model.State.{Image, State}
use Rattle.kr_core.specs.kr_model.Walks.{and_then}
use Rattle.kr_core.specs.kr_first.declared.starting.StartFault.{StartFault}
use Rattle.kr_core.specs.kr_first.declared.starting.StartFault.TheVariants as fault
use Rattle.kr_core.specs.Runs.{Machine}
use Rattle.kr_core.specs.kr_turns.kr_calm.declared.rule.Rule.{Rule}
use Rattle.pt_tracer.specs.pt_faker.declared.watch.Watch.{Watch}
use Rattle.kr_core.specs.Kernel.{Kernel, Starts, StartsJudged, machine}
use Rattle.kr_core.specs.kr_mounts.declared.mount.Mount.{Mount}
use Rattle.kr_core.specs.kr_mounts.declared.mounted.MountNumber.{MountNumber}
use Rattle.pr_start.specs.Directory.{At, directory_reach, working_directory}
use Rattle.pt_first.specs.pr_words.Command.{arguments, ids_of, word_of}
use Rattle.pr_start.specs.Command.{Chosen, chosen}
use Rattle.pr_start.specs.Numbers.{number_of}
use Rattle.pr_start.specs.Beginning.{Begins, BeginsUnmarked, beginning, begun, begun_at, begun_in, fresh, nowhere, told_with}
use Rattle.pt_first.specs.pr_words.declared.launch.Launch.{Launch}

module _ (table : List Row) (tree : Tree) (user : User) (watch : Watch) (launch : Launch) (input : List ℕ) where
  -- what was found step by step is what begins
  pub begins-as : (at : At) (reach : Reach) (found : Chosen) (path : List ℕ) (args : List (List ℕ)) → at ≡ working_directory table tree user launch.cwd → reach ≡ directory_reach table tree user launch.cwd nowhere
      → found ≡ chosen table tree user at.place launch.env (word_of launch.command) reach → found.path ≡ Some path → args ≡ arguments launch.command
      → beginning table tree user watch launch input ≡ begun table tree user watch (record { path = path; args = args; env = launch.env; cwd = at.path; ids = ids_of launch.ids; reach = found.reach }) input
  begins-as at reach found path args at-is reach-is found-is path-is args-is =
      ap (λ (d : At). begun_in table tree user watch launch input d (directory_reach table tree user launch.cwd nowhere)) (sym at-is)
      ∙ ap (λ (r : Reach). begun_in table tree user watch launch input at r) (sym reach-is)
      ∙ ap (λ (x : Chosen). begun_at table tree user watch launch input at x.reach x.path) (sym found-is)
      ∙ ap (λ (o : Option (List ℕ)). begun_at table tree user watch launch input at found.reach o) path-is
      ∙ ap (λ (words : List (List ℕ)). begun table tree user watch (record { path = path; args = words; env = launch.env; cwd = at.path; ids = ids_of launch.ids; reach = found.reach }) input) (sym args-is)

-- a kernel that starts begins with its start's state
pub begins-from : (places : List Mount) (watch : Watch) (reach : Reach) (answer : Result (State ℕ Image) Errno) (result : Result (Kernel (List Mount) Watch MountNumber 1) StartFault)
    → Starts {M = 1} number_of places watch reach answer result → Begins (and_then answer (λ s. Ok (fresh watch reach s))) result
begins-from places watch reach answer (Ok k) starts =
    let b = starts.1 in
    let same : fresh watch reach (machine number_of k).state ≡ machine number_of k = λ i. record {
      state = (machine number_of k).state;
      watcher = sym b.stops_are i;
      tally = record { status = sym b.status i; broken = sym b.broken i };
    } in
    (ap (λ (a : Result (State ℕ Image) Errno). and_then a (λ s. Ok (fresh watch reach s))) starts.0 ∙ ap (λ (m : Machine Watch). Ok m) same, record { turns = b.turns; calls = b.calls; shape_changes = b.shape_changes; byte_changes = b.byte_changes; running = b.running; whole = b.whole })
begins-from places watch reach answer (Err (fault.Err e)) starts = ap (λ (a : Result (State ℕ Image) Errno). and_then a (λ s. Ok (fresh watch reach s))) starts
begins-from places watch reach answer (Err fault.NoMemory) starts = tt

-- and so one that keeps no marks, with the rule that was told beside it
pub begins-unmarked : (places : List Mount) (watch : Watch) (reach : Reach) (answer : Result (State ℕ Image) Errno) (result : Result (Kernel (List Mount) Watch MountNumber 0 × Option Rule) StartFault)
    → StartsJudged {M = 0} number_of places watch reach answer result → BeginsUnmarked (and_then answer (λ s. Ok (fresh watch reach s))) result
begins-unmarked places watch reach answer (Ok started) starts =
    let b = starts.1 in
    let rule = starts.2 in
    let same : fresh watch reach (machine number_of started.0).state ≡ told_with started.0 started.1 = λ i. record {
      state = (machine number_of started.0).state;
      watcher = sym b.stops_are i;
      tally = record { status = sym b.status i; broken = sym rule i };
    } in
    (ap (λ (a : Result (State ℕ Image) Errno). and_then a (λ s. Ok (fresh watch reach s))) starts.0 ∙ ap (λ (m : Machine Watch). Ok m) same, record { turns = b.turns; calls = b.calls; shape_changes = b.shape_changes; byte_changes = b.byte_changes; running = b.running; whole = b.whole })
begins-unmarked places watch reach answer (Err (fault.Err e)) starts = ap (λ (a : Result (State ℕ Image) Errno). and_then a (λ s. Ok (fresh watch reach s))) starts
begins-unmarked places watch reach answer (Err fault.NoMemory) starts = tt
