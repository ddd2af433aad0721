-- The walks of a start over mounts break no calm rule, where its machine has broken none.
use Rattle.std.proofs.Common.{◌≡◌, ℕ, List, Option, Some, None, sym, ap, ◌∙◌}
use Rattle.std.specs.Prelude.{Result, Ok, Err}
use Rattle.std.specs.Option.{option_map_or}
use Rattle.law_machines.specs.kr_inode.declared.user.User.{User}
use Rattle.law_machines.specs.kr_tree.Tree.{Tree}
use Rattle.law_machines.specs.kr_turns.Turn.{Machine}
use Rattle.law_machines.specs.kr_view.View.{Row}
use Rattle.law_machines.specs.kr_view.declared.target.Reach.{Reach}
use Rattle.law_machines.specs.pr_top.pr_base.declared.errno.Errno.{Errno}
use Rattle.law_machines.specs.pr_words.Command.{word_of}
use Rattle.law_machines.specs.pr_words.declared.launch.Launch.{Launch}
use Rattle.law_machines.specs.pr_start.Beginning.{beginning, begun_at, first_of, fresh, nowhere}
use Rattle.law_machines.specs.pr_start.Command.{Chosen, chosen}
use Rattle.law_machines.specs.pr_start.Directory.{At, directory_reach, working_directory}
use Rattle.law_machines.specs.pr_start.Machines.{Nobody, Watch}
use Rattle.law_machines.specs.pr_start.kr_first.Starting.{start_of, start_reach}
use Rattle.law_machines.specs.law_turns.kr_calm.Calm.{broken_at_start}
use Rattle.law_machines.specs.law_turns.kr_model.State.{Image, State}
use Rattle.law_machines.specs.law_turns.kr_model.Walks.{and_then}

module _ (table : List Row) (tree : Tree) (user : User) (launch : Launch) (input : List ℕ) (m : Machine Watch) where
  judged-by : (reach : Reach) (r : Result (State ℕ Image) Errno) → and_then r (λ s. Ok (fresh Nobody reach s)) ≡ Ok m → m.tally.broken ≡ broken_at_start reach
  judged-by reach (Ok s) is =
      let same : fresh Nobody reach s ≡ m = cc in
      sym (ap (λ (m : Machine Watch). m.tally.broken) same)
  judged-by reach (Err e) is = absurd cc

  -- what its walks reach: to the working directory, to the command, and those of the first process, if there is one
  abbrev reached : At → Reach → Option (List ℕ) → Reach
  reached at found o = option_map_or (λ path. start_reach table tree user (first_of table tree user Nobody launch at path found)) o found

  judged-at : (at : At) (found : Reach) (o : Option (List ℕ)) → begun_at table tree user Nobody launch input at found o ≡ Ok m → m.tally.broken ≡ broken_at_start (reached at found o)
  judged-at at found None is = absurd cc
  judged-at at found (Some path) is =
      let first = first_of table tree user Nobody launch at path found in
      judged-by (start_reach table tree user first) (start_of table tree user input first) is

  abbrev chosen-here : Chosen
  chosen-here = chosen table tree user (working_directory table tree user launch.cwd).place launch.env (word_of launch.command) (directory_reach table tree user launch.cwd nowhere)

  pub begins-calmly : beginning table tree user Nobody launch input ≡ Ok m → m.tally.broken ≡ None → broken_at_start (reached (working_directory table tree user launch.cwd) chosen-here.reach chosen-here.path) ≡ None
  begins-calmly is unbroken = sym (judged-at (working_directory table tree user launch.cwd) chosen-here.reach chosen-here.path is) ∙ unbroken
