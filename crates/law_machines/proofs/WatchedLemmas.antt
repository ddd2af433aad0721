-- A machine that begins is watched by whom it was given.
use Rattle.std.proofs.Common.{◌≡◌, ℕ, List, Option, Some, None, sym, ap}
use Rattle.std.specs.Prelude.{Result, Ok, Err}
use Rattle.pr_top.specs.pr_base.declared.errno.Errno.{Errno}
use Rattle.pr_top.specs.pr_words.Command.{word_of}
use Rattle.pr_top.specs.pr_words.declared.launch.Launch.{Launch}
use Rattle.law_starts.specs.kr_first.Starting.{start_of, start_reach}
use Rattle.law_starts.specs.kr_first.declared.starting.First.{First}
use Rattle.pr_top.specs.kr_inode.declared.user.User.{User}
use Rattle.law_starts.specs.kr_model.State.{Image, State}
use Rattle.law_starts.specs.kr_model.Walks.{and_then}
use Rattle.pr_top.specs.kr_tree.Tree.{Tree}
use Rattle.law_starts.specs.kr_turns.Turn.{Machine}
use Rattle.pr_top.specs.kr_view.View.{Row}
use Rattle.pr_top.specs.kr_view.declared.target.Reach.{Reach}
use Rattle.law_starts.specs.pr_start.Beginning.{beginning, begun, begun_at, first_of, fresh, nowhere}
use Rattle.law_starts.specs.pr_start.Command.{chosen}
use Rattle.law_starts.specs.pr_start.Directory.{At, directory_reach, working_directory}
use Rattle.law_starts.specs.pt_faker.declared.watch.Watch.{Watch}

module _ (table : List Row) (tree : Tree) (user : User) (watcher : Watch) (launch : Launch) (input : List ℕ) (m : Machine Watch) where
  begun_watched : (first : First) → begun table tree user watcher first input ≡ Ok m → m.watcher ≡ watcher
  begun_watched first e = by (start_of table tree user input first) e
    where
      by : (r : Result (State ℕ Image) Errno) → and_then r (λ s. Ok (fresh watcher (start_reach table tree user first) s)) ≡ Ok m → m.watcher ≡ watcher
      by (Err why) e = absurd cc
      by (Ok s) e = let same : fresh watcher (start_reach table tree user first) s ≡ m = cc in ap (λ (m : Machine Watch). m.watcher) (sym same)

  at_watched : (at : At) (reach : Reach) (o : Option (List ℕ)) → begun_at table tree user watcher launch input at reach o ≡ Ok m → m.watcher ≡ watcher
  at_watched at reach None e = absurd cc
  at_watched at reach (Some path) e = begun_watched (first_of table tree user watcher launch at path reach) e

  pub beginning_watched : beginning table tree user watcher launch input ≡ Ok m → m.watcher ≡ watcher
  beginning_watched e =
      let at = working_directory table tree user launch.cwd in
      let found = chosen table tree user at.place launch.env (word_of launch.command) (directory_reach table tree user launch.cwd nowhere) in
      at_watched at found.reach found.path e
