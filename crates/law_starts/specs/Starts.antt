-- What the same words come to on both machines: the same error, or machines that go together.
use Rattle.std.specs.Prelude.{◌≡◌, ℕ, List, Option, None, Result, Ok, Err}
use Rattle.std.specs.Option.{option_map_or}
use Rattle.pr_start.specs.pr_base.declared.errno.Errno.{Errno}
use Rattle.pr_start.specs.pr_words.Command.{word_of}
use Rattle.pr_start.specs.pr_words.declared.launch.Launch.{Launch}
use Rattle.pr_start.specs.pt_bind.Tags.{TagTable}
use Rattle.law_turns.specs.kr_calm.Calm.{broken_at_start}
use Rattle.law_programs.specs.kr_first.Starting.{start_reach}
use Rattle.pr_start.specs.kr_inode.declared.user.User.{User}
use Rattle.pr_start.specs.kr_mounts.Standing.{texts_of}
use Rattle.pr_start.specs.kr_tree.Tree.{Tree}
use Rattle.law_turns.specs.kr_turns.Turn.{Machine}
use Rattle.pr_start.specs.kr_view.View.{Row}
use Rattle.pr_start.specs.kr_view.declared.target.Reach.{Reach}
use Rattle.pr_start.specs.Beginning.{beginning, first_of, nowhere}
use Rattle.pr_start.specs.Command.{Chosen, chosen}
use Rattle.pr_start.specs.Directory.{directory_reach, working_directory}
use Rattle.pr_start.specs.TracedBeginning.{Tracing, traced_beginning}
use Rattle.pr_start.specs.pt_faker.declared.watch.Watch.{Watch}
use Rattle.law_turns.specs.Runs.{GoTogether}
use Rattle.law_starts.specs.FirstStates.{IsOpening}

abbrev pub tags_in : Tracing → TagTable
tags_in x = x.tags

-- what the walks of a start over mounts reach: to its working directory, to its command, and those of the first process, if there is one
abbrev pub chosen_in : List Row → Tree → User → Launch → Chosen
chosen_in table tree user launch = chosen table tree user (working_directory table tree user launch.cwd).place launch.env (word_of launch.command) (directory_reach table tree user launch.cwd nowhere)

abbrev pub beginning_reach : List Row → Tree → User → Watch → Launch → Reach
beginning_reach table tree user watch launch =
    let found = chosen_in table tree user launch in
    option_map_or (λ path. start_reach table tree user (first_of table tree user watch launch (working_directory table tree user launch.cwd) path found.reach)) found.path found.reach

-- two beginnings that come to the same
abbrev pub ComeTogether : {S : Type 0} → List Row → Result (Machine S) Errno → Result (Machine Tracing) Errno → Type 0
ComeTogether table (Ok m) (Ok n) = GoTogether tags_in table 0 m n
ComeTogether table (Err e) (Err f) = e ≡ f
ComeTogether table (Ok m) (Err f) = ⊥
ComeTogether table (Err e) (Ok n) = ⊥

-- so do those of both machines, whoever watches and whatever identity the tracer shows, where the walks of the start break no calm rule
abbrev pub StartsGoTogether : Type 0
StartsGoTogether =
    (table : List Row) (tree : Tree) (user : User) (watch : Watch) (ids : Option (ℕ × ℕ)) (launch : Launch) (input : List ℕ) → IsOpening tree user table → broken_at_start (beginning_reach table tree user watch launch) ≡ None
    → ComeTogether table (beginning table tree user watch launch input) (traced_beginning (texts_of table) tree user ids launch input)

-- a machine that begins over mounts is judged by just these walks
abbrev pub BeginningsAreJudged : Type 0
BeginningsAreJudged =
    (table : List Row) (tree : Tree) (user : User) (watch : Watch) (launch : Launch) (input : List ℕ) (m : Machine Watch) → beginning table tree user watch launch input ≡ Ok m
    → m.tally.broken ≡ broken_at_start (beginning_reach table tree user watch launch)
