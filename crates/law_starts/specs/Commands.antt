-- The path of the command: both machines take the same one.
use Rattle.std.specs.Prelude.{◌≡◌, ◌≤◌, ℕ, List}
use Rattle.pr_start.specs.pt_bind.Tags.{TagTable}
use Rattle.pr_start.specs.kr_inode.declared.user.User.{User}
use Rattle.pr_start.specs.kr_tree.Tree.{Tree}
use Rattle.pr_start.specs.kr_tree.declared.place.Place.{Place}
use Rattle.pr_start.specs.kr_view.View.{Row}
use Rattle.pr_start.specs.kr_view.declared.target.Reach.{Reach}
use Rattle.pr_start.specs.Command.{chosen}
use Rattle.pr_start.specs.pt_first.GuestStart as guest
use Rattle.pr_start.specs.pt_first.Laws.{first_texts}
use Rattle.law_turns.specs.law_walks.Settled.{IsSettled}
use Rattle.law_starts.specs.Spaces.{first_space}
use Rattle.law_starts.specs.Working.{StandsAt}

-- where the walks to all candidates stay within a length
abbrev pub CommandsAgree : Type 0
CommandsAgree =
    (table : List Row) (tree : Tree) (user : User) (tags : TagTable) (base : Place ℕ) (working : List ℕ) (env : List (List ℕ)) (word : List ℕ) (most : ℕ) (r : Reach) → IsSettled (first_space table tree user) → StandsAt table tree user base working
    → (chosen table tree user base env word r).reach.longest ≤ most
    → guest.chosen (first_texts table tree user tags) working env word ≡ (chosen table tree user base env word r).path
