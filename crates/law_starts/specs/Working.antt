-- Where the first working directory is: a directory of the mounts, and the guest text that a tracer's walk gives.
use Rattle.std.specs.Prelude.{◌≡◌, ℕ, true, List}
use Rattle.pr_start.specs.pr_base.Paths.{text_of}
use Rattle.pr_start.specs.pr_base.Texts.{Text}
use Rattle.pr_start.specs.pt_bind.Tags.{TagTable}
use Rattle.pr_start.specs.kr_inode.declared.user.User.{User}
use Rattle.pr_start.specs.kr_tree.Tree.{Tree}
use Rattle.pr_start.specs.kr_tree.declared.place.Place.{Place}
use Rattle.pr_start.specs.kr_view.Component.{is_directory_at}
use Rattle.pr_start.specs.kr_view.View.{Row}
use Rattle.pr_start.specs.Directory.{working_directory}
use Rattle.pr_start.specs.pt_first.GuestStart as guest
use Rattle.pr_start.specs.pt_first.Laws.{first_texts}
use Rattle.law_turns.specs.law_walks.Settled.{IsSettled}
use Rattle.law_turns.specs.law_walks.Standing.{StandsOn}
use Rattle.law_starts.specs.Spaces.{first_space}

-- a directory stands at the guest text that bytes spell
pub record StandsAt (table : List Row) (tree : Tree) (user : User) (p : Place ℕ) (bytes : List ℕ) : Type 0 where
  pub text : Text
  pub stands : StandsOn (first_space table tree user) p text
  pub directory : is_directory_at tree p.host ≡ true
  pub written : bytes ≡ text_of text

-- whatever path is given for it
abbrev pub WorkingDirectoriesAgree : Type 0
WorkingDirectoriesAgree =
    (table : List Row) (tree : Tree) (user : User) (tags : TagTable) (path : List ℕ) → IsSettled (first_space table tree user)
    → StandsAt table tree user (working_directory table tree user path).place (guest.working_directory (first_texts table tree user tags) path)
