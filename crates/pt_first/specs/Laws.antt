-- What a kernel asks of its first process follows from how a tracer finds it.
use Rattle.std.specs.Prelude.{◌≡◌, List, Ok}
use Rattle.kr_first.specs.pt_bind.Tags.{TagTable}
use Rattle.pt_script.specs.pt_canon.TextWalk.{TextSurroundings}
use Rattle.kr_first.specs.kr_inode.declared.user.User.{User}
use Rattle.kr_first.specs.kr_tree.Tree.{Tree}
use Rattle.kr_first.specs.kr_view.Processes.{no_finds}
use Rattle.kr_first.specs.kr_view.View.{Row, plain}
use Rattle.kr_first.specs.kr_mounts.Standing.{texts_of}
use Rattle.kr_first.specs.law_allowed.Texts.{IsText}
use Rattle.kr_first.specs.Started.{LeadsToDirectory}
use Rattle.kr_first.specs.law_walks.Settled.{IsSettled}
use Rattle.pt_first.specs.FirstPeeks.{first_peeked}
use Rattle.pt_first.specs.GuestStart.{guest_start}
use Rattle.pt_first.specs.declared.begun.Begun.{Begun}
use Rattle.pr_words.specs.declared.launch.Launch.{Launch}

-- what a tracer's walks go by before a process lives, over the texts of a table of mounts
abbrev pub first_texts : List Row → Tree → User → TagTable → TextSurroundings
first_texts table tree user tags = record { bindings = texts_of table; peeked = first_peeked tree user; tags = tags }

-- the plain kernel can begin with what begins: its program's path is a text, and its working directory's path leads to a directory
abbrev pub FirstsCanStart : Type 0
FirstsCanStart =
    (table : List Row) (tree : Tree) (user : User) (tags : TagTable) (launch : Launch) (b : Begun) → IsSettled (record { table = table; tree = tree; user = user; finds = no_finds })
    → guest_start (first_texts table tree user tags) launch ≡ Ok b → IsText b.first.path × LeadsToDirectory plain tree user b.first.cwd
