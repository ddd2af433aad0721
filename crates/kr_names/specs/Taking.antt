-- Entries that are taken away.
use Rattle.std.specs.Prelude.{ℕ, ◌≡◌, true, Some, Result, Ok, Err}
use Rattle.kr_seen.specs.pr_base.declared.errno.Errno.{Errno}
use Rattle.kr_seen.specs.kr_tree.declared.place.Host.{Host}
use Rattle.kr_seen.specs.kr_tree.declared.place.Host.TheVariants as host
use Rattle.kr_seen.specs.kr_tree.Tree.{Node, Tree, body_is, entry, takes_names}
use Rattle.kr_seen.specs.kr_model.Known.{Known, known_node}
use Rattle.kr_seen.specs.kr_model.NameRows.{take_entry}
use Rattle.kr_seen.specs.kr_model.Reply.{Replying, refuse}
use Rattle.kr_seen.specs.kr_model.Seen.{Entered}
use Rattle.kr_seen.specs.declared.told.Entered.{Entered as EnteredTold}
use Rattle.kr_names.specs.declared.removing.Takable.{Takable}

-- what was found is the entry of the name in a directory that takes names
abbrev pub IsEntryOf : Tree → EnteredTold → Host → Type 0
IsEntryOf t e found = (dir : ℕ) → e.dir ≡ host.Node dir → body_is takes_names t dir ≡ true → (i : ℕ) × (found ≡ host.Node i) × (entry t dir e.name.now ≡ Some i)

-- an entry that may be taken away: what follows is told its directory and its node
pub record IsTakable (k : Known) (e : Entered) (found : Host) (dir ino : ℕ) : Type 0 where
  pub node : Node
  pub directory : e.dir ≡ host.Node dir
  pub object : found ≡ host.Node ino
  pub there : known_node k ino ≡ Some node
  pub goes_on : (next : ℕ → Node → Replying) → take_entry k e found next ≡ next dir node

-- such an entry, or the error that is answered whatever would follow
abbrev pub AnswersTakable : Known → Entered → Host → Result Takable Errno → Type 0
AnswersTakable k e found (Ok t) = IsTakable k e found t.dir t.ino
AnswersTakable k e found (Err errno) = (next : ℕ → Node → Replying) → take_entry k e found next ≡ refuse errno
