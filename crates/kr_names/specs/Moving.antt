-- Entries that are moved.
use Rattle.std.specs.Prelude.{ℕ, ◌≡◌, false, [], ◌∷◌, Option, Some, Result, Ok, Err}
use Rattle.kr_seen.specs.pr_base.declared.errno.Errno.{Errno}
use Rattle.kr_seen.specs.kr_tree.declared.place.Host.{Host}
use Rattle.kr_seen.specs.kr_tree.declared.place.Host.TheVariants as host
use Rattle.kr_seen.specs.kr_tree.Tree.{Node, Tree, body_is, is_directory, is_filled}
use Rattle.kr_seen.specs.kr_model.Change.{MoveName}
use Rattle.kr_seen.specs.kr_model.Known.{Known, known_node}
use Rattle.kr_seen.specs.kr_model.NameRows.{move_entry, move_onto, move_over}
use Rattle.kr_seen.specs.kr_model.Reply.{done, refuse}
use Rattle.kr_seen.specs.kr_model.Seen.{Entered}
use Rattle.kr_names.specs.declared.moving.Moving.{Moving}

-- an entry whose directory and whose new directory may be written: what follows is told the nodes of the three
pub record IsMovable (k : Known) (old new : Entered) (found : Host) (m : Moving) : Type 0 where
  pub above : Node
  pub below : Node
  pub node : Node
  pub from : old.dir ≡ host.Node m.dir
  pub onto : new.dir ≡ host.Node m.to
  pub object : found ≡ host.Node m.ino
  pub above_there : known_node k m.dir ≡ Some above
  pub below_there : known_node k m.to ≡ Some below
  pub there : known_node k m.ino ≡ Some node
  pub goes_on : move_entry k old new found ≡ move_onto k old new m.dir m.to above below node new.found

abbrev pub AnswersMovable : Known → Entered → Entered → Host → Result Moving Errno → Type 0
AnswersMovable k old new found (Ok m) = IsMovable k old new found m
AnswersMovable k old new found (Err errno) = move_entry k old new found ≡ refuse errno

-- the tests of both entries: the move is made, or the error answered
abbrev pub AnswersOnto : Known → Moving → Option Host → Node → Node → Node → Result (Unit {0}) Errno → Type 0
AnswersOnto k m over above below node (Ok u) =
    (old new : Entered) → move_onto k old new m.dir m.to above below node over ≡ done 0 (MoveName m.dir old.name m.to new.name ∷ [])
AnswersOnto k m over above below node (Err errno) = (old new : Entered) → move_onto k old new m.dir m.to above below node over ≡ refuse errno

-- the nodes of a move, as the call knows them
pub record HasNodes (k : Known) (m : Moving) (above below node : Node) : Type 0 where
  pub above_there : known_node k m.dir ≡ Some above
  pub below_there : known_node k m.to ≡ Some below
  pub there : known_node k m.ino ≡ Some node

-- what is replaced is of the kind of what replaces it, and has no entries
abbrev pub IsLike : Tree → ℕ → Option Host → Type 0
IsLike t ino over = (j : ℕ) → over ≡ Some (host.Node j) → (body_is is_directory t j ≡ body_is is_directory t ino) × (body_is is_filled t j ≡ false)

-- the tests of the kinds: the move is made, or the error answered
abbrev pub AnswersOver : Known → Moving → Node → Node → Result (Unit {0}) Errno → Type 0
AnswersOver k m node x (Ok u) = (old new : Entered) → move_over k old new m.dir m.to node x ≡ done 0 (MoveName m.dir old.name m.to new.name ∷ [])
AnswersOver k m node x (Err errno) = (old new : Entered) → move_over k old new m.dir m.to node x ≡ refuse errno
