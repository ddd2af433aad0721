-- Mounts on which a start can begin are made of bytes, and so are the texts that a tracer goes by.
use Rattle.std.specs.Prelude.{◌≡◌, true, List}
use Rattle.std.specs.List.{list_all}
use Rattle.pr_top.specs.kr_inode.declared.user.User.{User}
use Rattle.pr_top.specs.kr_tree.Tree.{Tree}
use Rattle.pr_top.specs.kr_view.View.{Row}
use Rattle.pr_top.specs.kr_mounts.Standing.{texts_of}
use Rattle.law_starts.specs.law_kept.Bytes.{TableHasBytes}
use Rattle.law_machines.specs.Watchers.{is_byte_row}
use Rattle.law_starts.specs.FirstStates.{IsOpening}

pub record IsMadeOfBytes (table : List Row) : Type 0 where
  pub rows : TableHasBytes table
  pub texts : list_all is_byte_row (texts_of table) ≡ true

abbrev pub OpeningsAreMadeOfBytes : Type 0
OpeningsAreMadeOfBytes = (table : List Row) (tree : Tree) (user : User) → IsOpening tree user table → IsMadeOfBytes table
