-- What a kernel asks of the tree, the user and the mounts over which it begins.
use Rattle.std.specs.Prelude.{◌<◌, ◌^◌, List, length}
use Rattle.kr_loose.specs.kr_inode.declared.user.User.{User}
use Rattle.kr_loose.specs.kr_tree.Tree.{Tree}
use Rattle.kr_loose.specs.kr_view.View.{Row, StandsIn}
use Rattle.kr_loose.specs.law_allowed.Told.{SourcesAreNamed}
use Rattle.kr_loose.specs.kr_start.Beginning.{CanLast}
use Rattle.kr_loose.specs.kr_start.Start.{HasNoHolds}

pub record IsReady (t : Tree) (user : User) (table : List Row) : Type 0 where
  pub stands : StandsIn t table
  pub few : length table < 2 ^ 32
  pub free : HasNoHolds t
  pub lasts : CanLast t user
  pub named : SourcesAreNamed table
