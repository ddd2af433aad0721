-- What a kernel asks of the tree, the user and the mounts on which it begins.
use Rattle.std.specs.Prelude.{◌≡◌, ◌<◌, ◌^◌, ℕ, List, length, Result, Ok, Err}
use Rattle.kr_text.specs.kr_inode.declared.user.User.{User}
use Rattle.kr_text.specs.kr_tree.Tree.{Tree}
use Rattle.kr_text.specs.Drawn.{IsDrawn}
use Rattle.kr_text.specs.Reading.{listing_of}
use Rattle.law_walks.specs.kr_view.Processes.{no_finds}
use Rattle.law_walks.specs.kr_view.View.{Row, StandsIn}
use Rattle.law_walks.specs.kr_mounts.MountTable.{Settling}
use Rattle.law_walks.specs.kr_mounts.Stored.{table_of}
use Rattle.law_walks.specs.kr_mounts.declared.fault.BindFault.{BindFault}
use Rattle.law_walks.specs.kr_mounts.declared.fault.BindFault.TheVariants.{Bad, NoMemory}
use Rattle.law_allowed.specs.Told.{SourcesAreNamed}
use Rattle.kr_start.specs.Beginning.{CanLast}
use Rattle.kr_start.specs.Start.{HasNoHolds}
use Rattle.law_walks.specs.Settled.{IsSettled}
use Rattle.kr_start.specs.declared.stage.Stage.{Stage}

-- a tree with its user, as a listing was read with the bytes of an ELF file
pub record IsOfListing (t : Tree) (user : User) : Type 0 where
  pub elf : List ℕ
  pub bytes : List ℕ
  pub listing : listing_of elf bytes ≡ Ok (t, user)
  pub drawn : IsDrawn t

-- mounts that are settled, however many there are
pub record IsPrepared (t : Tree) (user : User) (table : List Row) : Type 0 where
  pub stands : StandsIn t table
  pub free : HasNoHolds t
  pub lasts : CanLast t user
  pub named : SourcesAreNamed table
  -- texts and inodes of the mounts belong together
  pub settled : IsSettled (record { table = table; tree = t; user = user; finds = no_finds })

-- and a kernel has numbers for them
pub record IsReady (t : Tree) (user : User) (table : List Row) : Type 0 where
  pub prepared : IsPrepared t user table
  pub few : length table < 2 ^ 32

-- what settling comes to is told, and its tree is left, but for want of memory
abbrev pub IsStaged : User → Settling → Result Stage BindFault → Type 0
IsStaged user settling (Ok s) = (settling.tree ≡ s.tree) × (settling.answer ≡ Ok (table_of s.places)) × (s.user ≡ user)
IsStaged user settling (Err (Bad index why)) = settling.answer ≡ Err (record { index = index; why = why })
IsStaged user settling (Err NoMemory) = Unit {0}
