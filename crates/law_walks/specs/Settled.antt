-- A table of mounts whose texts and inodes belong together, in a tree as it is now.
use Rattle.std.specs.Prelude.{◌≡◌, ℕ, false, ◌∷◌, Some}
use Rattle.pt_canon.specs.pr_base.Texts.{Text}
use Rattle.pt_canon.specs.pt_bind.Binding.{owner, host_of}
use Rattle.kr_mounts.specs.kr_tree.Lawful.{IsSound, HasItsInodes}
use Rattle.kr_mounts.specs.kr_tree.Names.{named, reached}
use Rattle.kr_mounts.specs.kr_view.Component.{Namespace}
use Rattle.kr_mounts.specs.kr_view.View.{Point, Row, StandsIn, row}
use Rattle.kr_mounts.specs.Standing.{texts_of}

-- the host text of a guest text, and the number of the mount to which it belongs
abbrev pub host_text : Namespace → Text → Text
host_text space t = host_of (texts_of space.table) t

abbrev pub owning_mount : Namespace → Text → ℕ
owning_mount space t = owner (texts_of space.table) t

-- a mount point has its name below the host text of the directory in which it stands. The guest text of that directory
-- belongs to the point's mount, and with the name it is the location
pub record IsPointNamed (space : Namespace) (r : Row) (p : Point) : Type 0 where
  pub up : Text
  pub location : r.text.location ≡ p.name ∷ up
  pub mount : p.mount ≡ owning_mount space up
  pub dir : named space.tree (host_text space up) ≡ Some p.dir
  pub text : r.text.point ≡ Some (p.name ∷ host_text space up)

-- the user reaches the host directory in which a source that is no directory has its name, by the text above the source's
pub record IsSourceEntered (space : Namespace) (r : Row) : Type 0 where
  pub up : Text
  pub text : r.text.source ≡ r.source_name ∷ up
  pub way : reached space.tree space.user up ≡ Some r.source_dir

-- the table stands in the tree; the user reaches each source by its host text, and each mount point is named by its own
pub record IsSettled (space : Namespace) : Type 0 where
  pub sound : IsSound space.tree
  pub inodes : HasItsInodes space.tree
  pub mounts : StandsIn space.tree space.table
  pub sources : (k : ℕ) (r : Row) → row space.table k ≡ Some r → reached space.tree space.user r.text.source ≡ Some r.source
  pub entries : (k : ℕ) (r : Row) → row space.table k ≡ Some r → r.is_dir ≡ false → IsSourceEntered space r
  pub points : (k : ℕ) (r : Row) (p : Point) → row space.table k ≡ Some r → r.point ≡ Some p → IsPointNamed space r p
