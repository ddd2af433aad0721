-- A state in which the table of mounts is settled and all places in use stand at guest texts.
use Rattle.std.specs.Prelude.{◌≡◌, ℕ, true, false, List, ◌∷◌, Some}
use Rattle.kr_calm.specs.pr_base.Texts.{Text}
use Rattle.law_walks.specs.kr_tree.Names.{named}
use Rattle.law_walks.specs.kr_tree.Tree.{Tree}
use Rattle.law_walks.specs.kr_tree.declared.place.Host.TheVariants.{Node}
use Rattle.law_walks.specs.kr_view.Component.{Namespace, is_directory_at}
use Rattle.law_walks.specs.kr_view.View.{Row, row}
use Rattle.law_walks.specs.kr_model.Lawful.{IsLawful}
use Rattle.law_walks.specs.kr_model.ProcessDirectory.{space_of}
use Rattle.law_walks.specs.kr_model.State.{Image, State}
use Rattle.law_walks.specs.Settled.{IsSettled, host_text}
use Rattle.law_walks.specs.Standing.{IsEntryAt, StandsOn}
use Rattle.law_places.specs.Uses.{IsUse, Use, has_name, is_source_place}

-- a place in use stands at a guest text, and is of its kind; what is no directory is the entry of the text's host text
pub record StandsAs (space : Namespace) (x : Use) (guest : Text) : Type 0 where
  pub on : StandsOn space x.place guest
  pub kind : is_directory_at space.tree x.place.host ≡ x.is_directory
  pub entry : x.is_directory ≡ false → IsEntryAt space (host_text space guest) (Node x.dir) x.name

-- what has a name stands at some guest text, and what has none is no mount's source
pub record UseStands (space : Namespace) (x : Use) : Type 0 where
  pub called : has_name x ≡ true → (guest : Text) × StandsAs space x guest
  pub nameless : has_name x ≡ false → is_source_place space.table x.place ≡ false

-- each mount's source is the entry at which it was settled, a directory too; the root of the host is none
abbrev pub AreSourcesNamed : List Row → Tree → Type 0
AreSourcesNamed table t =
    (k : ℕ) (r : Row) (name : List ℕ) (up : Text) → row table k ≡ Some r → r.text.source ≡ name ∷ up → (r.source_name ≡ name) × (named t up ≡ Some r.source_dir)

-- the state is lawful, so its tree is kept; the table is settled in it; and all places in use stand
pub record PlacesStand (table : List Row) (s : State ℕ Image) : Type 0 where
  pub lawful : IsLawful (λ m. m) table s
  pub settled : IsSettled (space_of table s)
  pub sources : AreSourcesNamed table s.tree
  pub uses : (x : Use) → IsUse s x → UseStands (space_of table s) x
