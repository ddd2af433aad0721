-- Mounts that stand in a tree of bytes are made of bytes, and their points are entries of the tree.
use Rattle.std.proofs.Common.{◌≡◌, ℕ, zero, suc, false, true, List, [], ◌∷◌, Option, Some, None, refl, sym, ap, subst, ◌∙◌}
use Rattle.std.specs.List.{AllByRecursion}
use Rattle.std.specs.Option.{option_and_then}
use Rattle.pr_top.specs.pr_base.MountText.{MountText}
use Rattle.pr_top.specs.pr_base.Texts.{Text}
use Rattle.law_starts.specs.pt_bind.Binding.{host_of, located}
use Rattle.pr_top.specs.kr_tree.Lawful.{AreBytes, HasBytes as TreeHasBytes}
use Rattle.pr_top.specs.kr_tree.Names.{named}
use Rattle.pr_top.specs.kr_tree.Tree.{Tree, entry}
use Rattle.pr_top.specs.kr_view.Component.{Namespace}
use Rattle.pr_top.specs.kr_view.View.{Point, Row, is_there, row}
use Rattle.pr_top.specs.kr_mounts.Standing.{texts_of}
use Rattle.law_starts.specs.law_walks.Settled.{IsSettled}
use Rattle.law_starts.proofs.law_walks.TableLemmas.{host_none, mount_below, source_named}
use Rattle.law_starts.specs.law_kept.Bytes.{AreAllBytes, TableHasBytes}
use Rattle.law_starts.proofs.law_kept.StartLemmas.{entry-named}
use Rattle.law_machines.proofs.TextLemmas.{IsByteRow, rows-pass}
use Rattle.law_starts.specs.Spaces.{first_space}
use Rattle.law_machines.specs.Tables.{OpeningsAreMadeOfBytes}

-- ---- names of a tree

some-there : {A : Type 0} (o : Option A) → is_there o ≡ true → (x : A) × (o ≡ Some x)
some-there None is = absurd cc
some-there (Some x) is = (x, refl)

named-above : (t : Tree) (name : List ℕ) (text : Text) (i : ℕ) → named t (name ∷ text) ≡ Some i → (dir : ℕ) × (named t text ≡ Some dir) × (entry t dir name ≡ Some i)
named-above t name text i is = by (named t text) refl is
  where
    by : (o : Option ℕ) → named t text ≡ o → option_and_then (λ dir. entry t dir name) o ≡ Some i → (dir : ℕ) × (named t text ≡ Some dir) × (entry t dir name ≡ Some i)
    by None above is = absurd cc
    by (Some dir) above is = (dir, above, is)

named-bytes : (t : Tree) → TreeHasBytes t → (text : Text) (i : ℕ) → named t text ≡ Some i → AreAllBytes text
named-bytes t has [] i is = tt
named-bytes t has (name ∷ text) i is =
    let above = named-above t name text i is in
    (entry-named t above.0 name i has above.2, named-bytes t has text above.0 above.1)

-- ---- mounts

module _ (space : Namespace) (set : IsSettled space) where
  -- a point is an entry of the tree
  point-there : (k : ℕ) (r : Row) (p : Point) → row space.table k ≡ Some r → r.point ≡ Some p → (i : ℕ) × (entry space.tree p.dir p.name ≡ Some i)
  point-there k r p there stands = some-there (entry space.tree p.dir p.name) (set.mounts.points k r p there stands).there

  module _ (has : TreeHasBytes space.tree) where
    point-bytes : (k : ℕ) (r : Row) (p : Point) → row space.table k ≡ Some r → r.point ≡ Some p → AreBytes p.name
    point-bytes k r p there stands = let found = point-there k r p there stands in entry-named space.tree p.dir p.name found.0 has found.1

    -- the names of a guest text whose host text names something
    guest-bytes : (t : Text) (i : ℕ) → named space.tree (host_of (texts_of space.table) t) ≡ Some i → AreAllBytes t
    guest-bytes [] i is = tt
    guest-bytes (name ∷ t) i is = by (located (texts_of space.table) (name ∷ t)) refl (guest-bytes t)
      where
        by : (o : Option ℕ) → located (texts_of space.table) (name ∷ t) ≡ o → ((j : ℕ) → named space.tree (host_of (texts_of space.table) t) ≡ Some j → AreAllBytes t) → AreAllBytes (name ∷ t)
        by None at above =
            let up = named-above space.tree name (host_of (texts_of space.table) t) i (ap (named space.tree) (sym (host_none (texts_of space.table) name t at)) ∙ is) in
            (entry-named space.tree up.0 name i has up.2, above up.0 up.1)
        by (Some k) at above =
            let m = mount_below space set name t k at in
            (subst AreBytes m.called (point-bytes k m.mount m.point m.there m.stands), above m.point.dir m.dir)

    location-bytes : (k : ℕ) (r : Row) → row space.table k ≡ Some r → AreAllBytes r.text.location
    location-bytes zero r there = subst AreAllBytes (sym (set.mounts.lawful.root_location r there)) tt
    location-bytes (suc k) r there =
        let p = set.mounts.lawful.later_point k r there in
        let s = set.points (suc k) r p.0 there p.1 in
        subst AreAllBytes (sym s.location) (point-bytes (suc k) r p.0 there p.1, guest-bytes s.up p.0.dir s.dir)

    source-bytes : (k : ℕ) (r : Row) → row space.table k ≡ Some r → AreAllBytes r.text.source
    source-bytes k r there = named-bytes space.tree has r.text.source r.source (source_named space set k r there)

    source-name-bytes : (k : ℕ) (r : Row) → row space.table k ≡ Some r → r.is_dir ≡ false → AreBytes r.source_name
    source-name-bytes k r there kind =
        let e = set.entries k r there kind in
        let names : AreAllBytes (r.source_name ∷ e.up) = subst AreAllBytes e.text (source-bytes k r there) in
        names.0

    table-bytes : TableHasBytes space.table
    table-bytes = record { locations = location-bytes; sources = source-name-bytes }

-- what holds of each row of a table holds of their texts
each-text : (P : MountText → Type 0) (table : List Row) → ((k : ℕ) (r : Row) → row table k ≡ Some r → P r.text) → AllByRecursion P (texts_of table)
each-text P [] each = tt
each-text P (r ∷ table) each = (each 0 r refl, each-text P table (λ k s there. each (suc k) s there))

pub openings-are-made-of-bytes : OpeningsAreMadeOfBytes
openings-are-made-of-bytes table tree user opening =
    let space : Namespace = first_space table tree user in
    let set : IsSettled space = opening.prepared.settled in
    record {
      rows = table-bytes space set opening.kept.bytes;
      texts = rows-pass (texts_of table) (each-text IsByteRow table (λ k r there. record { location = location-bytes space set opening.kept.bytes k r there; source = source-bytes space set opening.kept.bytes k r there }));
    }
