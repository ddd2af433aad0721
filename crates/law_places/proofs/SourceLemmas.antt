-- What is a mount's source and no directory remembers the entry at which it was settled.
use Rattle.std.proofs.Common.{◌≡◌, ℕ, zero, suc, Bool, true, false, List, [], ◌∷◌, ◌++◌, Option, Some, None, nat_eq, refl, sym, ap, ◌∙◌}
use Rattle.std.specs.Bool.{if◌then◌else◌}
use Rattle.std.specs.Option.{option_and_then, option_map}
use Rattle.std.proofs.lemmas.Bool.{eqb-true}
use Rattle.kr_calm.specs.pr_base.Texts.{Text}
use Rattle.law_walks.specs.pt_bind.Binding.{located}
use Rattle.law_walks.specs.kr_tree.declared.place.Host.{Host}
use Rattle.law_walks.specs.kr_tree.declared.place.Host.TheVariants.{Node, Proc}
use Rattle.law_walks.specs.kr_tree.declared.place.Place.{Place}
use Rattle.law_walks.specs.kr_tree.Names.{named}
use Rattle.law_walks.specs.kr_tree.Tree.{body_is, is_directory, is_listed}
use Rattle.law_walks.proofs.kr_tree.NameLemmas.{some_is}
use Rattle.law_walks.specs.kr_view.Component.{Namespace}
use Rattle.law_walks.specs.kr_view.View.{Point, Row, covered, down, is_there, node_in, row, source_place}
use Rattle.law_walks.proofs.kr_view.HostReachLemmas.{inode_reached, last_object}
use Rattle.law_walks.proofs.kr_view.TableLemmas.{laws_of_places}
use Rattle.law_walks.specs.kr_mounts.Standing.{texts_of}
use Rattle.law_walks.proofs.kr_mounts.StayLemmas.{is_a_directory}
use Rattle.law_walks.specs.Settled.{IsPointNamed, IsSettled, host_text}
use Rattle.law_walks.specs.Standing.{IsEntryAt, Stands, reached_in}
use Rattle.law_walks.proofs.StandingLemmas.{above_directory, kind_of_source, source_reached}
use Rattle.law_walks.proofs.TableLemmas.{down_is_located, located_none, located_some, owned}
use Rattle.law_places.specs.Standing.{StandsAs}
use Rattle.law_places.specs.Taking.{SparesSources}
use Rattle.law_places.specs.Uses.{Use, is_source_object, is_source_place}

-- the row of a place that is its mount's source and no directory
pub record IsSourceOf (table : List Row) (p : Place ℕ) : Type 0 where
  pub mount : Row
  pub there : row table p.mount ≡ Some mount
  pub file : mount.is_dir ≡ false
  pub host : p.host ≡ Node mount.source

pub source_of_place : (table : List Row) (p : Place ℕ) → is_source_place table p ≡ true → IsSourceOf table p
source_of_place table p is = by (row table p.mount) p.host refl refl is
  where
    file : (r : Row) (i : ℕ) (b : Bool) → r.is_dir ≡ b → (if b then false else nat_eq r.source i) ≡ true → (r.is_dir ≡ false) × (r.source ≡ i)
    file r i true e is = absurd cc
    file r i false e is = (e, eqb-true r.source i is)

    by : (o : Option Row) (x : Host) → row table p.mount ≡ o → p.host ≡ x → is_source_object o x ≡ true → IsSourceOf table p
    by None (Node i) at on is = absurd cc
    by None (Proc i at_) at on is = absurd cc
    by (Some r) (Proc i at_) at on is = absurd cc
    by (Some r) (Node i) at on is = let f = file r i r.is_dir refl is in record { mount = r; there = at; file = f.0; host = on ∙ ap Node (sym f.1) }

module _ (space : Namespace) (set : IsSettled space) where
  -- below what is no directory nothing is reached, so its host text is the source's
  source_text : (p : Place ℕ) (guest : Text) → Stands space p guest → (s : IsSourceOf space.table p) → host_text space guest ≡ s.mount.text.source
  source_text p guest stands s =
      let w = owned space set guest in
      let same : w.mount ≡ s.mount = some_is w.mount s.mount (sym w.there ∙ ap (row space.table) (sym stands.mount) ∙ s.there) in
      let host : host_text space guest ≡ w.rest ++ s.mount.text.source = w.host ∙ ap (λ (r : Row). w.rest ++ r.text.source) same in
      by w.rest host
    where
      by : (rest : Text) → host_text space guest ≡ rest ++ s.mount.text.source → host_text space guest ≡ s.mount.text.source
      by [] host = host
      by (name ∷ rest) host =
          let l = last_object space.tree space.user space.finds (rest ++ s.mount.text.source) name p.host (ap (reached_in space) (sym host) ∙ stands.way) in
          let dir = above_directory space set rest s.mount.text.source l.dir (Node s.mount.source) l.way l.is_dir (source_reached space set p.mount s.mount s.there) in
          let clash : true ≡ false = sym (kind_of_source space set p.mount s.mount true s.there dir) ∙ s.file in
          absurd cc

  -- and its entry is the source's
  pub source_remembered : (p : Place ℕ) (guest : Text) (dir : ℕ) (name : List ℕ) → Stands space p guest → (s : IsSourceOf space.table p) → IsEntryAt space (host_text space guest) (Node dir) name
      → (s.mount.source_dir ≡ dir) × (s.mount.source_name ≡ name)
  source_remembered p guest dir name stands s at =
      let e = set.entries p.mount s.mount s.there s.file in
      let texts : s.mount.source_name ∷ e.up ≡ name ∷ at.up = sym e.text ∙ sym (source_text p guest stands s) ∙ at.text in
      let names : s.mount.source_name ≡ name = cc in
      let ups : e.up ≡ at.up = cc in
      let nodes : Node s.mount.source_dir ≡ Node dir = some_is (Node s.mount.source_dir) (Node dir) (sym (inode_reached space.tree space.user space.finds e.up s.mount.source_dir e.way) ∙ ap (reached_in space) ups ∙ at.way) in
      let dirs : s.mount.source_dir ≡ dir = cc in
      (dirs, names)

  -- so what remembers an entry that is no source's is none
  pub spared_is_no_source : (x : Use) (guest : Text) → StandsAs space x guest → x.is_directory ≡ false → SparesSources space.table x.dir x.name → is_source_place space.table x.place ≡ false
  spared_is_no_source x guest at file spared = by (is_source_place space.table x.place) refl
    where
      by : (b : Bool) → is_source_place space.table x.place ≡ b → b ≡ false
      by false is = refl
      by true is =
          let own = source_of_place space.table x.place is in
          let r = source_remembered x.place guest x.dir x.name at.on.stands own (at.entry file) in
          absurd (spared x.place.mount own.mount own.there r.0 r.1)

  -- the point at which a mount stands, by its location
  pub record IsPointAt (name : List ℕ) (up : Text) (k : ℕ) (r : Row) : Type 0 where
    pub point : Point
    pub stands : r.point ≡ Some point
    pub called : point.name ≡ name
    pub dir : named space.tree (host_text space up) ≡ Some point.dir

  pub point_at : (k : ℕ) (r : Row) (name : List ℕ) (up : Text) → row space.table k ≡ Some r → r.text.location ≡ name ∷ up → IsPointAt name up k r
  point_at zero r name up there at = let clash : [] ≡ name ∷ up = sym (set.mounts.lawful.root_location r there) ∙ at in absurd cc
  point_at (suc j) r name up there at =
      let p = set.mounts.lawful.later_point j r there in
      let s = set.points (suc j) r p.0 there p.1 in
      let heads : p.0.name ∷ s.up ≡ name ∷ up = sym {b = p.0.name ∷ s.up} s.location ∙ at in
      let same : s.up ≡ up = cc in
      let called : p.0.name ≡ name = cc in
      record { point = p.0; stands = p.1; called = called; dir = ap (λ u. named space.tree (host_text space u)) (sym same) ∙ s.dir }

  -- the name of a point is covered
  pub point_covers : (k : ℕ) (r : Row) (p : Point) → row space.table k ≡ Some r → r.point ≡ Some p → covered space.table p.dir p.name ≡ true
  point_covers k r p there at = by (set.points k r p there at) (set.mounts.points k r p there at).listed
    where
      enters : (s : IsPointNamed space r p) → body_is is_directory space.tree p.dir ≡ true → (o : Option ℕ) → located (texts_of space.table) (p.name ∷ s.up) ≡ o → covered space.table p.dir p.name ≡ true
      enters s is_dir None e = absurd (located_none space.table (p.name ∷ s.up) e k r there s.location)
      enters s is_dir (Some j) e =
          let l = located_some space.table (p.name ∷ s.up) j e in
          let goes : down space.table p.mount p.dir p.name ≡ Some (node_in j l.mount.source) =
          down_is_located space set p.mount p.dir s.up s.mount s.dir is_dir p.name ∙ ap (option_and_then (source_place space.table)) e ∙ ap (option_map (λ (r : Row). node_in j r.source)) l.there in
          (laws_of_places space.tree space.table set.mounts).down_covered p.mount p.dir p.name (ap is_there goes)

      by : (s : IsPointNamed space r p) → body_is is_listed space.tree p.dir ≡ true → covered space.table p.dir p.name ≡ true
      by s listed = enters s (is_a_directory space.tree p.dir listed) (located (texts_of space.table) (p.name ∷ s.up)) refl
