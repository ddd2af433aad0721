-- A directory that serves neither a row nor a place in use can lose search.
use Rattle.std.proofs.Common.{◌≡◌, ◌≢◌, ℕ, Bool, true, false, not, List, [], ◌∷◌, length, Option, Some, None, refl, sym, ap, subst, ◌∙◌, inl, inr}
use Rattle.std.specs.Prelude.{◌==◌, ◌&&◌, ◌||◌}
use Rattle.std.specs.List.{list_any}
use Rattle.std.specs.Option.{option_map, option_map_or}
use Rattle.std.proofs.lemmas.Bool.{or_parts, eqb-true, false_from_ne_true}
use Rattle.kr_calm.specs.pr_base.MountText.{MountText}
use Rattle.kr_calm.specs.pr_base.Texts.{Text}
use Rattle.law_walks.specs.pt_bind.Binding.{host_of, located}
use Rattle.law_walks.specs.kr_tree.declared.place.Host.{Host}
use Rattle.law_walks.specs.kr_tree.declared.place.Host.TheVariants.{Node, Proc}
use Rattle.law_walks.specs.kr_tree.Lawful.{Below, Here, IsBelow}
use Rattle.law_walks.specs.kr_tree.Names.{named}
use Rattle.law_walks.specs.kr_inode.declared.standing.Standing.{Standing}
use Rattle.law_walks.specs.kr_tree.Tree.{Body, Tree, above, body, body_is, is_directory, root}
use Rattle.law_walks.proofs.kr_tree.EntryLemmas.{body_test, entry_stands}
use Rattle.law_walks.proofs.kr_tree.NameLemmas.{some_is}
use Rattle.law_walks.specs.kr_view.Component.{Finds, Namespace, is_directory_at}
use Rattle.law_walks.specs.kr_view.HostReach.{object_in, reaches}
use Rattle.law_walks.specs.kr_view.View.{Point, Row, row}
use Rattle.law_walks.proofs.kr_view.HostReachLemmas.{IsFoundIn, at_top, below_top, entry_in, found_in, inode_reached, last_object, named_alone}
use Rattle.law_walks.specs.kr_mounts.Standing.{texts_of}
use Rattle.kr_calm.specs.Above.{is_at_or_below}
use Rattle.kr_calm.specs.InUse.{is_remembered}
use Rattle.kr_calm.specs.Rules.{is_above_point, is_above_source, is_above_use, serves, serves_row, serves_use}
use Rattle.kr_calm.proofs.AboveLemmas.{equal-or-not, steps_are_enough}
use Rattle.kr_calm.proofs.RowLemmas.{some-row}
use Rattle.law_walks.specs.kr_model.ProcessDirectory.{space_of}
use Rattle.law_walks.specs.kr_model.State.{Image, State, inode_of}
use Rattle.law_walks.specs.Standing.{IsOpen}
use Rattle.law_walks.proofs.TableLemmas.{host_none, host_some, mount_below, source_text}
use Rattle.law_places.specs.Losses.{KeepsAbove, KeepsGuest, KeepsNames, KeepsTable, KeepsUse, KeepsWay, Losses, search_of}
use Rattle.law_places.specs.Standing.{PlacesStand, StandsAs}
use Rattle.law_places.specs.Taking.{SparesSearch}
use Rattle.law_places.specs.Uses.{IsUse, Use, has_name}
use Rattle.law_places.proofs.KeptLemmas.{host_lasts}
use Rattle.law_places.proofs.InUseLemmas.{directory_fails, remembered_fails}

-- a row that fails a test which none passes
pub row_fails : (test : Row → Bool) (table : List Row) (k : ℕ) (r : Row) → list_any test table ≡ false → row table k ≡ Some r → test r ≡ false
row_fails test table k r none there = false_from_ne_true (test r) (λ passes. let clash : true ≡ false = sym (some-row test table k r there passes) ∙ none in cc)

module _ (table : List Row) (s : State ℕ Image) (stand : PlacesStand table s) (i : ℕ) where
  abbrev t : Tree
  t = s.tree

  abbrev space : Namespace
  space = space_of table s

  abbrev finds : Finds
  finds = space.finds

  abbrev lost : Losses
  lost = search_of i

  abbrev bindings : List MountText
  bindings = texts_of table

  abbrev reach : Text → Option Host
  reach h = reaches t s.user finds h

  other : (d : ℕ) → d ≢ i → (d == i) ≡ false
  other d away = false_from_ne_true (d == i) (λ same. away (eqb-true d i same))

  names_kept : (h : Text) → KeepsNames lost t h
  names_kept [] = tt
  names_kept (name ∷ h) = (λ d n. refl, names_kept h)

  pub not_below : (d : ℕ) → is_at_or_below t i d ≡ false → ¬ IsBelow t i d
  not_below d e below = let clash : false ≡ true = sym e ∙ (steps_are_enough t i d stand.lawful.tree.sound).1 below in cc

  -- ---- what isn't below the inode

  -- nor is the directory in which it stands
  far_above : (name : List ℕ) (d x : Host) → is_directory_at t x ≡ true → object_in t finds name d ≡ Some x → ¬ IsBelow t i (inode_of x) → ¬ IsBelow t i (inode_of d)
  far_above name d (Node j) dir there far below =
      let e = entry_in t finds name d j there in
      let up : above t j ≡ Some e.ino = entry_stands t stand.lawful.tree.sound e.ino name j e.there dir in
      let at : IsBelow t i e.ino = subst (λ x. IsBelow t i (inode_of x)) e.is below in
      elim (equal-or-not j root) [
        | inl is ↦
            let rooted : above t j ≡ Some root = ap (above t) is ∙ ap (option_map (λ (s : Standing). s.inode)) stand.lawful.tree.sound.rooted in
            far (subst (IsBelow t i) (some_is e.ino root (sym up ∙ rooted) ∙ sym is) at)
        | inr away ↦ far (Below away up at)
      ]
  far_above name d (Proc j at) dir there far below = by d (found_in t finds name d j at there) below
    where
      by : (d : Host) → IsFoundIn t finds name j at d → IsBelow t i (inode_of d) → ⊥
      by _ (at_top is found) below = far below
      by _ (below_top up found) below = far below

  way_far : (h : Text) (x : Host) → reach h ≡ Some x → is_directory_at t x ≡ true → ¬ IsBelow t i (inode_of x) → KeepsWay lost t h
  way_far [] x way dir far = tt
  way_far (name ∷ h) x way dir far =
      let l = last_object t s.user finds h name x way in
      let up = far_above name l.dir x dir l.there far in (
        λ d nm. (
          refl,
          other d (λ is.
              let node : l.dir ≡ Node d = named_alone t s.user finds h d l.dir nm l.way in
              up (subst (λ x. IsBelow t i (inode_of x)) (sym node) (subst (IsBelow t i) (sym is) Here))),
        ),
        way_far h l.dir l.way l.is_dir up,
      )

  -- a way to what is no directory, in one that isn't below the inode
  entry_far : (name : List ℕ) (h : Text) (x : Host) (dir : ℕ) → reach (name ∷ h) ≡ Some x → reach h ≡ Some (Node dir) → ¬ IsBelow t i dir → KeepsWay lost t (name ∷ h)
  entry_far name h x dir way up far =
      let l = last_object t s.user finds h name x way in
      let is : l.dir ≡ Node dir = some_is l.dir (Node dir) (sym l.way ∙ up) in (
        λ d nm. (
          refl,
          other d (λ same.
              let node : Node dir ≡ Node d = named_alone t s.user finds h d (Node dir) nm up in
              let dirs : dir ≡ d = cc in
              far (subst (IsBelow t i) (sym (dirs ∙ same)) Here)),
        ),
        way_far h (Node dir) up (ap (is_directory_at t) (sym is) ∙ l.is_dir) far,
      )

  -- ---- where the inode is a directory that serves nothing

  module _ (rows : list_any (serves_row t i) table ≡ false) where
    row_far : (k : ℕ) (r : Row) → row table k ≡ Some r → serves_row t i r ≡ false
    row_far k r there = row_fails (serves_row t i) table k r rows there

    above_far : (g : Text) (x : Host) → reach (host_of bindings g) ≡ Some x → is_directory_at t x ≡ true → ¬ IsBelow t i (inode_of x) → IsOpen space g → KeepsAbove lost space g
    above_far [] x way dir far ways = tt
    above_far (n ∷ y) x way dir far ways =
        let up = ways.0 in
        let away = by (located bindings (n ∷ y)) refl in (
          way_far (host_of bindings y) up.dir up.way up.is_dir away,
          λ d nm. other d (λ is.
              let node : up.dir ≡ Node d = named_alone t s.user finds (host_of bindings y) d up.dir nm up.way in
              away (subst (λ x. IsBelow t i (inode_of x)) (sym node) (subst (IsBelow t i) (sym is) Here))),
          above_far y up.dir up.way up.is_dir away ways.1,
        )
      where
        by : (o : Option ℕ) → located bindings (n ∷ y) ≡ o → ¬ IsBelow t i (inode_of ways.0.dir)
        by None e =
            let l = last_object t s.user finds (host_of bindings y) n x (ap reach (sym (host_none bindings n y e)) ∙ way) in
            let same : l.dir ≡ ways.0.dir = some_is l.dir ways.0.dir (sym l.way ∙ ways.0.way) in
            subst (λ (d : Host). ¬ IsBelow t i (inode_of d)) same (far_above n l.dir x dir l.there far)
        by (Some k) e =
            let m = mount_below space stand.settled n y k e in
            let node : ways.0.dir ≡ Node m.point.dir = named_alone t s.user finds (host_of bindings y) m.point.dir ways.0.dir m.dir ways.0.way in
            let source : reach m.mount.text.source ≡ Some (Node m.mount.source) = inode_reached t s.user finds m.mount.text.source m.mount.source (stand.settled.sources k m.mount m.there) in
            let is : x ≡ Node m.mount.source = some_is x (Node m.mount.source) (sym way ∙ ap reach (host_some bindings n y k e ∙ source_text table k m.mount m.there) ∙ source) in
            let listed : body_is is_directory t m.mount.source ≡ true = ap (is_directory_at t) (sym is) ∙ dir in
            let mount = (or_parts (is_above_source t i m.mount) _ (row_far k m.mount m.there)).1 in
            let point : is_above_point t i m.mount ≡ false = ap (λ b. b && is_above_point t i m.mount) (sym listed) ∙ mount in
            let low : is_at_or_below t i m.point.dir ≡ false = ap (λ p. option_map_or (λ (p : Point). is_at_or_below t i p.dir) p false) (sym m.stands) ∙ point in
            subst (λ (d : Host). ¬ IsBelow t i (inode_of d)) (sym node) (not_below m.point.dir low)

    table_far : KeepsTable lost space
    table_far = record {
      sources = λ k r there. source k r there r.is_dir refl;
      points = λ k r name up there at. names_kept (host_of bindings up);
    }
      where
        kind : (o : Option Body) (b : Bool) → option_map is_directory o ≡ Some b → option_map_or is_directory o false ≡ b
        kind None b e = absurd cc
        kind (Some x) b e = some_is (is_directory x) b e

        source : (k : ℕ) (r : Row) → row table k ≡ Some r → (b : Bool) → r.is_dir ≡ b → KeepsWay lost t r.text.source
        source k r there true is =
            let far = (or_parts (is_at_or_below t i r.source) _ (or_parts (is_above_source t i r) _ (row_far k r there)).0).0 in
            way_far r.text.source (Node r.source) (inode_reached t s.user finds r.text.source r.source (stand.settled.sources k r there))
            (body_test is_directory t r.source ∙ kind (body t r.source) true (stand.settled.mounts.sources k r there ∙ ap Some is)) (not_below r.source far)
        source k r there false is =
            let far = (or_parts (is_at_or_below t i r.source) (is_at_or_below t i r.source_dir) (or_parts (is_above_source t i r) _ (row_far k r there)).0).1 in
            let e = stand.settled.entries k r there is in
            subst (KeepsWay lost t) (sym e.text)
            (entry_far r.source_name e.up (Node r.source) r.source_dir (ap reach (sym e.text) ∙ inode_reached t s.user finds r.text.source r.source (stand.settled.sources k r there)) (inode_reached t s.user finds e.up r.source_dir e.way) (not_below r.source_dir far))

    use_far : serves_use s i ≡ false → (x : Use) → IsUse s x → KeepsUse lost space x
    use_far unused x is = record {
      host = λ called. host_lasts lost t x.place.host ((stand.uses x is).called called).1.on.firm (λ pid. refl);
      guest = λ called guest at. on called guest at x.is_directory refl;
    }
      where
        parts : (is_above_use s i ≡ false) × (is_remembered (is_at_or_below t i) s ≡ false)
        parts = or_parts (is_above_use s i) (is_remembered (is_at_or_below t i) s) unused

        some_name : (b : Bool) → x.is_directory ≡ false → (x.is_directory || b) ≡ true → b ≡ true
        some_name b file called = ap (λ d. d || b) (sym file) ∙ called

        on : has_name x ≡ true → (guest : Text) (at : StandsAs space x guest) (b : Bool) → x.is_directory ≡ b → KeepsGuest lost space x guest
        on called guest at true e =
            let far = not_below (inode_of x.place.host) (directory_fails table s stand.lawful (λ host. is_at_or_below t i (inode_of host)) parts.0 x is e) in
            record {
              way = way_far (host_of bindings guest) x.place.host at.on.stands.way (at.kind ∙ e) far;
              above = λ _. above_far guest x.place.host at.on.stands.way (at.kind ∙ e) far (at.on.stands.above (at.kind ∙ e));
            }
        on called guest at false e =
            let en = at.entry e in
            let far = not_below x.dir (remembered_fails table s stand.lawful (is_at_or_below t i) parts.1 x is e (some_name (not (length x.name == 0)) e called)) in
            record {
              way = subst (KeepsWay lost t) (sym en.text) (entry_far x.name en.up x.place.host x.dir (ap reach (sym en.text) ∙ at.on.stands.way) en.way far);
              above = λ dir. let clash : true ≡ false = sym dir ∙ e in absurd cc;
            }

  -- ---- where the inode is no directory

  module _ (flat : body_is is_directory t i ≡ false) where
    no_directory : (h : Text) (x : Host) → reach h ≡ Some x → is_directory_at t x ≡ true → (d : ℕ) → named t h ≡ Some d → (d == i) ≡ false
    no_directory h x way dir d nm = other d (λ is.
        let node : x ≡ Node d = named_alone t s.user finds h d x nm way in
        let clash : true ≡ false = sym dir ∙ ap (is_directory_at t) node ∙ ap (body_is is_directory t) is ∙ flat in
        cc)

    way_flat : (h : Text) (x : Host) → reach h ≡ Some x → KeepsWay lost t h
    way_flat [] x way = tt
    way_flat (name ∷ h) x way =
        let l = last_object t s.user finds h name x way in
        (λ d nm. (refl, no_directory h l.dir l.way l.is_dir d nm), way_flat h l.dir l.way)

    above_flat : (g : Text) → IsOpen space g → KeepsAbove lost space g
    above_flat [] ways = tt
    above_flat (n ∷ y) ways =
        let up = ways.0 in
        (way_flat (host_of bindings y) up.dir up.way, no_directory (host_of bindings y) up.dir up.way up.is_dir, above_flat y ways.1)

    spares_flat : SparesSearch table s i
    spares_flat = record {
      mounts = record { sources = λ k r there. way_flat r.text.source (Node r.source) (inode_reached t s.user finds r.text.source r.source (stand.settled.sources k r there)); points = λ k r name up there at. names_kept (host_of bindings up) };
      uses = λ x is. record {
        host = λ called. host_lasts lost t x.place.host ((stand.uses x is).called called).1.on.firm (λ pid. refl);
        guest = λ called guest at. record { way = way_flat (host_of bindings guest) x.place.host at.on.stands.way; above = λ dir. above_flat guest (at.on.stands.above (at.kind ∙ dir)) };
      };
    }

  -- what serves nothing is spared
  pub spares_search : serves table s i ≡ false → SparesSearch table s i
  spares_search none = by (body_is is_directory t i) refl none
    where
      by : (b : Bool) → body_is is_directory t i ≡ b → (b && (list_any (serves_row t i) table || serves_use s i)) ≡ false → SparesSearch table s i
      by false flat e = spares_flat flat
      by true dir e =
          let parts = or_parts (list_any (serves_row t i) table) (serves_use s i) e in
          record { mounts = table_far parts.0; uses = use_far parts.0 parts.1 }
