-- What the rows of a settled table tell of guest texts, and of the names in directories.
use Rattle.std.proofs.Common.{◌≡◌, ◌≢◌, ◌<◌, ◌≤◌, ◌+◌, ℕ, zero, suc, Bool, true, false, cond, not, Option, Some, None, List, [], ◌∷◌, ◌++◌, length, get_or, refl, ap, sym, ◌∙◌, arith, nat_lt}
use Rattle.std.specs.Prelude.{position, slice_get}
use Rattle.std.specs.Bool.{Decides}
use Rattle.std.specs.List.{position_or_len}
use Rattle.std.specs.Option.{option_map, option_map_or, option_and_then}
use Rattle.std.proofs.lemmas.Bool.Decides.{same_from_decides, Decides-eqb, Decides-and, nat_tests}
use Rattle.std.proofs.lemmas.Bool.{false_from_ne_true}
use Rattle.std.proofs.lemmas.List.{append_cancel_right, length-map, length-append}
use Rattle.std.proofs.lemmas.List.Quantifiers.{position-Some}
use Rattle.std.proofs.lemmas.List.Sums.{fails_before_first}
use Rattle.std.proofs.lemmas.Option.{get_or_from_slice_get, slice_get-get_or, slice_get-map, slice_get_within}
use Rattle.std.proofs.lemmas.Slice.Eq.{bytes_eq-Decides}
use Rattle.pt_canon.specs.pr_base.MountText.{MountText}
use Rattle.pt_canon.specs.pr_base.Texts.{Text}
use Rattle.pt_canon.specs.pt_bind.Binding.{is_located, located, source_of, number_at, owner, host_at, host_of, index_of}
use Rattle.pt_canon.proofs.pt_bind.RowLemmas.{located_is}
use Rattle.kr_mounts.specs.kr_tree.declared.place.Place.{Place}
use Rattle.kr_mounts.specs.kr_tree.Tree.{Tree, Body, body, body_is, entry, is_directory}
use Rattle.kr_mounts.specs.kr_tree.Names.{named}
use Rattle.kr_mounts.proofs.kr_tree.EntryLemmas.{body_test, entry_in_directory, named_once, reached-named}
use Rattle.kr_mounts.proofs.kr_tree.NameLemmas.{map_some, some_is}
use Rattle.kr_mounts.specs.kr_view.Component.{Namespace}
use Rattle.kr_mounts.specs.kr_view.View.{Point, Row, down, is_point, is_there, node_in, plain_row, root_source, row, source_place, stands_at}
use Rattle.kr_mounts.proofs.kr_view.TableLemmas.{laws_of_places}
use Rattle.kr_mounts.specs.Standing.{behind, led, next_by_name, texts_of}
use Rattle.kr_mounts.proofs.StayLemmas.{is_a_directory}
use Rattle.law_walks.specs.Settled.{IsPointNamed, IsSettled}
use Rattle.law_walks.specs.Translation.{IsOwned, TextsAreOwned, TextsLeadAsTheirHostTexts}

-- ---- two tests that agree on each row pass at the same row first

first_alike : (one : Row → Bool) (two : MountText → Bool) (table : List Row) → ((k : ℕ) (r : Row) → row table k ≡ Some r → one r ≡ two r.text) → position_or_len one table ≡ position_or_len two (texts_of table)
first_alike one two [] h = refl
first_alike one two (r ∷ table) h =
    let here = h 0 r refl in
    let rest = first_alike one two table (λ k s e. h (suc k) s e) in
    ap (λ b. cond (not b) (1 + position_or_len one table) 0) here ∙ ap (λ n. cond (not (two r.text)) (1 + n) 0) rest

pub position_alike : (one : Row → Bool) (two : MountText → Bool) (table : List Row) → ((k : ℕ) (r : Row) → row table k ≡ Some r → one r ≡ two r.text) → position one table ≡ position two (texts_of table)
position_alike one two table h =
    ap (λ l. cond (nat_lt (position_or_len one table) l) (Some (position_or_len one table)) None) (sym (length-map table (λ (r : Row). r.text)))
    ∙ ap (λ k. cond (nat_lt k (length (texts_of table))) (Some k) None) (first_alike one two table h)

-- where no row passes first none passes
none_passes : (p : MountText → Bool) (xs : List MountText) → position p xs ≡ None → (k : ℕ) (x : MountText) → slice_get xs k ≡ Some x → p x ≡ false
none_passes p xs none k x there =
    let within = slice_get_within xs k x there in
    let fails : p (get_or xs k x) ≡ false = fails_before_first p xs k x (far (position_or_len p xs) (length xs) k (past (nat_lt (position_or_len p xs) (length xs)) (position_or_len p xs) none) within) in
    ap p (sym (get_or_from_slice_get xs k x x there)) ∙ fails
  where
    past : (b : Bool) (n : ℕ) → ◌≡◌ {A = Option ℕ} (cond b (Some n) None) None → b ≡ false
    past true n h = absurd cc
    past false n h = refl

    far : (n len k : ℕ) → nat_lt n len ≡ false → k < len → k < n
    far n len k h l = grind (arith, nat_tests)

-- ---- the row that is located at a text

module _ (table : List Row) where
  pub text_at : (k : ℕ) (r : Row) → row table k ≡ Some r → slice_get (texts_of table) k ≡ Some r.text
  text_at k r there = slice_get-map (λ (r : Row). r.text) table k ∙ ap (option_map (λ (r : Row). r.text)) there

  pub source_text : (k : ℕ) (r : Row) → row table k ≡ Some r → source_of (texts_of table) k ≡ r.text.source
  source_text k r there = ap (λ o. option_map_or (λ (x : MountText). x.source) o []) (text_at k r there)

  pub record IsRowAt (t : Text) (k : ℕ) : Type 0 where
    pub mount : Row
    pub there : row table k ≡ Some mount
    pub at : mount.text.location ≡ t

  pub located_some : (t : Text) (k : ℕ) → located (texts_of table) t ≡ Some k → IsRowAt t k
  located_some t k h =
      let f = position-Some (is_located t) (texts_of table) k plain_row.text h in
      let x = get_or (texts_of table) k plain_row.text in
      let r = map_some (λ (r : Row). r.text) (row table k) x (sym (slice_get-map (λ (r : Row). r.text) table k) ∙ slice_get-get_or (texts_of table) k plain_row.text f.0) in
      record { mount = r.0; there = r.1; at = ap (λ (x : MountText). x.location) r.2 ∙ (located_is x t).0 f.1 }

  pub located_none : (t : Text) → located (texts_of table) t ≡ None → (k : ℕ) (r : Row) → row table k ≡ Some r → r.text.location ≢ t
  located_none t none k r there same =
      let clash : true ≡ false = sym ((located_is r.text t).1 same) ∙ none_passes (is_located t) (texts_of table) none k r.text (text_at k r there) in
      let no : ⊥ = cc in no

-- a text and the one above it
module _ (bindings : List MountText) (name : List ℕ) (t : Text) where
  pub owner_some : (k : ℕ) → located bindings (name ∷ t) ≡ Some k → owner bindings (name ∷ t) ≡ k
  owner_some k e = ap (λ o. number_at o (owner bindings t)) e

  pub owner_none : located bindings (name ∷ t) ≡ None → owner bindings (name ∷ t) ≡ owner bindings t
  owner_none e = ap (λ o. number_at o (owner bindings t)) e

  pub host_some : (k : ℕ) → located bindings (name ∷ t) ≡ Some k → host_of bindings (name ∷ t) ≡ source_of bindings k
  host_some k e = ap (λ o. host_at bindings o (name ∷ host_of bindings t)) e

  pub host_none : located bindings (name ∷ t) ≡ None → host_of bindings (name ∷ t) ≡ name ∷ host_of bindings t
  host_none e = ap (λ o. host_at bindings o (name ∷ host_of bindings t)) e

module _ (space : Namespace) (set : IsSettled space) where
  abbrev table : List Row
  table = space.table

  abbrev bindings : List MountText
  bindings = texts_of space.table

  abbrev tree : Tree
  tree = space.tree

  -- ---- the guest's root

  abbrev pub root_row : Row
  root_row = set.mounts.rooted.0

  pub root_there : row table 0 ≡ Some root_row
  root_there = set.mounts.rooted.1

  pub root_location : root_row.text.location ≡ []
  root_location = set.mounts.lawful.root_location root_row root_there

  pub root_source_is : root_source table ≡ root_row.source
  root_source_is = at table root_row root_there
    where
      at : (table : List Row) (r : Row) → row table 0 ≡ Some r → root_source table ≡ r.source
      at [] r h = absurd cc
      at (s ∷ rows) r h = ap (λ (r : Row). r.source) (some_is s r h)

  pub root_directory : body_is is_directory tree (root_source table) ≡ true
  root_directory = body_test is_directory tree (root_source table) ∙ by (body tree (root_source table)) (laws_of_places tree table set.mounts).root_kind
    where
      by : (o : Option Body) → option_map is_directory o ≡ Some true → option_map_or is_directory o false ≡ true
      by None kind = absurd cc
      by (Some x) kind = some_is (is_directory x) true kind

  -- what a source is named by its host text
  pub source_named : (k : ℕ) (r : Row) → row table k ≡ Some r → named tree r.text.source ≡ Some r.source
  source_named k r there = reached-named tree space.user r.text.source r.source (set.sources k r there)

  -- ---- a mount that is located below a text

  pub record IsMountBelow (name : List ℕ) (t : Text) (k : ℕ) : Type 0 where
    pub mount : Row
    pub there : row table k ≡ Some mount
    pub later : k ≢ 0
    pub at : mount.text.location ≡ name ∷ t
    pub point : Point
    pub stands : mount.point ≡ Some point
    pub called : point.name ≡ name
    pub in_mount : point.mount ≡ owner bindings t
    pub dir : named tree (host_of bindings t) ≡ Some point.dir
    pub is_dir : body_is is_directory tree point.dir ≡ true

  pub mount_below : (name : List ℕ) (t : Text) (k : ℕ) → located bindings (name ∷ t) ≡ Some k → IsMountBelow name t k
  mount_below name t k h = let l = located_some table (name ∷ t) k h in by k l.mount l.there l.at
    where
      by : (k : ℕ) (r : Row) → row table k ≡ Some r → r.text.location ≡ name ∷ t → IsMountBelow name t k
      by zero r there at = let clash : [] ≡ name ∷ t = sym (set.mounts.lawful.root_location r there) ∙ at in absurd cc
      by (suc j) r there at =
          let p = set.mounts.lawful.later_point j r there in
          let s = set.points (suc j) r p.0 there p.1 in
          let heads : p.0.name ∷ s.up ≡ name ∷ t = sym {b = p.0.name ∷ s.up} s.location ∙ at in
          let same : s.up ≡ t = cc in
          let called : p.0.name ≡ name = cc in
          record {
            mount = r;
            there = there;
            later = λ e. absurd cc;
            at = at;
            point = p.0;
            stands = p.1;
            called = called;
            in_mount = s.mount ∙ ap (owner bindings) same;
            dir = ap (λ u. named tree (host_of bindings u)) (sym same) ∙ s.dir;
            is_dir = is_a_directory tree p.0.dir (set.mounts.points (suc j) r p.0 there p.1).listed;
          }

  -- ---- a text is what is left below the location of its mount

  index_is : (t : Text) (r : Row) → row table (owner bindings t) ≡ Some r → index_of bindings t ≡ r.text.index
  index_is t r there = ap (λ o. option_map_or (λ (x : MountText). x.index) o 0) (text_at table (owner bindings t) r there)

  pub owned : (t : Text) → IsOwned space t
  owned [] = record {
    mount = root_row;
    there = root_there;
    index = index_is [] root_row root_there;
    rest = [];
    parted = sym root_location;
    host = source_text table 0 root_row root_there;
    longest = λ k r more e p. let long = length-append more r.text.location in let whole = ap length p in omega (arith, long, whole);
  }
  owned (name ∷ t) = at (located bindings (name ∷ t)) refl (owned t)
    where
      at : (o : Option ℕ) → located bindings (name ∷ t) ≡ o → IsOwned space t → IsOwned space (name ∷ t)
      at (Some k) e w =
          let l = located_some table (name ∷ t) k e in
          record {
            mount = l.mount;
            there = ap (row table) (owner_some bindings name t k e) ∙ l.there;
            index = index_is (name ∷ t) l.mount (ap (row table) (owner_some bindings name t k e) ∙ l.there);
            rest = [];
            parted = sym l.at;
            host = host_some bindings name t k e ∙ source_text table k l.mount l.there;
            longest = λ j r more there p. let long = length-append more r.text.location in let whole = ap length (l.at ∙ p) in omega (arith, long, whole);
          }
      at None e w = record {
        mount = w.mount;
        there = ap (row table) (owner_none bindings name t e) ∙ w.there;
        index = index_is (name ∷ t) w.mount (ap (row table) (owner_none bindings name t e) ∙ w.there);
        rest = name ∷ w.rest;
        parted = ap (λ l. name ∷ l) w.parted;
        host = host_none bindings name t e ∙ ap (λ l. name ∷ l) w.host;
        longest = shorter;
      }
        where
          shorter : (j : ℕ) (r : Row) (more : Text) → row table j ≡ Some r → name ∷ t ≡ more ++ r.text.location → length r.text.location ≤ length w.mount.text.location
          shorter j r [] there p = absurd (located_none table (name ∷ t) e j r there (sym p))
          shorter j r (first ∷ more) there p = let same : t ≡ more ++ r.text.location = cc in w.longest j r more there same

  -- a mount and a host text give back the guest text
  pub one_text : (t u : Text) → owner bindings t ≡ owner bindings u → host_of bindings t ≡ host_of bindings u → t ≡ u
  one_text t u e h =
      let w = owned t in
      let v = owned u in
      let rows : w.mount ≡ v.mount = some_is w.mount v.mount (sym w.there ∙ ap (row table) e ∙ v.there) in
      let hosts : w.rest ++ v.mount.text.source ≡ v.rest ++ v.mount.text.source = ap (λ (x : Row). w.rest ++ x.text.source) (sym rows) ∙ sym w.host ∙ h ∙ v.host in
      let rests : w.rest ≡ v.rest = append_cancel_right w.rest v.rest v.mount.text.source hosts in
      w.parted ∙ ap (λ (x : Row). w.rest ++ x.text.location) rows ∙ ap (λ l. l ++ v.mount.text.location) rests ∙ sym v.parted

  -- ---- mount points and locations

  module _ (m d : ℕ) (t : Text) (mount : m ≡ owner bindings t) (names : named tree (host_of bindings t) ≡ Some d) (is_dir : body_is is_directory tree d ≡ true) (name : List ℕ) where
    point_is : (r : Row) (p : Point) (s : IsPointNamed space r p) → Decides (is_point m d name p) (r.text.location ≡ name ∷ t)
    point_is r p s =
        let parts : Decides (is_point m d name p) ((p.mount ≡ m) × ((p.dir ≡ d) × (p.name ≡ name))) = Decides-and _ _ (Decides-eqb p.mount m) (Decides-and _ _ (Decides-eqb p.dir d) (bytes_eq-Decides p.name name)) in (
          (λ y.
              let w = parts.0 y in
              let hosts : host_of bindings s.up ≡ host_of bindings t = named_once tree set.sound (host_of bindings s.up) (host_of bindings t) d (s.dir ∙ ap Some w.1.0) names is_dir in
              let same : s.up ≡ t = one_text s.up t (sym s.mount ∙ w.0 ∙ mount) hosts in
              s.location ∙ ap (λ n. n ∷ s.up) w.1.1 ∙ ap (λ u. name ∷ u) same),
          (λ e.
              let heads : p.name ∷ s.up ≡ name ∷ t = sym {b = p.name ∷ s.up} s.location ∙ e in
              let same : s.up ≡ t = cc in
              let called : p.name ≡ name = cc in
              let mounts : p.mount ≡ m = s.mount ∙ ap (owner bindings) same ∙ sym mount in
              let dirs : p.dir ≡ d = some_is p.dir d (sym s.dir ∙ ap (λ u. named tree (host_of bindings u)) same ∙ names) in
              parts.1 (mounts, (dirs, called))),
        )

    row_alike : (k : ℕ) (r : Row) → row table k ≡ Some r → stands_at (is_point m d name) r ≡ is_located (name ∷ t) r.text
    row_alike zero r there =
        let elsewhere : is_located (name ∷ t) r.text ≡ false = false_from_ne_true _ (λ e.
        let clash : [] ≡ name ∷ t = sym (set.mounts.lawful.root_location r there) ∙ (located_is r.text (name ∷ t)).0 e in cc) in
        ap (λ p. option_map_or (is_point m d name) p false) (set.mounts.lawful.root_point r there) ∙ sym elsewhere
    row_alike (suc j) r there =
        let p = set.mounts.lawful.later_point j r there in
        ap (λ o. option_map_or (is_point m d name) o false) p.1 ∙ same_from_decides (is_point m d name p.0) (is_located (name ∷ t) r.text) (point_is r p.0 (set.points (suc j) r p.0 there p.1)) (located_is r.text (name ∷ t))

    -- a name of a directory enters the mount that is located at the directory's text and the name
    pub down_is_located : down table m d name ≡ option_and_then (source_place table) (located bindings (name ∷ t))
    down_is_located = ap (option_and_then (source_place table)) (position_alike (stands_at (is_point m d name)) (is_located (name ∷ t)) table row_alike)

  -- where no location stands at a text, its place isn't the source of its mount
  pub not_source : (i : ℕ) (name : List ℕ) (t : Text) → named tree (name ∷ host_of bindings t) ≡ Some i → body_is is_directory tree i ≡ true → (r : Row) → row table (owner bindings t) ≡ Some r → r.source ≢ i
  not_source i name t way is_dir r there same =
      let w = owned t in
      let rows : w.mount ≡ r = some_is w.mount r (sym w.there ∙ there) in
      let texts : r.text.source ≡ name ∷ host_of bindings t = named_once tree set.sound r.text.source (name ∷ host_of bindings t) i (source_named (owner bindings t) r there ∙ ap Some same) way is_dir in
      let long : host_of bindings t ≡ w.rest ++ r.text.source = w.host ∙ ap (λ (x : Row). w.rest ++ x.text.source) rows in
      omega (arith, ap length texts, ap length long, length-append w.rest r.text.source)

  -- ---- where names lead

  -- what has no entries has no mount points
  no_point : (m d : ℕ) (name : List ℕ) → body_is is_directory tree d ≡ false → down table m d name ≡ None
  no_point m d name other = by (down table m d name) refl
    where
      by : (o : Option (Place ℕ)) → down table m d name ≡ o → o ≡ None
      by None e = refl
      by (Some q) e =
          let laws = laws_of_places tree table set.mounts in
          let listed = (laws.covered_there d name (laws.down_covered m d name (ap is_there e))).0 in
          let clash : true ≡ false = sym (is_a_directory tree d listed) ∙ other in absurd cc

  no_entry : (d : ℕ) (name : List ℕ) → body_is is_directory tree d ≡ false → entry tree d name ≡ None
  no_entry d name other = by (entry tree d name) refl
    where
      by : (o : Option ℕ) → entry tree d name ≡ o → o ≡ None
      by None e = refl
      by (Some i) e = let clash : true ≡ false = sym (entry_in_directory tree d name i e) ∙ other in absurd cc

  abbrev leads_at : Text → Option (Place ℕ)
  leads_at t = option_map (node_in (owner bindings t)) (named tree (host_of bindings t))

  -- what a text leads to by a name, where the text above it leads to a directory, or to nothing
  lead_some : (name : List ℕ) (t : Text) (k : ℕ) → located bindings (name ∷ t) ≡ Some k → (b : IsMountBelow name t k) → option_and_then (λ (p : Place ℕ). next_by_name table tree name p.mount p.host) (leads_at t) ≡ leads_at (name ∷ t)
  lead_some name t k e b =
      ap (λ o. option_and_then (λ (p : Place ℕ). next_by_name table tree name p.mount p.host) (option_map (node_in (owner bindings t)) o)) b.dir
      ∙ ap (behind (owner bindings t) (entry tree b.point.dir name)) (down_is_located (owner bindings t) b.point.dir t refl b.dir b.is_dir name ∙ ap (option_and_then (source_place table)) e ∙ ap (option_map (λ (r : Row). node_in k r.source)) b.there)
      ∙ sym (ap (option_map (node_in (owner bindings (name ∷ t)))) (ap (named tree) (host_some bindings name t k e ∙ source_text table k b.mount b.there) ∙ source_named k b.mount b.there) ∙ ap (λ m. Some (node_in m b.mount.source)) (owner_some bindings name t k e))

  lead_none : (name : List ℕ) (t : Text) → located bindings (name ∷ t) ≡ None → (o : Option ℕ) → named tree (host_of bindings t) ≡ o
      → option_and_then (λ (p : Place ℕ). next_by_name table tree name p.mount p.host) (option_map (node_in (owner bindings t)) o) ≡ option_map (node_in (owner bindings t)) (option_and_then (λ dir. entry tree dir name) o)
  lead_none name t e None is = refl
  lead_none name t e (Some d) is = by (body_is is_directory tree d) refl
    where
      by : (b : Bool) → body_is is_directory tree d ≡ b → behind (owner bindings t) (entry tree d name) (down table (owner bindings t) d name) ≡ option_map (node_in (owner bindings t)) (entry tree d name)
      by true is_dir = ap (behind (owner bindings t) (entry tree d name)) (down_is_located (owner bindings t) d t refl is is_dir name ∙ ap (option_and_then (source_place table)) e)
      by false other = ap (behind (owner bindings t) (entry tree d name)) (no_point (owner bindings t) d name other)

  pub leads_as : (t : Text) → led table tree t ≡ leads_at t
  leads_as [] =
      ap (λ i. Some (node_in 0 i)) root_source_is ∙ sym (ap (option_map (node_in 0)) (ap (named tree) (source_text table 0 root_row root_there) ∙ source_named 0 root_row root_there))
  leads_as (name ∷ t) = ap (option_and_then (λ (p : Place ℕ). next_by_name table tree name p.mount p.host)) (leads_as t) ∙ at (located bindings (name ∷ t)) refl
    where
      at : (o : Option ℕ) → located bindings (name ∷ t) ≡ o → option_and_then (λ (p : Place ℕ). next_by_name table tree name p.mount p.host) (leads_at t) ≡ leads_at (name ∷ t)
      at (Some k) e = lead_some name t k e (mount_below name t k e)
      at None e =
          lead_none name t e (named tree (host_of bindings t)) refl
          ∙ sym (ap (λ h. option_map (node_in (owner bindings (name ∷ t))) (named tree h)) (host_none bindings name t e) ∙ ap (λ m. option_map (node_in m) (named tree (name ∷ host_of bindings t))) (owner_none bindings name t e))

pub texts_lead_as_their_host_texts : TextsLeadAsTheirHostTexts
texts_lead_as_their_host_texts space t set = leads_as space set t

pub texts_are_owned : TextsAreOwned
texts_are_owned space t set = owned space set t
