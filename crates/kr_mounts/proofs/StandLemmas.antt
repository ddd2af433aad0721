-- Tables that stand in a tree, one mount after the other.
use Rattle.std.proofs.Common.{◌≡◌, ◌≢◌, ◌≤◌, ◌<◌, ◌⊎◌, inl, inr, ℕ, zero, suc, Bool, true, false, ◌&&◌, List, [], ◌∷◌, ◌++◌, cond, length, Option, Some, None, slice_get, nat_eq, refl, ap, sym, subst, ◌∙◌, arith}
use Rattle.std.specs.Prelude.{position}
use Rattle.std.specs.Str.{bytes_eq}
use Rattle.std.specs.Option.{option_map, option_map_or, option_and_then, option_or}
use Rattle.std.proofs.lemmas.Bool.{and_parts, eq-eqb, eqb-true}
use Rattle.std.proofs.lemmas.List.{append_cancel_right}
use Rattle.std.proofs.lemmas.List.Elements.{All-cons, All-nil}
use Rattle.std.proofs.lemmas.Slice.Eq.{bytes_eq-Decides}
use Rattle.pt_bind.specs.pr_base.Paths.{AreNames, IsName}
use Rattle.pt_bind.specs.pr_base.Texts.{Text}
use Rattle.kr_walk.specs.kr_tree.declared.place.Host.{Host}
use Rattle.kr_walk.specs.kr_tree.declared.place.Host.TheVariants.{Node, Proc}
use Rattle.kr_walk.specs.kr_tree.declared.place.Place.{Place}
use Rattle.kr_walk.specs.kr_tree.Lawful.{IsSound, IsCounted}
use Rattle.kr_walk.specs.kr_tree.Names.{named}
use Rattle.kr_walk.specs.kr_tree.Tree.{Tree, body, body_is, entry, is_directory}
use Rattle.kr_walk.proofs.kr_tree.EntryLemmas.{entry_named_well, named_once}
use Rattle.kr_walk.proofs.kr_tree.NameLemmas.{map_some, some_is, then_some}
use Rattle.kr_walk.specs.kr_view.View.{Point, PointStands, Row, down, is_name_at, is_point, is_there, node_in, root_place, root_source, row, source_place, stands_at}
use Rattle.kr_walk.proofs.kr_view.TableLemmas.{first_passes, point_there, there_is}
use Rattle.kr_mounts.specs.Growth.{HasAllBefore}
use Rattle.kr_mounts.specs.Standing.{behind, led, next_by_name}
use Rattle.kr_mounts.proofs.IndexLemmas.{position_push}
use Rattle.kr_mounts.proofs.StayLemmas.{entry_stays, is_a_directory, kind_stays, led_stays, listed_stays, named_stays}
use Rattle.kr_mounts.proofs.WayLemmas.{node_number}

-- ---- lists

pub get_left : {A : Type 0} (xs ys : List A) (k : ℕ) (x : A) → slice_get xs k ≡ Some x → slice_get (xs ++ ys) k ≡ Some x
get_left [] ys k x h = absurd cc
get_left (y ∷ xs) ys zero x h = h
get_left (y ∷ xs) ys (suc k) x h = get_left xs ys k x h

pub get_last : {A : Type 0} (xs : List A) (x : A) → slice_get (xs ++ x ∷ []) (length xs) ≡ Some x
get_last [] x = refl
get_last (y ∷ xs) x = get_last xs x

pub get_any : {A : Type 0} (xs : List A) (x : A) (k : ℕ) (y : A) → slice_get (xs ++ x ∷ []) k ≡ Some y → (slice_get xs k ≡ Some y) ⊎ ((k ≡ length xs) × (y ≡ x))
get_any [] x zero y h = inr (refl, sym (some_is x y h))
get_any [] x (suc k) y h = absurd cc
get_any (z ∷ xs) x zero y h = inl h
get_any (z ∷ xs) x (suc k) y h = elim (get_any xs x k y h) [ inl e ↦ inl e | inr e ↦ inr (ap suc e.0, e.1) ]

-- ---- points

abbrev pub point_at : ℕ → ℕ → List ℕ → Point
point_at m d name = record { mount = m; dir = d; name = name }

point_is : (m d : ℕ) (name : List ℕ) (p : Point) → is_point m d name p ≡ true → p ≡ point_at m d name
point_is m d name p h =
    let one = and_parts (nat_eq p.mount m) (is_name_at d name p) h in
    let two = and_parts (nat_eq p.dir d) (bytes_eq p.name name) one.1 in
    let mount = eqb-true p.mount m one.0 in
    let dir = eqb-true p.dir d two.0 in
    let called = (bytes_eq-Decides p.name name).0 two.1 in
    λ i. record { mount = mount i; dir = dir i; name = called i }

point_itself : (p : Point) → is_point p.mount p.dir p.name p ≡ true
point_itself p =
    let mount = eq-eqb p.mount p.mount refl in
    let dir = eq-eqb p.dir p.dir refl in
    let called = (bytes_eq-Decides p.name p.name).1 refl in
    λ i. mount i && (dir i && called i)

-- the first mount that stands at a point
pub point_found : (table : List Row) (m d : ℕ) (name : List ℕ) (k : ℕ) → position (stands_at (is_point m d name)) table ≡ Some k → (r : Row) × (row table k ≡ Some r) × (r.point ≡ Some (point_at m d name))
point_found table m d name k h =
    let first = first_passes (stands_at (is_point m d name)) table k h in
    let p = point_there (is_point m d name) first.0 first.2 in
    (first.0, first.1, p.1 ∙ ap Some (point_is m d name p.0 p.2))

-- ---- what stands

-- a text of a place: the names below a mount's source, below its location
pub record IsNamed (t : Tree) (table : List Row) (m d : ℕ) (text : Text) : Type 0 where
  pub mount : Row
  pub there : row table m ≡ Some mount
  pub rest : Text
  pub below : text ≡ rest ++ mount.text.location
  pub leads : named t (rest ++ mount.text.source) ≡ Some d
  pub names : AreNames text

pub record StandsAt (t : Tree) (table : List Row) (k : ℕ) (r : Row) (p : Point) : Type 0 where
  pub up : Text
  pub located : r.text.location ≡ p.name ∷ up
  pub is_led : led table t up ≡ Some (node_in p.mount p.dir)
  pub is_named : IsNamed t table p.mount p.dir up
  pub stands : PointStands t k p
  pub above : Text
  pub told : r.text.point ≡ Some (p.name ∷ above)
  pub leads : named t above ≡ Some p.dir

pub record HasSource (t : Tree) (r : Row) : Type 0 where
  pub leads : named t r.text.source ≡ Some r.source
  pub kind : option_map is_directory (body t r.source) ≡ Some r.is_dir
  pub called : r.is_dir ≡ false → IsName r.source_name
  pub entered : r.is_dir ≡ false → entry t r.source_dir r.source_name ≡ Some r.source

pub record Stands (t : Tree) (table : List Row) : Type 0 where
  pub sound : IsSound t
  pub counted : IsCounted t
  pub guest : Row
  pub others : List Row
  pub first : table ≡ guest ∷ others
  pub root_index : guest.text.index ≡ 0
  pub root_location : guest.text.location ≡ []
  pub root_told : guest.text.point ≡ None
  pub root_point : guest.point ≡ None
  pub root_dir : guest.is_dir ≡ true
  pub sources : (k : ℕ) (r : Row) → row table k ≡ Some r → HasSource t r
  pub points : (k : ℕ) (r : Row) → row table (suc k) ≡ Some r → (p : Point) × (r.point ≡ Some p) × StandsAt t table (suc k) r p
  pub are_led : (k : ℕ) (r : Row) → row table k ≡ Some r → led table t r.text.location ≡ Some (node_in k r.source)
  pub own_location : (j k : ℕ) (q r : Row) → row table j ≡ Some q → row table k ≡ Some r → q.text.location ≡ r.text.location → j ≡ k

-- ---- names that are made

module _ (t v : Tree) (before : HasAllBefore t v) where
  source_stays : (r : Row) → HasSource t r → HasSource v r
  source_stays r s = record {
    leads = named_stays t v before r.text.source r.source s.leads;
    kind = kind_stays t v before r.source r.is_dir s.kind;
    called = s.called;
    entered = λ is. entry_stays t v before r.source_dir r.source_name r.source (s.entered is);
  }

  is_named_stays : (table : List Row) (m d : ℕ) (text : Text) → IsNamed t table m d text → IsNamed v table m d text
  is_named_stays table m d text n = record {
    mount = n.mount;
    there = n.there;
    rest = n.rest;
    below = n.below;
    leads = named_stays t v before (n.rest ++ n.mount.text.source) d n.leads;
    names = n.names;
  }

  entry_there : (dir : ℕ) (name : List ℕ) → is_there (entry t dir name) ≡ true → is_there (entry v dir name) ≡ true
  entry_there dir name h = let e = there_is (entry t dir name) h in ap is_there (entry_stays t v before dir name e.0 e.1)

  stands_at_stays : (table : List Row) (k : ℕ) (r : Row) (p : Point) → StandsAt t table k r p → StandsAt v table k r p
  stands_at_stays table k r p s = record {
    up = s.up;
    located = s.located;
    is_led = led_stays t v before table s.up (node_in p.mount p.dir) s.is_led;
    is_named = is_named_stays table p.mount p.dir s.up s.is_named;
    stands = record { before = s.stands.before; named = s.stands.named; listed = listed_stays t v before p.dir s.stands.listed; there = entry_there p.dir p.name s.stands.there };
    above = s.above;
    told = s.told;
    leads = named_stays t v before s.above p.dir s.leads;
  }

  pub stands_still : (table : List Row) → Stands t table → Stands v table
  stands_still table s = record {
    sound = before.sound;
    counted = before.counted;
    guest = s.guest;
    others = s.others;
    first = s.first;
    root_index = s.root_index;
    root_location = s.root_location;
    root_told = s.root_told;
    root_point = s.root_point;
    root_dir = s.root_dir;
    sources = λ k r h. source_stays r (s.sources k r h);
    points = λ k r h. let p = s.points k r h in (p.0, p.1, stands_at_stays table (suc k) r p.0 p.2);
    are_led = λ k r h. led_stays t v before table r.text.location (node_in k r.source) (s.are_led k r h);
    own_location = s.own_location;
  }

-- ---- where names lead

module _ (t : Tree) (table : List Row) (s : Stands t table) where
  pub root_there : row table 0 ≡ Some s.guest
  root_there = ap (λ rows. row rows 0) s.first

  pub root_source_is : root_source table ≡ s.guest.source
  root_source_is = ap root_source s.first

  -- a directory has one text in a mount
  unique : (m d : ℕ) (a b : Text) → IsNamed t table m d a → IsNamed t table m d b → body_is is_directory t d ≡ true → a ≡ b
  unique m d a b one two dir =
      let same : one.mount ≡ two.mount = some_is one.mount two.mount (sym one.there ∙ two.there) in
      let src = one.mount.text.source in
      let leads : named t (two.rest ++ src) ≡ Some d = ap (λ (r : Row). named t (two.rest ++ r.text.source)) same ∙ two.leads in
      let texts : one.rest ++ src ≡ two.rest ++ src = named_once t s.sound (one.rest ++ src) (two.rest ++ src) d one.leads leads dir in
      let rests : one.rest ≡ two.rest = append_cancel_right one.rest two.rest src texts in
      one.below ∙ ap (λ rest. rest ++ one.mount.text.location) rests ∙ ap (λ (r : Row). two.rest ++ r.text.location) same ∙ sym two.below

  -- the row at a point is located where the point's text says
  pub located_at : (k : ℕ) (r : Row) (m d : ℕ) (name : List ℕ) (text : Text) → row table k ≡ Some r → r.point ≡ Some (point_at m d name) → IsNamed t table m d text → (r.text.location ≡ name ∷ text) × IsName name
  located_at zero r m d name text there point is =
      let same : s.guest ≡ r = some_is s.guest r (sym root_there ∙ there) in
      let clash : None ≡ Some (point_at m d name) = sym s.root_point ∙ ap (λ (r : Row). r.point) same ∙ point in
      absurd (let no : ⊥ = cc in no)
  located_at (suc k) r m d name text there point is =
      let p = s.points k r there in
      let same : p.0 ≡ point_at m d name = some_is p.0 (point_at m d name) (sym p.1 ∙ point) in
      let P : Point → Type 0 = λ p. (r.text.location ≡ p.name ∷ text) × IsName p.name in
      let there_text : p.2.up ≡ text =
      unique p.0.mount p.0.dir p.2.up text p.2.is_named (let Q : Point → Type 0 = λ p. IsNamed t table p.mount p.dir text in subst Q (sym same) is) (is_a_directory t p.0.dir p.2.stands.listed) in
      subst P same (p.2.located ∙ ap (λ up. p.0.name ∷ up) there_text, p.2.stands.named)

  step_named : (text : Text) (name : List ℕ) (m0 d0 : ℕ) → IsNamed t table m0 d0 text → (o : Option (Place ℕ)) → down table m0 d0 name ≡ o → (q : Place ℕ) → behind m0 (entry t d0 name) o ≡ Some q
      → IsNamed t table q.mount (node_number q.host) (name ∷ text)
  step_named text name m0 d0 is None e q h =
      let i = map_some (node_in m0) (entry t d0 name) q h in
      let P : Place ℕ → Type 0 = λ q. IsNamed t table q.mount (node_number q.host) (name ∷ text) in
      subst P i.2 (record {
        mount = is.mount;
        there = is.there;
        rest = name ∷ is.rest;
        below = ap (λ text. name ∷ text) is.below;
        leads = ap (option_and_then (λ dir. entry t dir name)) is.leads ∙ i.1;
        names = All-cons IsName name text (entry_named_well t s.sound d0 name i.0 i.1) is.names;
      })
  step_named text name m0 d0 is (Some p) e q h =
      let k = then_some (source_place table) (position (stands_at (is_point m0 d0 name)) table) p e in
      let r = map_some (λ (r : Row). node_in k.0 r.source) (row table k.0) p k.2 in
      let found = point_found table m0 d0 name k.0 k.1 in
      let same : found.0 ≡ r.0 = some_is found.0 r.0 (sym found.1 ∙ r.1) in
      let point : r.0.point ≡ Some (point_at m0 d0 name) = ap (λ (r : Row). r.point) (sym same) ∙ found.2 in
      let at = located_at k.0 r.0 m0 d0 name text r.1 point is in
      let P : Place ℕ → Type 0 = λ q. IsNamed t table q.mount (node_number q.host) (name ∷ text) in
      subst P (r.2 ∙ some_is p q h) (record {
        mount = r.0;
        there = r.1;
        rest = [];
        below = sym at.0;
        leads = (s.sources k.0 r.0 r.1).leads;
        names = All-cons IsName name text at.1 is.names;
      })

  host_named : (text : Text) (name : List ℕ) (q0 : Place ℕ) → IsNamed t table q0.mount (node_number q0.host) text → (h : Host) → q0.host ≡ h → (q : Place ℕ) → next_by_name table t name q0.mount h ≡ Some q
      → IsNamed t table q.mount (node_number q.host) (name ∷ text)
  host_named text name q0 is (Node d0) e q h =
      let P : Host → Type 0 = λ h. IsNamed t table q0.mount (node_number h) text in
      step_named text name q0.mount d0 (subst P e is) (down table q0.mount d0 name) refl q h
  host_named text name q0 is (Proc i at) e q h = absurd cc

  pub named_where : (text : Text) (q : Place ℕ) → led table t text ≡ Some q → IsNamed t table q.mount (node_number q.host) text
  named_where [] q h =
      let P : Place ℕ → Type 0 = λ q. IsNamed t table q.mount (node_number q.host) [] in
      subst P (some_is (root_place table) q h) (record {
        mount = s.guest;
        there = root_there;
        rest = [];
        below = sym s.root_location;
        leads = (s.sources 0 s.guest root_there).leads ∙ ap Some (sym root_source_is);
        names = All-nil IsName;
      })
  named_where (name ∷ text) q h =
      let up = then_some (λ (p : Place ℕ). next_by_name table t name p.mount p.host) (led table t text) q h in
      host_named text name up.0 (named_where text up.0 up.1) up.0.host refl q up.2

  -- ---- one mount more

  module _ (r : Row) (p : Point) (is : r.point ≡ Some p) (own : StandsAt t table (length table) r p) (source : HasSource t r) (is_last : (k : ℕ) (q : Row) → row table k ≡ Some q → (length q.text.location ≤ length r.text.location) × (q.text.location ≢ r.text.location)) where
    abbrev more : List Row
    more = table ++ r ∷ []

    -- no part of a text is the new location
    abbrev Misses : Text → Type 0
    Misses [] = Unit {0}
    Misses (name ∷ text) = (name ∷ text ≢ r.text.location) × Misses text

    shorter_misses : (text : Text) → length text < length r.text.location → Misses text
    shorter_misses [] less = tt
    shorter_misses (name ∷ text) less = (differ, shorter_misses text (let one : length text < length (name ∷ text) = omega arith in omega arith))
      where
        differ : name ∷ text ≢ r.text.location
        differ e = let same : length (name ∷ text) ≡ length r.text.location = ap length e in let no : ⊥ = omega arith in no

    other_misses : (text : Text) → length text ≤ length r.text.location → text ≢ r.text.location → Misses text
    other_misses [] less differ = tt
    other_misses (name ∷ text) less differ = (differ, shorter_misses text (let one : length text < length (name ∷ text) = omega arith in omega arith))

    source_at : (k : ℕ) (q : Place ℕ) → source_place table k ≡ Some q → source_place more k ≡ Some q
    source_at k q h =
        let x = map_some (λ (r : Row). node_in k r.source) (row table k) q h in
        ap (option_map (λ (r : Row). node_in k r.source)) (get_left table (r ∷ []) k x.0 x.1) ∙ ap Some x.2

    -- a point at which a mount stands
    down_old : (m d : ℕ) (name : List ℕ) (q : Place ℕ) → down table m d name ≡ Some q → down more m d name ≡ Some q
    down_old m d name q h =
        let k = then_some (source_place table) (position (stands_at (is_point m d name)) table) q h in
        let first : position (stands_at (is_point m d name)) more ≡ Some k.0 =
        position_push (stands_at (is_point m d name)) table r ∙ ap (λ o. option_or o (cond (stands_at (is_point m d name) r) (Some (length table)) None)) k.1 in
        ap (option_and_then (source_place more)) first ∙ source_at k.0 q k.2

    -- a point at which none stands
    none_first : (m d : ℕ) (name : List ℕ) (o : Option ℕ) → position (stands_at (is_point m d name)) table ≡ o → down table m d name ≡ None → o ≡ None
    none_first m d name None e h = refl
    none_first m d name (Some k) e h =
        let found = point_found table m d name k e in
        let there : down table m d name ≡ Some (node_in k found.0.source) = ap (option_and_then (source_place table)) e ∙ ap (option_map (λ (r : Row). node_in k r.source)) found.1 in
        let clash : None ≡ Some (node_in k found.0.source) = sym h ∙ there in
        absurd (let no : ⊥ = cc in no)

    down_free : (m d : ℕ) (name : List ℕ) (text : Text) → IsNamed t table m d text → name ∷ text ≢ r.text.location → down table m d name ≡ None → down more m d name ≡ None
    down_free m d name text at misses h =
        let none = none_first m d name (position (stands_at (is_point m d name)) table) refl h in
        ap (option_and_then (source_place more)) (position_push (stands_at (is_point m d name)) table r ∙ ap (λ o. option_or o (cond (stands_at (is_point m d name) r) (Some (length table)) None)) none
        ∙ ap (λ b. option_or None (cond b (Some (length table)) None)) (fails (is_point m d name p) refl))
      where
        fails : (b : Bool) → is_point m d name p ≡ b → stands_at (is_point m d name) r ≡ false
        fails false e = ap (λ o. option_map_or (is_point m d name) o false) is ∙ e
        fails true e =
            let same : p ≡ point_at m d name = point_is m d name p e in
            let Q : Point → Type 0 = λ p. IsNamed t table p.mount p.dir text in
            let texts : own.up ≡ text = unique p.mount p.dir own.up text own.is_named (subst Q (sym same) at) (is_a_directory t p.dir own.stands.listed) in
            absurd (misses (ap (λ (p : Point). p.name ∷ text) (sym same) ∙ ap (λ up. p.name ∷ up) (sym texts) ∙ sym own.located))

    behind_same : (m d : ℕ) (name : List ℕ) (text : Text) → IsNamed t table m d text → name ∷ text ≢ r.text.location → (o : Option (Place ℕ)) → down table m d name ≡ o → (q : Place ℕ) → behind m (entry t d name) o ≡ Some q
        → behind m (entry t d name) (down more m d name) ≡ Some q
    behind_same m d name text at misses None e q h = ap (behind m (entry t d name)) (down_free m d name text at misses e) ∙ h
    behind_same m d name text at misses (Some x) e q h = ap (behind m (entry t d name)) (down_old m d name x e) ∙ h

    next_same : (q0 : Place ℕ) (name : List ℕ) (text : Text) → IsNamed t table q0.mount (node_number q0.host) text → name ∷ text ≢ r.text.location → (h : Host) → q0.host ≡ h → (q : Place ℕ)
        → next_by_name table t name q0.mount h ≡ Some q → next_by_name more t name q0.mount h ≡ Some q
    next_same q0 name text at misses (Node d) e q h =
        let P : Host → Type 0 = λ h. IsNamed t table q0.mount (node_number h) text in
        behind_same q0.mount d name text (subst P e at) misses (down table q0.mount d name) refl q h
    next_same q0 name text at misses (Proc i pid) e q h = absurd cc

    led_same : (text : Text) → Misses text → (q : Place ℕ) → led table t text ≡ Some q → led more t text ≡ Some q
    led_same [] misses q h = ap (λ i. Some (node_in 0 i)) (ap (λ rows. root_source (rows ++ r ∷ [])) s.first ∙ sym root_source_is) ∙ h
    led_same (name ∷ text) misses q h =
        let up = then_some (λ (p : Place ℕ). next_by_name table t name p.mount p.host) (led table t text) q h in
        ap (option_and_then (λ (p : Place ℕ). next_by_name more t name p.mount p.host)) (led_same text misses.1 up.0 up.1)
        ∙ next_same up.0 name text (named_where text up.0 up.1) misses.0 up.0.host refl q up.2

    up_less : length own.up < length r.text.location
    up_less = let same : length r.text.location ≡ length (p.name ∷ own.up) = ap length own.located in omega arith

    own_down : down more p.mount p.dir p.name ≡ Some (node_in (length table) r.source)
    own_down =
        let none : position (stands_at (is_point p.mount p.dir p.name)) table ≡ None = at (position (stands_at (is_point p.mount p.dir p.name)) table) refl in
        let passes : stands_at (is_point p.mount p.dir p.name) r ≡ true = ap (λ o. option_map_or (is_point p.mount p.dir p.name) o false) is ∙ point_itself p in
        ap (option_and_then (source_place more)) (position_push (stands_at (is_point p.mount p.dir p.name)) table r
        ∙ ap (λ o. option_or o (cond (stands_at (is_point p.mount p.dir p.name) r) (Some (length table)) None)) none
        ∙ ap (λ b. option_or None (cond b (Some (length table)) None)) passes)
        ∙ ap (option_map (λ (r : Row). node_in (length table) r.source)) (get_last table r)
      where
        at : (o : Option ℕ) → position (stands_at (is_point p.mount p.dir p.name)) table ≡ o → o ≡ None
        at None e = refl
        at (Some k) e =
            let found = point_found table p.mount p.dir p.name k e in
            let there = located_at k found.0 p.mount p.dir p.name own.up found.1 found.2 own.is_named in
            absurd ((is_last k found.0 found.1).1 (there.0 ∙ sym own.located))

    own_led : led more t r.text.location ≡ Some (node_in (length table) r.source)
    own_led =
        ap (led more t) own.located
        ∙ ap (option_and_then (λ (q : Place ℕ). next_by_name more t p.name q.mount q.host)) (led_same own.up (shorter_misses own.up up_less) (node_in p.mount p.dir) own.is_led)
        ∙ ap (behind p.mount (entry t p.dir p.name)) own_down

    named_more : (m d : ℕ) (text : Text) → IsNamed t table m d text → IsNamed t more m d text
    named_more m d text n = record { mount = n.mount; there = get_left table (r ∷ []) m n.mount n.there; rest = n.rest; below = n.below; leads = n.leads; names = n.names }

    stands_more_at : (k : ℕ) (q : Row) (x : Point) → length q.text.location ≤ length r.text.location → StandsAt t table k q x → StandsAt t more k q x
    stands_more_at k q x less at = record {
      up = at.up;
      located = at.located;
      is_led = led_same at.up (shorter_misses at.up (let same : length q.text.location ≡ length (x.name ∷ at.up) = ap length at.located in omega arith)) (node_in x.mount x.dir) at.is_led;
      is_named = named_more x.mount x.dir at.up at.is_named;
      stands = at.stands;
      above = at.above;
      told = at.told;
      leads = at.leads;
    }

    each_source : (k : ℕ) (q : Row) → row more k ≡ Some q → HasSource t q
    each_source k q h = elim (get_any table r k q h) [ inl e ↦ s.sources k q e | inr e ↦ subst (HasSource t) (sym e.1) source ]

    each_point : (k : ℕ) (q : Row) → row more (suc k) ≡ Some q → (x : Point) × (q.point ≡ Some x) × StandsAt t more (suc k) q x
    each_point k q h = elim (get_any table r (suc k) q h) [
      | inl e ↦ let x = s.points k q e in (x.0, x.1, stands_more_at (suc k) q x.0 (is_last (suc k) q e).0 x.2)
      | inr e ↦
          let P : ℕ → Row → Type 0 = λ k q. (x : Point) × (q.point ≡ Some x) × StandsAt t more k q x in
          let mine : P (length table) r = (p, is, stands_more_at (length table) r p (omega arith) own) in
          subst (λ k. P k q) (sym e.0) (subst (P (length table)) (sym e.1) mine)
    ]

    each_led : (k : ℕ) (q : Row) → row more k ≡ Some q → led more t q.text.location ≡ Some (node_in k q.source)
    each_led k q h = elim (get_any table r k q h) [
      | inl e ↦ let l = is_last k q e in led_same q.text.location (other_misses q.text.location l.0 l.1) (node_in k q.source) (s.are_led k q e)
      | inr e ↦
          let P : ℕ → Row → Type 0 = λ k q. led more t q.text.location ≡ Some (node_in k q.source) in
          subst (λ k. P k q) (sym e.0) (subst (P (length table)) (sym e.1) own_led)
    ]

    each_own : (j k : ℕ) (x y : Row) → row more j ≡ Some x → row more k ≡ Some y → x.text.location ≡ y.text.location → j ≡ k
    each_own j k x y one two same = elim (get_any table r j x one) [
      | inl e ↦ elim (get_any table r k y two) [
        | inl f ↦ s.own_location j k x y e f same
        | inr f ↦ absurd ((is_last j x e).1 (same ∙ ap (λ (r : Row). r.text.location) f.1))
      ]
      | inr e ↦ elim (get_any table r k y two) [
        | inl f ↦ absurd ((is_last k y f).1 (sym same ∙ ap (λ (r : Row). r.text.location) e.1))
        | inr f ↦ e.0 ∙ sym f.0
      ]
    ]

    pub stands_more : Stands t more
    stands_more = record {
      sound = s.sound;
      counted = s.counted;
      guest = s.guest;
      others = s.others ++ r ∷ [];
      first = ap (λ rows. rows ++ r ∷ []) s.first;
      root_index = s.root_index;
      root_location = s.root_location;
      root_told = s.root_told;
      root_point = s.root_point;
      root_dir = s.root_dir;
      sources = each_source;
      points = each_point;
      are_led = each_led;
      own_location = each_own;
    }
