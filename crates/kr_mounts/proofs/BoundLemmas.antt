-- What settled bindings are to a tracer's table.
use Rattle.std.proofs.Common.{◌≡◌, ◌≢◌, ◌<◌, ◌+◌, ◌⊎◌, inl, inr, ℕ, zero, suc, true, false, List, [], ◌∷◌, ◌++◌, append_assoc, append-nil, length, map, reverse, Some, None, IfSome, Result, Ok, Err, slice_get, refl, ap, sym, subst, ◌∙◌, arith, nat_le, All}
use Rattle.std.specs.Bool.{if◌then◌else◌}
use Rattle.std.specs.List.{AllByRecursion, list_any}
use Rattle.std.specs.Option.{option_map_or}
use Rattle.std.proofs.lemmas.List.Elements.{All-cons, All-head, All-nil, All-tail}
use Rattle.pt_bind.specs.pr_base.MountText.{MountText, bound_of}
use Rattle.pt_bind.specs.pr_base.Paths.{AreParts, text_of}
use Rattle.pt_bind.specs.pr_base.Texts.{Text}
use Rattle.pt_bind.specs.pr_base.declared.bind.Bind.{Bind}
use Rattle.pt_bind.specs.pr_base.declared.bind.Bound.{Bound}
use Rattle.pt_bind.specs.Binding.{AreBounds, AreTexts, IsWritten, point_of, row_of as texts_of}
use Rattle.pt_bind.proofs.ByteLemmas.{spelled, spelled_parts}
use Rattle.kr_walk.specs.kr_inode.declared.user.User.{User}
use Rattle.kr_walk.specs.kr_tree.Tree.{Tree}
use Rattle.kr_walk.specs.kr_view.View.{Point, Row}
use Rattle.kr_mounts.specs.Bounds.{AreNumbered, AreWritten, IsSpelled}
use Rattle.kr_mounts.specs.Locations.{location_by}
use Rattle.kr_mounts.specs.MountTable.{Located, Refusal, Settling, Sourced, after_way, and_then, as_source, counting, in_order, is_located_as, located, located_all, locations, placed_before, point_row, points, points_of, root_row, settling, sourced, sources, told, way_along}
use Rattle.kr_mounts.specs.Order.{AreApart}
use Rattle.kr_mounts.specs.Sources.{Source, root_source_by, source_by}
use Rattle.kr_mounts.specs.Stored.{table_of}
use Rattle.kr_mounts.specs.declared.fault.BindWhy.{BindWhy}
use Rattle.kr_mounts.specs.declared.fault.BindWhy.TheVariants.{AtRoot}
use Rattle.kr_mounts.specs.declared.mount.Mount.{Mount}
use Rattle.kr_mounts.proofs.OrderLemmas.{bindings_are_in_order, counting_each, ordered_each, placed_each}

-- ---- answers

pub ok_is : {A E : Type 0} (x y : A) → ◌≡◌ {A = Result A E} (Ok x) (Ok y) → x ≡ y
ok_is x y h = cc

pub then_ok : {A B : Type 0} (r : Result A Refusal) (go : A → Result B Refusal) (y : B) → and_then r go ≡ Ok y → (x : A) × (r ≡ Ok x) × (go x ≡ Ok y)
then_ok (Ok x) go y h = (x, refl, h)
then_ok (Err e) go y h = absurd cc

-- ---- indices

-- indices that are counted on from a number
abbrev NumberedFrom : ℕ → List Bind → Type 0
NumberedFrom n [] = Unit {0}
NumberedFrom n (bind ∷ binds) = (bind.index ≡ n) × NumberedFrom (n + 1) binds

numbered_from : (n : ℕ) (binds : List Bind) → ((k : ℕ) (b : Bind) → slice_get binds k ≡ Some b → b.index ≡ n + k) → NumberedFrom n binds
numbered_from n [] h = tt
numbered_from n (bind ∷ binds) h = (let own = h 0 bind refl in omega arith, numbered_from (n + 1) binds (λ k b e. let one = h (suc k) b e in omega arith))

abbrev SourcesFrom : ℕ → List Sourced → Type 0
SourcesFrom n [] = Unit {0}
SourcesFrom n (s ∷ more) = (s.bind.index ≡ n) × SourcesFrom (n + 1) more

abbrev LocatedFrom : ℕ → List Located → Type 0
LocatedFrom n [] = Unit {0}
LocatedFrom n (one ∷ more) = (one.index ≡ n) × LocatedFrom (n + 1) more

sourced_bind : (t : Tree) (user : User) (bind : Bind) (one : Sourced) → sourced t user bind ≡ Ok one → one.bind.index ≡ bind.index
sourced_bind t user bind one h =
    let go : Source → Result Sourced Refusal = λ source. Ok (record { bind = bind; source = source }) in
    let s = then_ok (told bind.index (as_source (source_by t user bind.host))) go one h in
    let made : Sourced = record { bind = bind; source = s.0 } in
    sym (ap (λ (s : Sourced). s.bind.index) (ok_is made one s.2))

sources_from : (t : Tree) (user : User) (n : ℕ) (binds : List Bind) → NumberedFrom n binds → (ss : List Sourced) → sources t user binds ≡ Ok ss → SourcesFrom n ss
sources_from t user n [] h ss is = subst (SourcesFrom n) (ok_is [] ss is) tt
sources_from t user n (bind ∷ binds) h ss is =
    let one = then_ok (sourced t user bind) (λ one. and_then (sources t user binds) (λ more. Ok (one ∷ more))) ss is in
    let more = then_ok (sources t user binds) (λ more. Ok (one.0 ∷ more)) ss one.2 in
    subst (SourcesFrom n) (ok_is (one.0 ∷ more.0) ss more.2) (sourced_bind t user bind one.0 one.1 ∙ h.0, sources_from t user (n + 1) binds h.1 more.0 more.1)

located_index : (t : Tree) (user : User) (root : ℕ) (s : Sourced) (one : Located) → located t user root s ≡ Ok one → one.index ≡ s.bind.index
located_index t user root s one h =
    let go : Text → Result Located Refusal = λ location. Ok (record { index = s.bind.index; keep = s.bind.keep; source = s.source; location = location }) in
    let l = then_ok (told s.bind.index (location_by t user root s.bind.keep s.bind.guest)) go one h in
    let made : Located = record { index = s.bind.index; keep = s.bind.keep; source = s.source; location = l.0 } in
    sym (ap (λ (one : Located). one.index) (ok_is made one l.2))

locations_from : (t : Tree) (user : User) (root n : ℕ) (ss : List Sourced) → SourcesFrom n ss → (all : List Located) → locations t user root ss ≡ Ok all → LocatedFrom n all
locations_from t user root n [] h all is = subst (LocatedFrom n) (ok_is [] all is) tt
locations_from t user root n (s ∷ ss) h all is =
    let one = then_ok (located t user root s) (λ one. and_then (locations t user root ss) (λ rest. Ok (one ∷ rest))) all is in
    let more = then_ok (locations t user root ss) (λ rest. Ok (one.0 ∷ rest)) all one.2 in
    subst (LocatedFrom n) (ok_is (one.0 ∷ more.0) all more.2) (located_index t user root s one.0 one.1 ∙ h.0, locations_from t user root (n + 1) ss h.1 more.0 more.1)

above : (n : ℕ) (all : List Located) → LocatedFrom n all → (m : ℕ) → m < n → AllByRecursion (λ (other : Located). m ≢ other.index) all
above n [] h m less = tt
above n (one ∷ more) h m less = (differ, above (n + 1) more h.1 m (omega arith))
  where
    differ : m ≢ one.index
    differ same = let is : one.index ≡ n = h.0 in let no : ⊥ = omega arith in no

-- no two have one index
abbrev AreOwn : List Located → Type 0
AreOwn [] = Unit {0}
AreOwn (one ∷ more) = AllByRecursion (λ (other : Located). one.index ≢ other.index) more × AreOwn more

own_from : (n : ℕ) (all : List Located) → LocatedFrom n all → AreOwn all
own_from n [] h = tt
own_from n (one ∷ more) h = (let is : one.index ≡ n = h.0 in above (n + 1) more h.1 one.index (omega arith), own_from (n + 1) more h.1)

counting_own : (all : List Located) → AreOwn all → AreOwn (counting all)
counting_own [] h = h
counting_own (one ∷ more) h =
    elim (list_any (is_located_as one) more) as (λ b. AreOwn (if b then counting more else one ∷ counting more)) [
      | true ↦ counting_own more h.1
      | false ↦ (counting_each (λ other. one.index ≢ other.index) more h.0, counting_own more h.1)
    ]

placed_own : (one : Located) (all : List Located) → AllByRecursion (λ (other : Located). one.index ≢ other.index) all → AreOwn all → AreOwn (placed_before one all)
placed_own one [] h own = (tt, tt)
placed_own one (other ∷ more) h own =
    elim (nat_le (length one.location) (length other.location)) as (λ b. AreOwn (if b then one ∷ other ∷ more else other ∷ placed_before one more)) [
      | true ↦ (h, own)
      | false ↦ (placed_each (λ x. other.index ≢ x.index) one more (λ same. h.0 (sym same)) own.0, placed_own one more h.1 own.1)
    ]

ordered_own : (all : List Located) → AreOwn all → AreOwn (in_order all)
ordered_own [] h = h
ordered_own (one ∷ more) h = placed_own one (in_order more) (ordered_each (λ other. one.index ≢ other.index) more h.0) (ordered_own more h.1)

-- ---- rows of bindings

-- each row has the index and the location of its binding, which isn't at the root
abbrev pub AreRows : List Located → List Row → Type 0
AreRows [] [] = Unit {0}
AreRows [] (r ∷ rows) = ⊥
AreRows (one ∷ more) [] = ⊥
AreRows (one ∷ more) (r ∷ rows) = (r.text.index ≡ one.index) × (r.text.location ≡ one.location) × (one.location ≢ []) × AreRows more rows

after_rows : (table full : List Row) (one : Located) (all : List Located) (t : Tree) (answer : Result Point BindWhy) (go : Tree → List Row → Settling) → (one.location ≡ [] → (p : Point) → answer ≡ Ok p → ⊥)
    → ((u : Tree) (more : List Row) → (go u more).answer ≡ Ok full → (rows : List Row) × (full ≡ more ++ rows) × AreRows all rows)
    → (after_way table one t answer go).answer ≡ Ok full → (rows : List Row) × (full ≡ table ++ rows) × AreRows (one ∷ all) rows
after_rows table full one all t (Ok p) go none next is =
    let r = point_row t one p in
    let rest = next t (table ++ r ∷ []) is in
    (r ∷ rest.0, rest.1 ∙ append_assoc table (r ∷ []) rest.0, (refl, refl, (λ e. none e p refl), rest.2))
after_rows table full one all t (Err why) go none next is = absurd cc

pub points_rows : (user : User) (all : List Located) (t : Tree) (table full : List Row) → (points user all t table).answer ≡ Ok full → (rows : List Row) × (full ≡ table ++ rows) × AreRows all rows
points_rows user [] t table full is = ([], sym (ok_is table full is) ∙ sym (append-nil table), tt)
points_rows user (one ∷ all) t table full is =
    let left = way_along user table one t (reverse one.location) in
    after_rows table full one all left.tree left.answer (points user all) none (λ u more h. points_rows user all u more full h) is
  where
    none : one.location ≡ [] → (p : Point) → (way_along user table one t (reverse one.location)).answer ≡ Ok p → ⊥
    none e p h =
        let clash : ◌≡◌ {A = Result Point BindWhy} (Err AtRoot) (Ok p) = sym (ap (λ l. (way_along user table one t (reverse l)).answer) e) ∙ h in
        let no : ⊥ = cc in no

each_row : (P : Located → Type 0) (Q : Row → Type 0) → ((x : Located) (r : Row) → r.text.index ≡ x.index → r.text.location ≡ x.location → x.location ≢ [] → P x → Q r)
    → (all : List Located) (rows : List Row) → AreRows all rows → AllByRecursion P all → AllByRecursion Q rows
each_row P Q via [] [] h ps = tt
each_row P Q via [] (r ∷ rows) h ps = absurd h
each_row P Q via (one ∷ all) [] h ps = absurd h
each_row P Q via (one ∷ all) (r ∷ rows) h ps = (via one r h.0 h.1 h.2 ps.0, each_row P Q via all rows h.3 ps.1)

-- ---- what tells apart

abbrev pub ApartBy : {A K : Type 0} → (A → K) → List A → Type 0
ApartBy f [] = Unit {0}
ApartBy f (x ∷ xs) = AllByRecursion (λ y. f x ≢ f y) xs × ApartBy f xs

indices_apart : (all : List Located) (rows : List Row) → AreRows all rows → AreOwn all → ApartBy (λ (r : Row). r.text.index) rows
indices_apart [] [] h own = tt
indices_apart [] (r ∷ rows) h own = absurd h
indices_apart (one ∷ all) [] h own = absurd h
indices_apart (one ∷ all) (r ∷ rows) h own =
    (each_row (λ x. one.index ≢ x.index) (λ y. r.text.index ≢ y.text.index) (λ x y index location some differ same. differ (sym h.0 ∙ same ∙ index)) all rows h.3 own.0, indices_apart all rows h.3 own.1)

locations_apart : (all : List Located) (rows : List Row) → AreRows all rows → AreApart all → ApartBy (λ (r : Row). r.text.location) rows
locations_apart [] [] h apart = tt
locations_apart [] (r ∷ rows) h apart = absurd h
locations_apart (one ∷ all) [] h apart = absurd h
locations_apart (one ∷ all) (r ∷ rows) h apart =
    (each_row (λ x. one.location ≢ x.location) (λ y. r.text.location ≢ y.text.location) (λ x y index location some differ same. differ (sym h.1 ∙ same ∙ location)) all rows h.3 apart.0, locations_apart all rows h.3 apart.1)

each_at : {A : Type 0} (P : A → Type 0) (xs : List A) → AllByRecursion P xs → (k : ℕ) (r : A) → slice_get xs k ≡ Some r → P r
each_at P [] h k r e = absurd cc
each_at P (x ∷ xs) h zero r e = let same : x ≡ r = cc in subst P same h.0
each_at P (x ∷ xs) h (suc k) r e = each_at P xs h.1 k r e

pub own_at : {A K : Type 0} (f : A → K) (xs : List A) → ApartBy f xs → (j k : ℕ) (q r : A) → slice_get xs j ≡ Some q → slice_get xs k ≡ Some r → f q ≡ f r → j ≡ k
own_at f [] h j k q r one two same = absurd cc
own_at f (x ∷ xs) h zero zero q r one two same = refl
own_at f (x ∷ xs) h zero (suc k) q r one two same =
    let is : x ≡ q = cc in
    absurd (each_at (λ y. f x ≢ f y) xs h.0 k r two (ap f is ∙ same))
own_at f (x ∷ xs) h (suc j) zero q r one two same =
    let is : x ≡ r = cc in
    absurd (each_at (λ y. f x ≢ f y) xs h.0 j q one (ap f is ∙ sym same))
own_at f (x ∷ xs) h (suc j) (suc k) q r one two same = ap suc (own_at f xs h.1 j k q r one two same)

-- ---- the whole table

-- the root's row and the others, of which none has the index or the location of another
pub record IsApart (full : List Row) : Type 0 where
  pub root : Row
  pub others : List Row
  pub first : full ≡ root ∷ others
  pub root_index : root.text.index ≡ 0
  pub root_location : root.text.location ≡ []
  pub root_point : root.text.point ≡ None
  pub own_index : ApartBy (λ (r : Row). r.text.index) (root ∷ others)
  pub own_location : ApartBy (λ (r : Row). r.text.location) (root ∷ others)

pub points_ok : (t : Tree) (user : User) (full : List Row) (r : Result (Row × List Located) Refusal) → (points_of t user r).answer ≡ Ok full
    → (all : Row × List Located) × (r ≡ Ok all) × ((points user (in_order (counting all.1)) t (all.0 ∷ [])).answer ≡ Ok full)
points_ok t user full (Ok all) h = (all, refl, h)
points_ok t user full (Err e) h = absurd cc

located_from : (t : Tree) (user : User) (root : List ℕ) (binds : List Bind) → NumberedFrom 1 binds → (all : Row × List Located) → located_all t user root binds ≡ Ok all → (source : Source) × (all.0 ≡ root_row source) × LocatedFrom 1 all.1
located_from t user root binds numbered all is =
    let source = then_ok (told 0 (root_source_by t user root)) (λ source. and_then (sources t user binds) (λ more. and_then (locations t user source.inode more) (λ all. Ok (root_row source, all)))) all is in
    let more = then_ok (sources t user binds) (λ more. and_then (locations t user source.0.inode more) (λ all. Ok (root_row source.0, all))) all source.2 in
    let rest = then_ok (locations t user source.0.inode more.0) (λ all. Ok (root_row source.0, all)) all more.2 in
    let pair : Row × List Located = (root_row source.0, rest.0) in
    let same : pair ≡ all = ok_is pair all rest.2 in
    let from = locations_from t user source.0.inode 1 more.0 (sources_from t user 1 binds numbered more.0 more.1) rest.0 rest.1 in
    let P : Row × List Located → Type 0 = λ all. LocatedFrom 1 all.1 in
    (source.0, ap (λ (p : Row × List Located). p.0) (sym same), subst P same from)

pub settled_apart : (t : Tree) (user : User) (root : List ℕ) (binds : List Bind) → AreNumbered binds → (full : List Row) → (settling t user root binds).answer ≡ Ok full → IsApart full
settled_apart t user root binds numbered full is =
    let all = points_ok t user full (located_all t user root binds) is in
    let from = located_from t user root binds (numbered_from 1 binds numbered) all.0 all.1 in
    let ordered = in_order (counting all.0.1) in
    let rows = points_rows user ordered t (all.0.0 ∷ []) full all.2 in
    let own = ordered_own (counting all.0.1) (counting_own all.0.1 (own_from 1 all.0.1 from.2)) in
    let apart = (bindings_are_in_order all.0.1).apart in
    let later : AllByRecursion (λ (x : Located). 0 ≢ x.index) ordered = ordered_each (λ x. 0 ≢ x.index) (counting all.0.1) (counting_each (λ x. 0 ≢ x.index) all.0.1 (above 1 all.0.1 from.2 0 (omega arith))) in
    let r = root_row from.0 in
    record {
      root = r;
      others = rows.0;
      first = rows.1 ∙ ap (λ (r : Row). r ∷ rows.0) from.1;
      root_index = refl;
      root_location = refl;
      root_point = refl;
      own_index = (each_row (λ x. 0 ≢ x.index) (λ y. r.text.index ≢ y.text.index) (λ x y index location some differ same. differ (same ∙ index)) ordered rows.0 rows.2 later, indices_apart ordered rows.0 rows.2 own);
      own_location = (each_row (λ x. 0 ≢ x.index) (λ y. r.text.location ≢ y.text.location) (λ x y index location some differ same. some (sym location ∙ sym same)) ordered rows.0 rows.2 later, locations_apart ordered rows.0 rows.2 apart);
    }

-- ---- in bytes

pub by_recursion : (mounts : List Mount) → All IsSpelled mounts → AllByRecursion IsSpelled mounts
by_recursion [] w = tt
by_recursion (m ∷ mounts) w = (All-head IsSpelled m mounts w, by_recursion mounts (All-tail IsSpelled m mounts w))

abbrev texts_in : List Row → List MountText
texts_in rows = map (λ (r : Row). r.text) rows

each_in : (P : MountText → Type 0) (rows : List Row) → AllByRecursion (λ (r : Row). P r.text) rows → AllByRecursion P (texts_in rows)
each_in P [] h = tt
each_in P (r ∷ rows) h = (h.0, each_in P rows h.1)

apart_in : {K : Type 0} (f : MountText → K) (rows : List Row) → ApartBy (λ (r : Row). f r.text) rows → ApartBy f (texts_in rows)
apart_in f [] h = tt
apart_in f (r ∷ rows) h = (each_in (λ y. f r.text ≢ f y) rows h.0, apart_in f rows h.1)

point_back : (bytes : List ℕ) → (bytes ≡ []) ⊎ IsWritten bytes → option_map_or text_of (point_of bytes) [] ≡ bytes
point_back [] w = refl
point_back (b ∷ bytes) (inl none) = absurd cc
point_back (b ∷ bytes) (inr w) = sym (spelled (b ∷ bytes) w)

bound_back : (bound : Bound) → AreWritten bound → bound ≡ bound_of (texts_of bound)
bound_back bound w =
    let location = spelled bound.location w.location in
    let source = spelled bound.source w.source in
    let point = sym (point_back bound.point w.point) in
    λ i. record { index = bound.index; location = location i; source = source i; point = point i }

bounds_back : (mounts : List Mount) → AllByRecursion IsSpelled mounts → map (λ (m : Mount). m.text) mounts ≡ map bound_of (texts_in (table_of mounts))
bounds_back [] w = refl
bounds_back (m ∷ mounts) w = let own = bound_back m.text w.0 in let rest = bounds_back mounts w.1 in λ i. own i ∷ rest i

point_parts : (bytes : List ℕ) → (bytes ≡ []) ⊎ IsWritten bytes → IfSome (point_of bytes) AreParts
point_parts [] w = tt
point_parts (b ∷ bytes) (inl none) = absurd cc
point_parts (b ∷ bytes) (inr w) = spelled_parts (b ∷ bytes) w

all_texts : (mounts : List Mount) → AllByRecursion IsSpelled mounts → All AreTexts (texts_in (table_of mounts))
all_texts [] w = All-nil AreTexts
all_texts (m ∷ mounts) w =
    let own : AreTexts (texts_of m.text) = record { location = spelled_parts m.text.location w.0.location; source = spelled_parts m.text.source w.0.source; point = point_parts m.text.point w.0.point } in
    All-cons AreTexts (texts_of m.text) (texts_in (table_of mounts)) own (all_texts mounts w.1)

pub bounds_settled : (mounts : List Mount) → AllByRecursion IsSpelled mounts → IsApart (table_of mounts) → AreBounds (map (λ (m : Mount). m.text) mounts)
bounds_settled mounts w apart =
    let whole : texts_in (table_of mounts) ≡ texts_in (apart.root ∷ apart.others) = ap texts_in apart.first in
    let P : List MountText → Type 0 = ApartBy (λ (t : MountText). t.index) in
    let Q : List MountText → Type 0 = ApartBy (λ (t : MountText). t.location) in
    record {
      table = texts_in (table_of mounts);
      settled = record {
        texts = all_texts mounts w;
        root = apart.root.text;
        others = texts_in apart.others;
        first = whole;
        root_index = apart.root_index;
        root_location = apart.root_location;
        root_point = apart.root_point;
        own_location = own_at (λ (t : MountText). t.location) (texts_in (table_of mounts)) (subst Q (sym whole) (apart_in (λ t. t.location) (apart.root ∷ apart.others) apart.own_location));
        own_index = own_at (λ (t : MountText). t.index) (texts_in (table_of mounts)) (subst P (sym whole) (apart_in (λ t. t.index) (apart.root ∷ apart.others) apart.own_index));
      };
      written = bounds_back mounts w;
    }
